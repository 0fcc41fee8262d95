-- The ways on from a place: what their literals tell.
use Rattle.std.proofs.Common.{◌≡◌, ℕ, ◌+◌, Bool, true, false, ◌&&◌, ◌≤◌, List, [], ◌∷◌, ◌++◌, length, take, Some, None, refl, sym, ap, subst, ◌∙◌, arith}
use Rattle.std.specs.Prelude.{slice_get}
use Rattle.std.specs.List.{AllZip}
use Rattle.std.specs.Option.{IsSomeAnd}
use Rattle.std.proofs.lemmas.List.{take_all, take_more}
use Rattle.std.proofs.lemmas.Bool.{ne_eqb}
use Rattle.std.proofs.lemmas.Option.{get_or_from_slice_get, same_Some, slice_get_within}
use Rattle.circuit.specs.Truth.{World}
use Rattle.circuit.specs.Wires.{IsWire, lit_holds}
use Rattle.circuit.specs.declared.lit.Gate.{Gate}
use Rattle.circuit.specs.declared.lit.Lit.{Lit}
use Rattle.bit_words.specs.Words.{Grows}
use Rattle.bit_words.proofs.Steps.{grows_then, same, still}
use Rattle.bit_words.proofs.Values.{no_holds}
use Rattle.cfa.specs.declared.parts.GraphParts.{GraphParts}
use Rattle.c_meaning.specs.declared.stepped.Stepped.{Stepped}
use Rattle.c_meaning.specs.declared.stepped.Stepped.TheVariants.{Moved, Returned, Trapped, Blocked, TooDeep}
use Rattle.unwinder_reach.specs.declared.reached.step.Step.{Step}
use Rattle.sym_expr.specs.declared.sym_steps.state.SymState.{SymState}
use Rattle.sym_expr.specs.declared.sym_steps.state.Way.{Way}
use Rattle.sym_expr.specs.sym_steps.Steps.{goes_along}
use Rattle.unwinder.specs.declared.arrival.Arrival.{Arrival}
use Rattle.unwinder.specs.Onward.{IsAlong, LeadsAlong, WaysTell}
use Rattle.unwinder.proofs.ListLaws.{zip_change, zip_push}

and_never : (b : Bool) → (b && false) ≡ false
and_never true = refl
and_never false = refl

-- no run goes on along an edge without a way
goes_never : (gates : List Gate) (ways : List Way) (w : World) (at : ℕ) → ((way : Way) → LeadsAlong ways at way → ⊥) → (next : Stepped) → WaysTell gates ways w next → goes_along at next ≡ false
goes_never gates ways w at none (Moved a to) t = ne_eqb at a (λ same. let way = t.onward a to refl in none way.0 (way.1.0, way.1.1 ∙ sym same))
goes_never gates ways w at none (Returned v) t = refl
goes_never gates ways w at none (Trapped q) t = refl
goes_never gates ways w at none Blocked t = refl
goes_never gates ways w at none TooDeep t = refl

abbrev pub closed_along : ℕ → Arrival
closed_along at = record { edge = Some at; guard = record { wire = 0; negated = true }; state = None }

module _ (parts : GraphParts) (old new : List Gate) (guard : Lit) (ways : List Way) (behind : SymState) (at : ℕ) where
  closed_is : ((w : World) (next : Stepped) → WaysTell old ways w next → (lit_holds old guard w && goes_along at next) ≡ false) → IsAlong parts old new guard ways behind at (closed_along at)
  closed_is never = record {
    edge = refl;
    wire = omega arith;
    holds = λ w next t. no_holds new w ∙ sym (never w next t);
    unguarded = λ w off. no_holds new w;
    closed = λ none w. no_holds new w;
    way = λ q is. absurd cc;
    frames = λ q is. absurd cc;
    store = λ q is. absurd cc;
    node = λ q is. absurd cc;
  }

  -- no way leads along the edge
  pub along_none : ((way : Way) → LeadsAlong ways at way → ⊥) → IsAlong parts old new guard ways behind at (closed_along at)
  along_none none = closed_is (λ w next t. ap (λ b. lit_holds old guard w && b) (goes_never old ways w at none next t) ∙ and_never (lit_holds old guard w))

  module _ (way : Way) (leads : LeadsAlong ways at way) (both : Lit) (value : (w : World) → lit_holds new both w ≡ (lit_holds old guard w && lit_holds old way.taken w)) where
    told : (w : World) (next : Stepped) → WaysTell old ways w next → lit_holds new both w ≡ (lit_holds old guard w && goes_along at next)
    told w next t = value w ∙ ap (λ b. lit_holds old guard w && b) (t.each leads.0.0 way leads.0.1 ∙ ap (λ k. goes_along k next) leads.1)

    -- it is known to be taken in no world
    pub along_never : ((w : World) → lit_holds new both w ≡ false) → IsAlong parts old new guard ways behind at (closed_along at)
    along_never off = closed_is (λ w next t. sym (told w next t) ∙ off w)

    pub along_open : (q : SymState) → IsWire new both → q.frames ≡ behind.frames → q.store ≡ behind.store → IsSomeAnd (slice_get parts.edges at) (λ e. q.node ≡ e.target) → IsAlong parts old new guard ways behind at (record { edge = Some at; guard = both; state = Some q })
    along_open q wire frames store node = record {
      edge = refl;
      wire = wire;
      holds = told;
      unguarded = λ w off. value w ∙ ap (λ b. b && lit_holds old way.taken w) off;
      closed = λ none w. absurd cc;
      way = λ r is. (way, leads);
      frames = λ r is. ap (λ (s : SymState). s.frames) (sym (same_Some q r is)) ∙ frames;
      store = λ r is. ap (λ (s : SymState). s.store) (sym (same_Some q r is)) ∙ store;
      node = λ r is. subst (λ s. IsSomeAnd (slice_get parts.edges at) (λ e. s.node ≡ e.target)) (same_Some q r is) node;
    }

-- ---- over a circuit that has grown

pub ways_before : (old mid : List Gate) (most : ℕ) (ways : List Way) (w : World) (next : Stepped) → Grows old mid most → ((k : ℕ) (way : Way) → slice_get ways k ≡ Some way → IsWire old way.taken) → WaysTell old ways w next → WaysTell mid ways w next
ways_before old mid most ways w next g wires t = record {
  each = λ k way e. same g way.taken (wires k way e) w ∙ t.each k way e;
  onward = t.onward;
}

module _ (parts : GraphParts) (guard : Lit) (ways : List Way) (behind : SymState) (at : ℕ) (a : Arrival) where
  along_from : (old mid new : List Gate) (most : ℕ) → Grows old mid most → IsWire old guard → ((k : ℕ) (way : Way) → slice_get ways k ≡ Some way → IsWire old way.taken) → IsAlong parts mid new guard ways behind at a → IsAlong parts old new guard ways behind at a
  along_from old mid new most g wire wires h = record {
    edge = h.edge;
    wire = h.wire;
    holds = λ w next t. h.holds w next (ways_before old mid most ways w next g wires t) ∙ ap (λ b. b && goes_along at next) (same g guard wire w);
    unguarded = λ w off. h.unguarded w (same g guard wire w ∙ off);
    closed = h.closed;
    way = h.way;
    frames = h.frames;
    store = h.store;
    node = h.node;
  }

  pub along_later : (old mid new : List Gate) (most : ℕ) → Grows mid new most → IsAlong parts old mid guard ways behind at a → IsAlong parts old new guard ways behind at a
  along_later old mid new most g h = record {
    edge = h.edge;
    wire = still g a.guard h.wire;
    holds = λ w next t. same g a.guard h.wire w ∙ h.holds w next t;
    unguarded = λ w off. same g a.guard h.wire w ∙ h.unguarded w off;
    closed = λ none w. same g a.guard h.wire w ∙ h.closed none w;
    way = h.way;
    frames = h.frames;
    store = h.store;
    node = h.node;
  }

-- ---- one step after another

abbrev pub AlongStep : GraphParts → List Gate → List Gate → Lit → List Way → SymState → Step → Arrival → Type 0
AlongStep parts old new guard ways behind s a = IsAlong parts old new guard ways behind s.edge a

pub record AlongSoFar (parts : GraphParts) (old new : List Gate) (guard : Lit) (ways : List Way) (behind : SymState) (steps : List Step) (arrivals : List Arrival) (i : ℕ) : Type 0 where
  pub grows : Grows old new i
  pub along : AllZip (AlongStep parts old new guard ways behind) (take i steps) arrivals

pub along_more : (parts : GraphParts) (old mid new : List Gate) (guard : Lit) (ways : List Way) (behind : SymState) (steps : List Step) (arrivals : List Arrival) (i : ℕ) (s : Step) (a : Arrival) → AlongSoFar parts old mid guard ways behind steps arrivals i → slice_get steps i ≡ Some s → Grows mid new 1 → IsWire old guard
    → ((k : ℕ) (way : Way) → slice_get ways k ≡ Some way → IsWire old way.taken) → IsAlong parts mid new guard ways behind s.edge a → AlongSoFar parts old new guard ways behind steps (arrivals ++ a ∷ []) (i + 1)
along_more parts old mid new guard ways behind steps arrivals i s a h there g wire wires one =
    let whole : take (i + 1) steps ≡ take i steps ++ s ∷ [] = take_more steps i s (slice_get_within steps i s there) ∙ ap (λ q. take i steps ++ q ∷ []) (get_or_from_slice_get steps i s s there) in
    let P : List Step → Type 0 = λ ss. AllZip (AlongStep parts old new guard ways behind) ss (arrivals ++ a ∷ []) in
    record {
      grows = grows_then h.grows g;
      along = subst P (sym whole) (zip_push (AlongStep parts old new guard ways behind) (take i steps) arrivals s a
          (zip_change (AlongStep parts old mid guard ways behind) (AlongStep parts old new guard ways behind) (take i steps) arrivals (λ l t b e k. along_later parts guard ways behind t.edge b old mid new 1 g k) h.along)
          (along_from parts guard ways behind s.edge a old mid new i h.grows wire wires one));
    }

pub along_all : (parts : GraphParts) (old new : List Gate) (guard : Lit) (ways : List Way) (behind : SymState) (steps : List Step) (arrivals : List Arrival) (i : ℕ) → AlongSoFar parts old new guard ways behind steps arrivals i → length steps ≤ i → AllZip (AlongStep parts old new guard ways behind) steps arrivals
along_all parts old new guard ways behind steps arrivals i h le =
    let P : List Step → Type 0 = λ ss. AllZip (AlongStep parts old new guard ways behind) ss arrivals in subst P (take_all i steps le) h.along

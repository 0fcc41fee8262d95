-- Places to which no run comes.
use Rattle.std.proofs.Common.{◌≡◌, ℕ, zero, suc, true, false, List, [], ◌∷◌, length, map, Some, None, refl, sym, ap, subst, ◌∙◌, arith}
use Rattle.std.specs.Prelude.{slice_get}
use Rattle.std.proofs.lemmas.List.{length-map}
use Rattle.std.proofs.lemmas.Option.{same_Some}
use Rattle.circuit.specs.Truth.{World}
use Rattle.circuit.specs.Wires.{lit_holds}
use Rattle.circuit.specs.declared.lit.Gate.{Gate}
use Rattle.circuit.specs.declared.lit.Lit.{Lit}
use Rattle.bit_words.proofs.Values.{no_holds}
use Rattle.cfa.specs.declared.parts.GraphParts.{GraphParts}
use Rattle.cfa.specs.declared.state.Predicates.{Predicates}
use Rattle.cfa.specs.Contexts.{Pair}
use Rattle.c_meaning.specs.declared.ends.Ends.{Ends}
use Rattle.unwinder_reach.specs.declared.reached.step.Step.{Step}
use Rattle.sym_expr.specs.declared.sym_steps.state.SymState.{SymState}
use Rattle.unwinder.specs.declared.arrival.Arrival.{Arrival}
use Rattle.unwinder.specs.declared.merging.Met.{Met}
use Rattle.unwinder.specs.declared.taking.Place.{Place}
use Rattle.unwinder.specs.Agenda.{IsArrival, TakenAlone, entry_at}
use Rattle.unwinder.specs.Meeting.{Meets}
use Rattle.unwinder.specs.Place.{IsClosedPlace, IsPlace, closed_step}

-- no way of a row is taken alone in any world
abbrev pub NeverAlone : List Gate → List Arrival → Type 0
NeverAlone gates row = (w : World) (k : ℕ) (a : Arrival) (s : SymState) → TakenAlone gates row w k a s → ⊥

pub never_closed : (gates : List Gate) (row : List Arrival) → ((k : ℕ) (a : Arrival) → slice_get row k ≡ Some a → a.state ≡ None) → NeverAlone gates row
never_closed gates row closed w k a s one = let is : None ≡ Some s = sym (closed k a one.there) ∙ one.opened in cc

pub never_met : (parts : GraphParts) (entry : ℕ) (p : Pair) (old new : List Gate) (row : List Arrival) (m : Met) → Meets parts entry p old new row m → ((w : World) → lit_holds new m.guard w ≡ false) → NeverAlone old row
never_met parts entry p old new row m met off w k a s one = let so = met.one_taken w k a one.there one.taken in let no_guard = off w in cc

map_from : {X Y : Type 0} (f : X → Y) (xs : List X) (l : ℕ) (y : Y) → slice_get (map f xs) l ≡ Some y → (x : X) × (slice_get xs l ≡ Some x) × (f x ≡ y)
map_from f [] l y e = absurd cc
map_from f (x ∷ xs) zero y e = (x, refl, same_Some (f x) y e)
map_from f (x ∷ xs) (suc l) y e = map_from f xs l y e

pub closed_place_is : (parts : GraphParts) (predicates : Predicates) (entry : ℕ) (ends : Ends) (answers : List (List Lit)) (old new : List Gate) (row : List Arrival) (p : Pair) (steps : List Step) (node count : ℕ) (place : Place) → node ≡ p.node → count ≡ length predicates.meanings → NeverAlone old row → IsClosedPlace node count row steps place → IsPlace parts predicates entry ends answers old new row p steps place
closed_place_is parts predicates entry ends answers old new row p steps node count place same_node same_count never h = record {
  truths = h.truths;
  ended = record { wire = 0; negated = true };
  entries = h.entries ∙ ap (λ n. map (entry_at n h.truths (record { wire = 0; negated = true })) row) same_node;
  truth_wires = λ k d lt. let zero_wire = h.constant k d lt in omega (arith, zero_wire);
  truth_count = h.truth_count ∙ same_count;
  ended_wire = omega arith;
  long = ap length h.onward ∙ length-map steps closed_step;
  edges = λ k s a s_is a_is.
      let own = closed_one k a a_is in
      ap (λ (b : Arrival). b.edge) (sym own.2) ∙ ap (λ (r : Step). Some r.edge) (same_Some own.0 s (sym own.1 ∙ s_is));
  takes = λ w. record {
    none = λ off k a e. let own = closed_one k a e in ap (λ (q : Arrival). lit_holds new q.guard w) (sym own.2) ∙ no_holds new w;
    truths_are = λ k a s one. absurd (never w k a s one);
    ended_is = λ k a s one. absurd (never w k a s one);
    onward_are = λ k a s one. absurd (never w k a s one);
  };
  onward = λ k s a e q s_is a_is follows.
      let own = closed_one k a a_is in
      subst (IsArrival parts entry new q) own.2 (record {
        guard = omega arith;
        opened = λ r is. absurd cc;
        closed = λ none w. no_holds new w;
      });
}
  where
    closed_one : (k : ℕ) (a : Arrival) → slice_get place.onward k ≡ Some a → (s : Step) × (slice_get steps k ≡ Some s) × (closed_step s ≡ a)
    closed_one k a e = map_from closed_step steps k a (subst (λ (arrivals : List Arrival). slice_get arrivals k ≡ Some a) h.onward e)

-- The key of frames, outermost first, and how it rises along each edge.
use Rattle.std.proofs.Common.{◌≡◌, ℕ, ◌≤◌, true, false, List, [], ◌∷◌, ◌++◌, length, Option, Some, None, refl, ap, subst, ◌∙◌}
use Rattle.std.specs.Prelude.{◌≢◌, slice_get}
use Rattle.std.specs.List.{All}
use Rattle.std.specs.Option.{IsSomeAnd}
use Rattle.cfa.specs.declared.parts.Edge.{Edge}
use Rattle.cfa.specs.declared.parts.GraphParts.{GraphParts}
use Rattle.cfa.specs.declared.parts.Operation.{Operation}
use Rattle.cfa.specs.declared.parts.Operation.TheVariants.{Call, Return, Answer}
use Rattle.cfa.specs.Contexts.{FrameContext, Context, depth_of, frames_after, along_operation, open_counters, callers_of, ReturnsHome, HasCounter}
use Rattle.cfa.proofs.Exits.{taken}
use Rattle.c_lower_rules.specs.cfa_order.Order.{Standing, Moves, Resumes, IsInOrder}
use Rattle.c_lower_rules.proofs.cfa_order.Lists.{Before, less_before, less_alone, before_longer}
use Rattle.c_lower_rules.proofs.cfa_order.Keys.{frame_key, moved, resumes, has_counter}

module _ (parts : GraphParts) (at : ℕ → Standing) where
  abbrev pub source_in : Option Edge → ℕ
  source_in None = 0
  source_in (Some e) = e.source

  -- the node at which a caller waits
  abbrev pub place_of : Option ℕ → ℕ
  place_of None = 0
  place_of (Some call) = source_in (slice_get parts.edges call)

  abbrev pub key_at : FrameContext → ℕ → List ℕ
  key_at f node = frame_key (at node).loops f.counters (at node).rank

  abbrev pub key : List FrameContext → ℕ → List ℕ
  key [] node = []
  key (f ∷ callers) node = key callers (place_of f.call) ++ key_at f node

  -- a frame at a node has a counter for each loop
  abbrev pub Fits : FrameContext → ℕ → Type 0
  Fits f node = length f.counters ≡ length (at node).loops

  abbrev pub Waits : List FrameContext → Option ℕ → Type 0
  Waits [] call = call ≡ None
  Waits (g ∷ gs) call = Fits g (place_of call) × Waits gs g.call

  abbrev pub Stands : List FrameContext → ℕ → Type 0
  Stands [] node = ⊥
  Stands (f ∷ callers) node = Fits f node × Waits callers f.call

  pub record Rose (fs gs : List FrameContext) (m n : ℕ) : Type 0 where
    pub before : Before (key fs m) (key gs n)
    pub stands : Stands gs n

  -- what is known of the ends of an edge
  pub record Ends (e : Edge) : Type 0 where
    pub source : depth_of parts e.source ≡ length (at e.source).loops
    pub target : depth_of parts e.target ≡ length (at e.target).loops
    pub heads : All (λ h. h ≤ (at e.source).rank) (at e.source).loops

  inner : (e : Edge) (fs : List FrameContext) → Ends e → Moves e.enter e.back (at e.source) (at e.target) → Stands fs e.source → Rose fs (frames_after parts e fs) e.source e.target
  inner e [] ends m stands = absurd stands
  inner e (f ∷ callers) ends m stands =
      let w = moved e.enter e.back (at e.source) (at e.target) f.counters (depth_of parts e.source) (depth_of parts e.target) ends.source ends.target m ends.heads stands.0 in
      record { before = less_alone (key callers (place_of f.call)) _ _ w.less; stands = (w.long, stands.1) }

  waits : (fs : List FrameContext) (i : ℕ) (e : Edge) → slice_get parts.edges i ≡ Some e → Stands fs e.source → Waits fs (Some i)
  waits [] i e is stands = absurd stands
  waits (f ∷ callers) i e is stands =
      let place : place_of (Some i) ≡ e.source = ap source_in is in
      rw is stands

  called : (i : ℕ) (e : Edge) (fs : List FrameContext) → slice_get parts.edges i ≡ Some e → (at e.target).loops ≡ [] → Stands fs e.source → Rose fs (record { call = Some i; counters = [] } ∷ fs) e.source e.target
  called i e fs is entry stands = record {
    before = rw (is, entry) (before_longer (key fs e.source) (at e.target).rank);
    stands = (rw entry refl, waits fs i e is stands);
  }

  back_home : (e : Edge) (f : FrameContext) (callers : List FrameContext) (call : ℕ) → IsSomeAnd (slice_get parts.edges call) (λ c. Resumes (at c.source) (at e.target)) → f.call ≡ Some call → Stands (f ∷ callers) e.source → Rose (f ∷ callers) callers e.source e.target
  back_home e f [] call resume home stands = absurd (cc)
  back_home e f (g ∷ gs) call resume home stands =
      let c = taken (λ (c : Edge). Resumes (at c.source) (at e.target)) (slice_get parts.edges call) resume in
      let place : place_of f.call ≡ c.0.source = ap place_of home ∙ ap source_in c.1 in
      let fits : Fits g c.0.source = subst (Fits g) place stands.1.0 in
      let w = resumes (at c.0.source) (at e.target) g.counters c.2 fits in
      record {
        before = rw place (less_before (key gs (place_of g.call)) (key_at g c.0.source) (key_at g e.target) (key_at f e.source) w.less);
        stands = (w.long, stands.1.1);
      }

  -- a call enters its callee outside of loops
  abbrev pub Begins : Edge → Operation → Type 0
  Begins e (Call callee words arrays) = (at e.target).loops ≡ []
  Begins e _ = Unit {0}

  -- a return comes to where its call goes on
  abbrev pub Returns : Edge → Operation → Type 0
  Returns e (Return call dest) = IsSomeAnd (slice_get parts.edges call) (λ c. Resumes (at c.source) (at e.target))
  Returns e _ = Unit {0}

  -- along the edge of a number and an operation the key rises
  pub step : (op : Operation) (i : ℕ) (e : Edge) (rest : List Edge) (c : Context) → slice_get parts.edges i ≡ Some e → Ends e → IsInOrder at e rest op → Begins e op → Returns e op → ReturnsHome op c → Stands c.frames e.source → Rose c.frames (along_operation parts i e op c).frames e.source e.target
  step (Call callee words arrays) i e rest c is ends order begins back home stands = called i e c.frames is begins stands
  step (Return call dest) i e rest c is ends order begins back home stands = returned c.frames home stands
    where
      returned : (fs : List FrameContext) → IsSomeAnd (slice_get fs 0) (λ f. f.call ≡ Some call) → Stands fs e.source → Rose fs (callers_of fs) e.source e.target
      returned [] home stands = absurd stands
      returned (f ∷ callers) home stands = back_home e f callers call back home stands
  step (Answer input dest) i e rest c is ends order begins back home stands = inner e c.frames ends order stands
  step _ i e rest c is ends order begins back home stands = inner e c.frames ends order stands

  raises : (e : Edge) (fs : List FrameContext) → Ends e → Moves e.enter e.back (at e.source) (at e.target) → e.back ≡ true → Stands fs e.source → IsSomeAnd (slice_get fs 0) (λ f. open_counters parts e f.counters ≢ [])
  raises e [] ends m back stands = absurd stands
  raises e (f ∷ callers) ends m back stands =
      let turns : Moves e.enter true (at e.source) (at e.target) = subst (λ b. Moves e.enter b (at e.source) (at e.target)) back m in
      has_counter e.enter (at e.source) (at e.target) f.counters (depth_of parts e.source) (depth_of parts e.target) ends.source ends.target turns stands.0

  -- a back edge raises a counter
  pub counter : (op : Operation) (e : Edge) (rest : List Edge) (c : Context) → Ends e → IsInOrder at e rest op → Stands c.frames e.source → e.back ≡ true → HasCounter parts e c
  counter (Call callee words arrays) e rest c ends order stands back = let no : e.back ≡ false = order.0 in absurd (cc)
  counter (Return call dest) e rest c ends order stands back = absurd (cc)
  counter _ e rest c ends order stands back = raises e c.frames ends order back stands

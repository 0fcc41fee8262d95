-- What the parts of a place tell together.
use Rattle.std.proofs.Common.{◌≡◌, ℕ, true, false, ◌&&◌, List, [], length, map, Option, Some, None, refl, sym, ap, subst, ◌∙◌}
use Rattle.std.specs.Prelude.{All, slice_get, slice_index}
use Rattle.std.specs.List.{AllZip}
use Rattle.std.specs.Option.{IsSomeAnd}
use Rattle.std.proofs.lemmas.Bool.{eq-eqb}
use Rattle.std.proofs.lemmas.List.{length-map}
use Rattle.std.proofs.lemmas.Option.{same_Some}
use Rattle.circuit.specs.Bits.{at_same, bits_stay}
use Rattle.circuit.specs.Truth.{World}
use Rattle.circuit.specs.Wires.{IsWire, lit_holds}
use Rattle.circuit.specs.declared.lit.Gate.{Gate}
use Rattle.circuit.specs.declared.lit.Lit.{Lit}
use Rattle.bit_words.specs.Words.{Grows}
use Rattle.bit_words.proofs.Steps.{grows_then, same, still}
use Rattle.cfa.specs.declared.parts.Edge.{Edge}
use Rattle.cfa.specs.declared.parts.GraphParts.{GraphParts}
use Rattle.cfa.specs.declared.state.Predicates.{Predicates}
use Rattle.cfa.specs.declared.state.State.{State}
use Rattle.cfa.specs.Contexts.{Follows, Pair}
use Rattle.cfa.specs.Graph.{IsGraph}
use Rattle.cfa.specs.States.{IsState}
use Rattle.cfa.proofs.Exits.{taken}
use Rattle.c_meaning.specs.declared.ends.Ends.{Ends}
use Rattle.c_meaning.specs.declared.input.Input.{Input}
use Rattle.c_meaning.specs.declared.stepped.Stepped.{Stepped}
use Rattle.c_meaning.specs.declared.stepped.Stepped.TheVariants.{Moved}
use Rattle.c_meaning.specs.Runs.{counts}
use Rattle.c_meaning.specs.Steps.{next}
use Rattle.unwinder_reach.specs.declared.reached.step.Step.{Step}
use Rattle.sym_expr.specs.Stores.{cells_in}
use Rattle.sym_expr.proofs.ElementLemmas.{cells_later, cells_still}
use Rattle.sym_expr.specs.declared.sym_steps.state.SymState.{SymState}
use Rattle.sym_expr.specs.declared.sym_steps.state.SymStep.{SymStep}
use Rattle.sym_expr.specs.declared.sym_steps.state.Way.{Way}
use Rattle.sym_expr.specs.sym_steps.Steps as steps
use Rattle.sym_expr.specs.sym_steps.Steps.{Agrees, HasWay, IfAlong, IsStep, LeadsTo, frames_next, goes_along, state_after, state_in}
use Rattle.unwinder.specs.declared.arrival.Arrival.{Arrival}
use Rattle.unwinder.specs.declared.merging.Met.{Met}
use Rattle.unwinder.specs.declared.unwound.Entry.{Entry}
use Rattle.unwinder.specs.Agenda.{IsArrival, IsOnward, IsSymAt, TakenAlone, TakesIn, entry_at, state_at}
use Rattle.unwinder.specs.Frames.{IsAt}
use Rattle.unwinder.specs.Lists.{truths_in}
use Rattle.unwinder.specs.Meeting.{Meets}
use Rattle.unwinder.specs.Place.{IsPlace}
use Rattle.unwinder.specs.Onward.{LeadsAlong, WaysTell}
use Rattle.unwinder.proofs.FrameLaws.{at_cells, at_next}
use Rattle.unwinder.proofs.ListLaws.{zip_change, zip_left, zip_long}
use Rattle.unwinder.proofs.WayLaws.{AlongStep, ways_before}

-- what a step tells of its ways
pub ways_tell : (gates : List Gate) (t : SymStep) (w : World) (next_is : Stepped) → steps.Tells gates t w next_is → WaysTell gates t.ways w next_is
ways_tell gates t w next_is h = record {
  each = h.ways;
  onward = λ at to is.
      let onward : IfAlong (Moved at to) (λ a q. HasWay t a) = subst (λ o. IfAlong o (λ a q. HasWay t a)) is h.onward in
      let way = taken (λ (v : Way). v.edge ≡ at) (slice_get t.ways onward.0) onward.1 in
      (way.0, ((onward.0, way.1), way.2));
}

-- the state of a place, at its pair
abbrev pub placed : Pair → Met → SymState
placed p m = record m.state { node = p.node; taken = p.context.taken }

-- what each of the parts of a place promises, where runs come to it
pub record IsTakenBy (parts : GraphParts) (predicates : Predicates) (entry : ℕ) (ends : Ends) (answers : List (List Lit)) (row : List Arrival) (p : Pair) (ways : List Step) (g0 g1 g2 g3 g4 g5 : List Gate) (m : Met) (truths : List Lit) (t : SymStep) (ended : Lit) (behind : SymState) (onward : List Arrival) : Type 0 where
  pub n1 : ℕ
  pub n2 : ℕ
  pub n3 : ℕ
  pub n4 : ℕ
  pub n5 : ℕ
  pub grows1 : Grows g0 g1 n1
  pub grows2 : Grows g1 g2 n2
  pub grows3 : Grows g2 g3 n3
  pub grows4 : Grows g3 g4 n4
  pub grows5 : Grows g4 g5 n5
  pub answer_wires : All (All (IsWire g0)) answers
  pub met : Meets parts entry p g0 g1 row m
  pub truth_wires : All (IsWire g2) truths
  pub truths_are : (w : World) → map (λ l. lit_holds g2 l w) truths ≡ truths_in parts predicates (state_in g1 (placed p m) w)
  pub step : IsStep parts g2 g3 answers (placed p m) (λ input x. next parts input x) t
  pub ended_wire : IsWire g4 ended
  pub ended_is : (w : World) (next_is : Stepped) → steps.Tells g3 t w next_is → lit_holds g4 ended w ≡ counts ends next_is
  pub frames : behind.frames ≡ t.frames
  pub store : behind.store ≡ t.store
  pub along : AllZip (AlongStep parts g4 g5 m.guard t.ways behind) ways onward

module _ (parts : GraphParts) (predicates : Predicates) (entry : ℕ) (ends : Ends) (answers : List (List Lit)) (row : List Arrival) (p : Pair) (ways : List Step) (g0 g1 g2 g3 g4 g5 : List Gate) (m : Met) (truths : List Lit) (t : SymStep) (ended : Lit) (behind : SymState) (onward : List Arrival)
    (h : IsTakenBy parts predicates entry ends answers row p ways g0 g1 g2 g3 g4 g5 m truths t ended behind onward) where
  guard_later : (w : World) → lit_holds g4 m.guard w ≡ lit_holds g1 m.guard w
  guard_later w = same (grows_then h.grows2 (grows_then h.grows3 h.grows4)) m.guard h.met.guard w

  -- the symbolic state in a world
  abbrev here : World → State
  here w = state_in g2 (placed p m) w

  here_before : (w : World) → here w ≡ state_in g1 (placed p m) w
  here_before w = ap (λ cs. record { node = p.node; frames = m.state.frames; cells = cs; taken = p.context.taken }) (cells_later h.grows2 m.state.store.cells h.met.at.cells w)

  ways_wired : (k : ℕ) (way : Way) → slice_get t.ways k ≡ Some way → IsWire g3 way.taken
  ways_wired = h.step.wires

  -- what the ways tell, over the circuit of the arrivals
  tells : (w : World) (x : Input) → WaysTell g4 t.ways w (next parts x (here w))
  tells w x = ways_before g3 g4 h.n4 t.ways w (next parts x (here w)) h.grows4 ways_wired (ways_tell g3 t w (next parts x (here w)) (h.step.tells w x))

  module _ (w : World) (k : ℕ) (a : Arrival) (s : SymState) (one : TakenAlone g0 row w k a s) where
    met_here : state_in g1 (placed p m) w ≡ state_at g0 p s w
    met_here =
        let frames = h.met.frames w k a s one in
        let cells = h.met.cells w k a s one in
        λ i. record { node = p.node; frames = frames i; cells = cells i; taken = p.context.taken }

    is_here : here w ≡ state_at g0 p s w
    is_here = here_before w ∙ met_here

    truths_here : map (λ l. lit_holds g5 l w) truths ≡ truths_in parts predicates (state_at g0 p s w)
    truths_here = at_same truths w (grows_then h.grows3 (grows_then h.grows4 h.grows5)).older h.truth_wires ∙ h.truths_are w ∙ ap (truths_in parts predicates) met_here

    ended_here : (x : Input) → lit_holds g5 ended w ≡ counts ends (next parts x (state_at g0 p s w))
    ended_here x = same h.grows5 ended h.ended_wire w ∙ h.ended_is w (next parts x (here w)) (h.step.tells w x) ∙ ap (λ z. counts ends (next parts x z)) is_here

    guard_here : lit_holds g4 m.guard w ≡ true
    guard_here = guard_later w ∙ h.met.one_taken w k a one.there one.taken

    goes_here : (step : Step) (b : Arrival) → AlongStep parts g4 g5 m.guard t.ways behind step b → (x : Input) → lit_holds g5 b.guard w ≡ goes_along step.edge (next parts x (state_at g0 p s w))
    goes_here step b along x = along.holds w (next parts x (here w)) (tells w x) ∙ ap (λ q. q && goes_along step.edge (next parts x (here w))) guard_here ∙ ap (λ z. goes_along step.edge (next parts x z)) is_here

    agrees_here : (x : Input) → Agrees g0 answers w x p.context.taken → Agrees g2 answers w x p.context.taken
    agrees_here x agrees = ap (λ cs. slice_index cs p.context.taken) (cells_later (grows_then h.grows1 h.grows2) answers h.answer_wires w) ∙ agrees

    -- the state behind the step is the next one
    behind_here : (step : Step) (x : Input) (to : State) → Agrees g0 answers w x p.context.taken → next parts x (state_at g0 p s w) ≡ Moved step.edge to → (t.frames ≡ to.frames) × (cells_in g3 t.store.cells w ≡ to.cells)
    behind_here step x to agrees moves =
        let is : next parts x (here w) ≡ Moved step.edge to = ap (next parts x) is_here ∙ moves in
        let leads : LeadsTo parts g3 t w (Moved step.edge to) = subst (LeadsTo parts g3 t w) is (h.step.leads w x (agrees_here x agrees)) in
        let e = taken (λ (q : Edge). to ≡ state_after g3 t q.target w) (slice_get parts.edges step.edge) leads in
        (ap (λ (z : State). z.frames) (sym e.2), ap (λ (z : State). z.cells) (sym e.2))

    onward_here : (step : Step) (b : Arrival) → AlongStep parts g4 g5 m.guard t.ways behind step b → IsOnward parts g0 g5 answers w (state_at g0 p s w) step b
    onward_here step b along = record {
      edge = along.edge;
      goes = goes_here step b along;
      leads = λ x to agrees moves.
          let so : lit_holds g5 b.guard w ≡ true = goes_here step b along x ∙ ap (goes_along step.edge) moves ∙ eq-eqb step.edge step.edge refl in
          let behind_is = behind_here step x to agrees moves in
          brought b.state refl along so to behind_is.0 behind_is.1;
    }
      where
        brought : (o : Option SymState) → b.state ≡ o → AlongStep parts g4 g5 m.guard t.ways behind step b → lit_holds g5 b.guard w ≡ true → (to : State) → t.frames ≡ to.frames → cells_in g3 t.store.cells w ≡ to.cells → (q : SymState) × (b.state ≡ Some q) × (q.frames ≡ to.frames) × (cells_in g5 q.store.cells w ≡ to.cells)
        brought None is along so to frames cells = let off = along.closed is w in absurd cc
        brought (Some q) is along so to frames cells =
            let later = cells_later (grows_then h.grows4 h.grows5) t.store.cells h.step.cells w in
            (q, is, along.frames q is ∙ h.frames ∙ frames, ap (λ st. cells_in g5 st.cells w) (along.store q is ∙ h.store) ∙ later ∙ cells)

  none_onward : (w : World) → ((k : ℕ) (a : Arrival) → slice_get row k ≡ Some a → lit_holds g0 a.guard w ≡ false) → (k : ℕ) (b : Arrival) → slice_get onward k ≡ Some b → lit_holds g5 b.guard w ≡ false
  none_onward w off k b e =
      let step = zip_left (AlongStep parts g4 g5 m.guard t.ways behind) ways onward h.along k b e in
      step.2.unguarded w (guard_later w ∙ h.met.none_taken w off)

  -- In every world the literals tell of the place what is so there.
  pub place_takes : (w : World) → TakesIn parts predicates ends g0 g5 answers row p truths ended ways onward w
  place_takes w = record {
    none = none_onward w;
    truths_are = λ k a s one. truths_here w k a s one;
    ended_is = λ k a s one. ended_here w k a s one;
    onward_are = λ k a s one. zip_change (AlongStep parts g4 g5 m.guard t.ways behind) (IsOnward parts g0 g5 answers w (state_at g0 p s w)) ways onward (λ l step b e along. onward_here w k a s one step b along) h.along;
  }

  -- ---- the states of the arrivals

  module _ (g : IsGraph parts) (s : Step) (a : Arrival) (e : Edge) (q : Pair) (follows : Follows parts s.edge e p q) (along : AlongStep parts g4 g5 m.guard t.ways behind s a) where
    at_here : (w : World) → IsAt parts entry p (here w)
    at_here w =
        let before = h.met.at.at w in
        let long : length (cells_in g2 m.state.store.cells w) ≡ length (cells_in g1 m.state.store.cells w) = length-map m.state.store.cells _ ∙ sym (length-map m.state.store.cells _) in
        let with = at_cells parts entry p (state_in g1 m.state w) before (cells_in g2 m.state.store.cells w) p.context.taken long in
        subst (λ n. IsAt parts entry p (record { node = n; frames = m.state.frames; cells = cells_in g2 m.state.store.cells w; taken = p.context.taken })) (sym before.node) with

    module _ (r : SymState) (is : a.state ≡ Some r) (w : World) where
      way_is : (way : Way) × LeadsAlong t.ways s.edge way
      way_is = along.way r is

      behind_state : IsState parts (state_after g3 t e.target w)
      behind_state =
          let way = way_is in
          let keeps = h.step.keeps way.1.0.0 way.0 way.1.0.1 in
          let here_keeps = subst (λ n. IsSomeAnd (slice_get parts.edges n) (λ o. (v : World) → IsState parts (state_after g3 t o.target v))) way.1.1 keeps in
          let own = taken (λ (o : Edge). (v : World) → IsState parts (state_after g3 t o.target v)) (slice_get parts.edges s.edge) here_keeps in
          let same_edge : own.0 ≡ e = same_Some own.0 e (sym own.1 ∙ follows.edge) in
          subst (λ (o : Edge). IsState parts (state_after g3 t o.target w)) same_edge (own.2 w)

      behind_frames : t.frames ≡ frames_next (here w) s.edge e.operation
      behind_frames =
          let way = way_is in
          let frames = h.step.frames way.1.0.0 way.0 way.1.0.1 in
          let own = taken (λ (o : Edge). (v : World) → t.frames ≡ frames_next (here v) way.0.edge o.operation) (slice_get parts.edges way.0.edge) frames in
          let there : slice_get parts.edges way.0.edge ≡ Some e = ap (slice_get parts.edges) way.1.1 ∙ follows.edge in
          let same_edge : own.0 ≡ e = same_Some own.0 e (sym own.1 ∙ there) in
          own.2 w ∙ ap (λ (o : Edge). frames_next (here w) way.0.edge o.operation) same_edge ∙ ap (λ n. frames_next (here w) n e.operation) way.1.1

      at_behind : IsAt parts entry q (state_after g3 t e.target w)
      at_behind = at_next parts entry p q s.edge e (here w) (state_after g3 t e.target w) g (at_here w) follows behind_state refl behind_frames

      node_is : r.node ≡ e.target
      node_is =
          let own = taken (λ (o : Edge). r.node ≡ o.target) (slice_get parts.edges s.edge) (along.node r is) in
          own.2 ∙ ap (λ (o : Edge). o.target) (same_Some own.0 e (sym own.1 ∙ follows.edge))

      cells_are : r.store.cells ≡ t.store.cells
      cells_are = ap (λ st. st.cells) (along.store r is ∙ h.store)

      at_there : IsAt parts entry q (state_in g5 r w)
      at_there =
          let long : length (cells_in g5 r.store.cells w) ≡ length (cells_in g3 t.store.cells w) = length-map r.store.cells _ ∙ ap length cells_are ∙ sym (length-map t.store.cells _) in
          let with = at_cells parts entry q (state_after g3 t e.target w) at_behind (cells_in g5 r.store.cells w) r.taken long in
          let frames : t.frames ≡ r.frames = sym (along.frames r is ∙ h.frames) in
          subst (λ n. IsAt parts entry q (record { node = n; frames = r.frames; cells = cells_in g5 r.store.cells w; taken = r.taken })) (sym node_is)
          (subst (λ fs. IsAt parts entry q (record { node = e.target; frames = fs; cells = cells_in g5 r.store.cells w; taken = r.taken })) frames with)

    pub place_arrives : IsArrival parts entry g5 q a
    place_arrives = record {
      guard = along.wire;
      opened = λ r is. record {
        at = λ w. at_there r is w;
        cells = subst (λ cs. All (All (IsWire g5)) cs) (sym (cells_are r is [])) (cells_still (grows_then h.grows4 h.grows5) t.store.cells h.step.cells);
      };
      closed = along.closed;
    }

-- ---- a place to which runs come

pub placed_states : (parts : GraphParts) (entry : ℕ) (g1 g2 : List Gate) (most : ℕ) (p : Pair) (m : Met) (s : SymState) → IsSymAt parts entry g1 p m.state → Grows g1 g2 most → s ≡ placed p m → steps.AreStates parts g2 s
placed_states parts entry g1 g2 most p m s at g same_state w =
    let before = at.at w in
    let long : length (cells_in g2 m.state.store.cells w) ≡ length (cells_in g1 m.state.store.cells w) = length-map m.state.store.cells _ ∙ sym (length-map m.state.store.cells _) in
    let with = at_cells parts entry p (state_in g1 m.state w) before (cells_in g2 m.state.store.cells w) p.context.taken long in
    let placed_at = subst (λ n. IsAt parts entry p (record { node = n; frames = m.state.frames; cells = cells_in g2 m.state.store.cells w; taken = p.context.taken })) (sym before.node) with in
    subst (λ (q : SymState). IsState parts (state_in g2 q w)) (sym same_state) placed_at.state

pub same_placed : (p : Pair) (m : Met) (node taken_so_far : ℕ) → node ≡ p.node → taken_so_far ≡ p.context.taken → let s : SymState = record { node = node; frames = m.state.frames; store = m.state.store; taken = taken_so_far } in s ≡ placed p m
same_placed p m node taken_so_far a b = λ i. record { node = a i; frames = m.state.frames; store = m.state.store; taken = b i }

pub open_place_is : (parts : GraphParts) (predicates : Predicates) (entry : ℕ) (ends : Ends) (answers : List (List Lit)) (row : List Arrival) (p : Pair) (ways : List Step) (g0 g1 g2 g3 g4 g5 : List Gate) (m : Met) (truths : List Lit) (t : SymStep) (ended : Lit) (behind s : SymState) (onward : List Arrival) (entries : List Entry) (n1 n2 n3 n4 n5 : ℕ)
    → IsGraph parts → s ≡ placed p m → Grows g0 g1 n1 → Grows g1 g2 n2 → Grows g2 g3 n3 → Grows g3 g4 n4 → Grows g4 g5 n5 → All (All (IsWire g0)) answers → Meets parts entry p g0 g1 row m
    → All (IsWire g2) truths → length truths ≡ length predicates.meanings → ((w : World) → map (λ l. lit_holds g2 l w) truths ≡ truths_in parts predicates (state_in g1 s w)) → IsStep parts g2 g3 answers s (λ input x. next parts input x) t
    → IsWire g4 ended → ((w : World) (next_is : Stepped) → steps.Tells g3 t w next_is → lit_holds g4 ended w ≡ counts ends next_is) → behind.frames ≡ t.frames → behind.store ≡ t.store → AllZip (AlongStep parts g4 g5 m.guard t.ways behind) ways onward
    → entries ≡ map (entry_at p.node truths ended) row → IsPlace parts predicates entry ends answers g0 g5 row p ways (record { entries = entries; onward = onward })
open_place_is parts predicates entry ends answers row p ways g0 g1 g2 g3 g4 g5 m truths t ended behind s onward entries n1 n2 n3 n4 n5 g same_state f1 f2 f3 f4 f5 wires met truth_wires count truths_are step ended_wire ended_is frames store along entries_are =
    let all : IsTakenBy parts predicates entry ends answers row p ways g0 g1 g2 g3 g4 g5 m truths t ended behind onward = record {
      n1 = n1;
      n2 = n2;
      n3 = n3;
      n4 = n4;
      n5 = n5;
      grows1 = f1;
      grows2 = f2;
      grows3 = f3;
      grows4 = f4;
      grows5 = f5;
      answer_wires = wires;
      met = met;
      truth_wires = truth_wires;
      truths_are = λ w. truths_are w ∙ ap (λ (q : SymState). truths_in parts predicates (state_in g1 q w)) same_state;
      step = subst (λ (q : SymState). IsStep parts g2 g3 answers q (λ input x. next parts input x) t) same_state step;
      ended_wire = ended_wire;
      ended_is = ended_is;
      frames = frames;
      store = store;
      along = along;
    } in
    record {
      truths = truths;
      ended = ended;
      entries = entries_are;
      truth_wires = bits_stay truths (grows_then f3 (grows_then f4 f5)).older truth_wires;
      truth_count = count;
      ended_wire = still f5 ended ended_wire;
      long = zip_long (AlongStep parts g4 g5 m.guard t.ways behind) ways onward along;
      edges = λ k q a q_is a_is.
          let own = zip_left (AlongStep parts g4 g5 m.guard t.ways behind) ways onward along k a a_is in
          own.2.edge ∙ ap (λ (r : Step). Some r.edge) (same_Some own.0 q (sym own.1 ∙ q_is));
      takes = place_takes parts predicates entry ends answers row p ways g0 g1 g2 g3 g4 g5 m truths t ended behind onward all;
      onward = λ k q a e target q_is a_is follows.
          let own = zip_left (AlongStep parts g4 g5 m.guard t.ways behind) ways onward along k a a_is in
          let same_step : own.0 ≡ q = same_Some own.0 q (sym own.1 ∙ q_is) in
          place_arrives parts predicates entry ends answers row p ways g0 g1 g2 g3 g4 g5 m truths t ended behind onward all g q a e target follows (subst (λ r. AlongStep parts g4 g5 m.guard t.ways behind r a) same_step own.2);
    }

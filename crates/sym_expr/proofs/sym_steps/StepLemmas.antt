-- Steps along one edge, from what their literals tell.
use Rattle.std.proofs.Common.{◌≡◌, ◌⊎◌, ℕ, zero, suc, ◌+◌, ◌^◌, ◌<◌, ◌≤◌, Bool, true, false, not, ◌&&◌, cond, List, [], ◌∷◌, ◌++◌, length, map, take, drop, get_or, Option, Some, None, is_some, refl, sym, ap, subst, ◌∙◌, ⊎_elim, inl, inr, length-append, length-take, length-drop, arith}
use Rattle.std.specs.Prelude.{All, IsTrue, if◌then◌else◌, Result, Ok, Err, ◌==◌, option_and_then, replicate, slice_get, slice_index, slice_set}
use Rattle.std.specs.Option.{IsSomeAnd, option_map}
use Rattle.std.specs.Result.{result_ok}
use Rattle.std.specs.List.{AllZip}
use Rattle.std.proofs.lemmas.Bool.{eq-eqb, ne_eqb, lt-leb, le-leb}
use Rattle.std.proofs.lemmas.Option.{get_or_from_slice_get, same_Some, slice_get-get_or, slice_get_within}
use Rattle.c_values.proofs.Fitting.{and_left, and_right}
use Rattle.std.proofs.lemmas.List.{get_or-map, get_or_past, length-map, length-replicate, map-append, take_more}
use Rattle.circuit.specs.Truth.{World}
use Rattle.circuit.specs.Wires.{IsWire, lit_holds}
use Rattle.circuit.specs.declared.lit.Lit.{Lit}
use Rattle.circuit.specs.declared.lit.Gate.{Gate}
use Rattle.bit_words.specs.Words.{word_value}
use Rattle.bit_words.proofs.Values.{yes_holds, no_holds}
use Rattle.cfa.specs.declared.expr.ArrayPlace.{ArrayPlace}
use Rattle.cfa.specs.declared.expr.CellPlace.{CellPlace}
use Rattle.cfa.specs.declared.expr.Expr.{Expr}
use Rattle.cfa.specs.declared.parts.Edge.{Edge}
use Rattle.cfa.specs.declared.parts.Function.{Function}
use Rattle.cfa.specs.declared.parts.Node.{Node}
use Rattle.cfa.specs.declared.parts.GraphParts.{GraphParts}
use Rattle.cfa.specs.declared.parts.InputFunction.{InputFunction}
use Rattle.cfa.specs.declared.parts.Operation.{Operation}
use Rattle.cfa.specs.declared.parts.Operation.TheVariants.{Skip, Assign, Clear, Guard, Call, Answer, Assert, Assume}
use Rattle.cfa.specs.declared.state.Frame.{Frame}
use Rattle.cfa.specs.declared.state.State.{State}
use Rattle.cfa.specs.declared.state.Trap.{Trap}
use Rattle.cfa.specs.declared.state.Trap.TheVariants as trap
use Rattle.cfa.specs.Each.{Each, matched}
use Rattle.cfa.specs.Graph.{IsGraph, IsNodeOf, TargetFits, arrays_fit, call_fits, callee_of, operands_fit, word_fits, words_fit}
use Rattle.cfa.specs.Values.{array_start, cell_of, value_of}
use Rattle.cfa.specs.Rules.{array_fits, expr_fits, place_fits}
use Rattle.cfa.specs.States.{IsState, function_cells, running_frame, value_in}
use Rattle.cfa.proofs.Exits.{given, taken}
use Rattle.c_meaning.specs.declared.input.Input.{Input}
use Rattle.c_meaning.specs.declared.stepped.Stepped.{Stepped}
use Rattle.c_meaning.specs.declared.stepped.Stepped.TheVariants.{Moved, Returned, Trapped, Blocked, TooDeep}
use Rattle.c_meaning.specs.Places.{Leaves, storage_of}
use Rattle.c_meaning.specs.Starts.{fitted, frame_cells}
use Rattle.c_meaning.specs.Storage as storage
use Rattle.c_meaning.specs.Storage.{Storage}
use Rattle.c_meaning.specs.Steps.{along, along_edge, answer_of, answered, call_of, called, called_frame, cleared, moved, operated, picked, picked_by, put, start_in, unless_trapped, unless_zero, values_in, values_of}
use Rattle.c_meaning.proofs.Elements.{array_within}
use Rattle.c_meaning.proofs.Calls.{call_word, call_array}
use Rattle.c_meaning.proofs.Kept.{moved_state, pushed_state}
use Rattle.c_meaning.proofs.Next.{length-frame_cells}
use Rattle.c_meaning.proofs.Operands.{leaves_own, operands_of}
use Rattle.c_meaning.proofs.StateLaws.{Of, Owned, has_room}
use Rattle.sym_expr.specs.Stores.{HasRoom, FitsWithin, PlaceFitsWithin, cells_in}
use Rattle.sym_expr.specs.sym_steps.Effects.{assigned_cells, put_cells, words_in}
use Rattle.sym_expr.specs.declared.sym_steps.state.SymState.{SymState}
use Rattle.sym_expr.specs.declared.sym_steps.state.SymStep.{SymStep}
use Rattle.sym_expr.specs.declared.sym_steps.state.Way.{Way}
use Rattle.sym_expr.specs.sym_steps.Steps.{AreStates, Agrees, HasWay, IfAlong, IsStep, LeadsTo, Tells, frames_next, goes_along, is_returned, is_trapped, running_of, state_after, state_in}

-- ---- what expressions may name

module _ (parts : GraphParts) (gates : List Gate) (s : SymState) (g : IsGraph parts) (h : AreStates parts gates s) where
  abbrev pub here : State
  here = state_in gates s []

  pub some_frames : 1 ≤ length s.frames
  some_frames = (h []).some_frame

  cell_count : length here.cells ≡ length s.store.cells
  cell_count = length-map s.store.cells _

  -- the room of the state's function lies within the cells
  pub room_here : HasRoom (length s.store.cells) (running_of s.frames) (storage_of parts here).room
  room_here =
      let r = has_room parts here g (h []) in
      let P : ℕ → Type 0 = λ n. HasRoom n (running_of s.frames) (storage_of parts here).room in
      subst P cell_count (record { globals = r.globals; locals = r.locals; arrays = r.arrays })

  pub fits_here : (e : Expr) → IsTrue (expr_fits (storage_of parts here).room e) → FitsWithin (length s.store.cells) (running_of s.frames) e
  fits_here e f = record { room = (storage_of parts here).room; has = room_here; fits = f }

  pub place_here : (p : CellPlace) → IsTrue (place_fits (storage_of parts here).room p) → PlaceFitsWithin (length s.store.cells) (running_of s.frames) p
  place_here p f = record { room = (storage_of parts here).room; has = room_here; fits = f }

-- ---- a step with one way

abbrev pub way_of : ℕ → Lit → Way
way_of at moves = record { edge = at; taken = moves }

-- what its literals tell of what comes next
pub record OneTells (gates : List Gate) (at : ℕ) (moves traps : Lit) (w : World) (next : Stepped) : Type 0 where
  pub goes : lit_holds gates moves w ≡ goes_along at next
  pub trapped : lit_holds gates traps w ≡ is_trapped next
  pub stays : false ≡ is_returned next
  pub only : IfAlong next (λ a to. at ≡ a)

if_along : (next : Stepped) (P Q : ℕ → State → Type 0) → ((a : ℕ) (to : State) → next ≡ Moved a to → P a to → Q a to) → IfAlong next P → IfAlong next Q
if_along (Moved a to) P Q f h = f a to refl h
if_along (Returned v) P Q f h = tt
if_along (Trapped t) P Q f h = tt
if_along Blocked P Q f h = tt
if_along TooDeep P Q f h = tt

if_along_both : (next : Stepped) (P Q R : ℕ → State → Type 0) → ((a : ℕ) (to : State) → P a to → Q a to → R a to) → IfAlong next P → IfAlong next Q → IfAlong next R
if_along_both (Moved a to) P Q R f h k = f a to h k
if_along_both (Returned v) P Q R f h k = tt
if_along_both (Trapped t) P Q R f h k = tt
if_along_both Blocked P Q R f h k = tt
if_along_both TooDeep P Q R f h k = tt

-- what holds of the one way holds of each
each_one : (P : ℕ → Way → Type 0) (way : Way) → P 0 way → (k : ℕ) (v : Way) → slice_get (way ∷ []) k ≡ Some v → P k v
each_one P way h zero v e = let is : way ≡ v = cc in subst (P 0) is h
each_one P way h (suc k) v e = absurd (cc)

pub one_way_step : (parts : GraphParts) (old new : List Gate) (answers : List (List Lit)) (s : SymState) (next : Input → State → Stepped) (at : ℕ) (e : Edge) (moves traps : Lit) (t : SymStep)
    → slice_get parts.edges at ≡ Some e
    → t.ways ≡ way_of at moves ∷ [] → t.traps ≡ traps → t.returns ≡ false
    → ((w : World) (input : Input) → OneTells new at moves traps w (next input (state_in old s w)))
    → ((w : World) (input : Input) → Agrees old answers w input s.taken → IfAlong (next input (state_in old s w)) (λ a to. to ≡ state_after new t e.target w))
    → ((w : World) → IsState parts (state_after new t e.target w))
    → ((w : World) → t.frames ≡ frames_next (state_in old s w) at e.operation)
    → All (All (IsWire new)) t.store.cells → IsWire new moves → IsWire new traps
    → IsStep parts old new answers s next t
one_way_step parts old new answers s next at e moves traps t there ways_are traps_are returns_are tells leads keeps frames cells wire trap_wire =
    let P : (ℕ → Way → Type 0) → Type 0 = λ Q. Each t.ways Q in
    let each = λ (Q : ℕ → Way → Type 0) (q : Q 0 (way_of at moves)). let ways : Each (way_of at moves ∷ []) Q = each_one Q (way_of at moves) q in subst (λ (ws : List Way). Each ws Q) (sym ways_are) ways in
    record {
      tells = λ w input.
          let one = tells w input in
          let next_is = next input (state_in old s w) in
          record {
            ways = each (λ k way. lit_holds new way.taken w ≡ goes_along way.edge next_is) one.goes;
            onward = if_along next_is (λ a to. at ≡ a) (λ a to. HasWay t a) (λ a to is same. (0, subst (λ (ws : List Way). IsSomeAnd (slice_get ws 0) (λ way. way.edge ≡ a)) (sym ways_are) same)) one.only;
            traps = ap (λ (l : Lit). lit_holds new l w) traps_are ∙ one.trapped;
            returns = returns_are ∙ one.stays;
          };
      leads = λ w input agrees.
          let next_is = next input (state_in old s w) in
          if_along_both next_is (λ a to. at ≡ a) (λ a to. to ≡ state_after new t e.target w) (λ a to. IsSomeAnd (slice_get parts.edges a) (λ e. to ≡ state_after new t e.target w))
          (λ a to same is. subst (λ n. IsSomeAnd (slice_get parts.edges n) (λ e. to ≡ state_after new t e.target w)) same (given (λ (e : Edge). to ≡ state_after new t e.target w) (slice_get parts.edges at) e there is))
          (tells w input).only (leads w input agrees);
      keeps = each (λ k way. IsSomeAnd (slice_get parts.edges way.edge) (λ e. (w : World) → IsState parts (state_after new t e.target w))) (given (λ (e : Edge). (w : World) → IsState parts (state_after new t e.target w)) (slice_get parts.edges at) e there keeps);
      frames = each (λ k way. IsSomeAnd (slice_get parts.edges way.edge) (λ e. (w : World) → t.frames ≡ frames_next (state_in old s w) way.edge e.operation)) (given (λ (e : Edge). (w : World) → t.frames ≡ frames_next (state_in old s w) at e.operation) (slice_get parts.edges at) e there frames);
      few = subst (λ (ws : List Way). length ws ≤ 2) (sym ways_are) (omega arith);
      cells = cells;
      wires = each (λ k way. IsWire new way.taken) wire;
      trap_wire = subst (IsWire new) (sym traps_are) trap_wire;
    }

-- ---- where an operation makes cells, or a trap ends the run

-- the run goes on along the edge where there are cells, in the state with them, and else a trap ends it
abbrev pub IsWent : Stepped → ℕ → (List ℕ → State) → Option (List ℕ) → Type 0
IsWent next at to (Some cells) = next ≡ Moved at (to cells)
IsWent next at to None = (trap : Trap) × (next ≡ Trapped trap)

same_self : (at : ℕ) → true ≡ (at == at)
same_self at = sym (eq-eqb at at refl)

pub went_tells : (gates : List Gate) (at : ℕ) (to : List ℕ → State) (moves traps : Lit) (w : World) (next : Stepped) (o : Option (List ℕ)) → IsWent next at to o → lit_holds gates moves w ≡ is_some o → lit_holds gates traps w ≡ not (lit_holds gates moves w) → OneTells gates at moves traps w next
went_tells gates at to moves traps w next (Some cells) went e f = subst (OneTells gates at moves traps w) (sym went) (record { goes = e ∙ same_self at; trapped = f ∙ ap not e; stays = refl; only = refl })
went_tells gates at to moves traps w next None went e f = subst (OneTells gates at moves traps w) (sym went.1) (record { goes = e; trapped = f ∙ ap not e; stays = refl; only = tt })

pub went_leads : (at : ℕ) (to : List ℕ → State) (next : Stepped) (o : Option (List ℕ)) (p : Bool) (cells : List ℕ) → IsWent next at to o → cond p (Some cells) None ≡ o → IfAlong next (λ a s. s ≡ to cells)
went_leads at to next (Some made) true cells went e = let is : cells ≡ made = cc in subst (λ n. IfAlong n (λ a s. s ≡ to cells)) (sym went) (ap to (sym is))
went_leads at to next (Some made) false cells went e = absurd (cc)
went_leads at to next None p cells went e = subst (λ n. IfAlong n (λ a s. s ≡ to cells)) (sym went.1) tt

pub some_in : (p : Bool) (cells : List ℕ) (o : Option (List ℕ)) → cond p (Some cells) None ≡ o → p ≡ is_some o
some_in true cells o e = ap is_some e
some_in false cells o e = ap is_some e

pub sure_tells : (gates : List Gate) (at : ℕ) (w : World) (next : Stepped) (to : State) → next ≡ Moved at to → OneTells gates at (record { wire = 0; negated = false }) (record { wire = 0; negated = true }) w next
sure_tells gates at w next to is =
    subst (OneTells gates at (record { wire = 0; negated = false }) (record { wire = 0; negated = true }) w) (sym is)
    (record { goes = yes_holds gates w ∙ same_self at; trapped = no_holds gates w; stays = refl; only = refl })

pub sure_leads : (at : ℕ) (next : Stepped) (to other : State) → next ≡ Moved at to → to ≡ other → IfAlong next (λ a s. s ≡ other)
sure_leads at next to other is same = subst (λ n. IfAlong n (λ a s. s ≡ other)) (sym is) same

-- ---- steps within a function

length-cleared : (cells : List ℕ) (first count : ℕ) → first + count ≤ length cells → length (cleared cells first count) ≡ length cells
length-cleared cells first count h =
    let zeros : List ℕ = replicate count 0 in
    let long : length zeros ≡ count = length-replicate count 0 in
    let back = drop (first + count) cells in
    omega (arith, length-append (take first cells) (zeros ++ back), length-append zeros back, length-take first cells, long, length-drop (first + count) cells)

abbrev pub step_of : ℕ → Lit → Lit → List Frame → List (List Lit) → ℕ → SymStep
step_of at moves traps frames cells answers = record { ways = way_of at moves ∷ []; traps = traps; returns = false; frames = frames; store = record { cells = cells }; taken = answers }

module _ (parts : GraphParts) (gates : List Gate) (s : SymState) (at : ℕ) (e : Edge) (g : IsGraph parts) (h : AreStates parts gates s) (l : Leaves parts (state_in gates s []) at e) where
  pub node_here : IsSomeAnd (slice_get parts.nodes s.node) (Of e.function)
  node_here = subst (λ n. IsNodeOf parts e.function n) l.1 (leaves_own parts e.function e.source e.operation l.2 (g.edges at e l.0).leaves)

  -- at the edge's target it is a state of the graph, with as many cells
  pub stays : (w : World) (cells : List ℕ) (answers : ℕ) → IsNodeOf parts e.function e.target → length cells ≡ length s.store.cells → IsState parts (record { node = e.target; frames = s.frames; cells = cells; taken = answers })
  stays w cells answers there same =
      moved_state parts (state_in gates s w) e.target e.function answers cells (h w) node_here there (same ∙ sym (length-map s.store.cells _))

  pub operands_are : (op : Operation) → e.operation ≡ op → IsTrue (operands_fit parts (storage_of parts (state_in gates s [])).room op)
  operands_are op is = operands_of parts (state_in gates s []) at e op g (h []) l is

  pub reaches : (op : Operation) → e.operation ≡ op → TargetFits parts e.function e.target op
  reaches op is = subst (TargetFits parts e.function e.target) is (g.edges at e l.0).reaches

  pub skip_step : (answers : List (List Lit)) → All (All (IsWire gates)) s.store.cells → IsNodeOf parts e.function e.target
      → ((input : Input) (x : State) → operated parts input x at e e.operation ≡ moved at e x x.cells) → ((x : State) → frames_next x at e.operation ≡ x.frames)
      → IsStep parts gates gates answers s (λ input x. operated parts input x at e e.operation) (step_of at (record { wire = 0; negated = false }) (record { wire = 0; negated = true }) s.frames s.store.cells s.taken)
  skip_step answers wires there goes same_frames =
      one_way_step parts gates gates answers s (λ input x. operated parts input x at e e.operation) at e (record { wire = 0; negated = false }) (record { wire = 0; negated = true }) (step_of at (record { wire = 0; negated = false }) (record { wire = 0; negated = true }) s.frames s.store.cells s.taken) l.0 refl refl refl
      (λ w input. sure_tells gates at w _ _ (goes input (state_in gates s w)))
      (λ w input agrees. sure_leads at _ _ _ (goes input (state_in gates s w)) refl)
      (λ w. stays w (cells_in gates s.store.cells w) s.taken there (length-map s.store.cells _))
      (λ w. sym (same_frames (state_in gates s w)))
      wires (omega arith) (omega arith)

  pub skips : (answers : List (List Lit)) → All (All (IsWire gates)) s.store.cells → (e.operation ≡ Skip) ⊎ ((test : Expr) × (truth : Bool) × (e.operation ≡ Guard test truth))
      → IsStep parts gates gates answers s (λ input x. operated parts input x at e e.operation) (step_of at (record { wire = 0; negated = false }) (record { wire = 0; negated = true }) s.frames s.store.cells s.taken)
  skips answers wires which = ⊎_elim
      (λ is. skip_step answers wires (reaches Skip is) (λ input x. ap (operated parts input x at e) is) (λ x. ap (frames_next x at) is))
      (λ is. skip_step answers wires (reaches (Guard is.0 is.1) is.2) (λ input x. ap (operated parts input x at e) is.2) (λ x. ap (frames_next x at) is.2))
      which

  pub test_fits : (test : Expr) (b : Bool) → e.operation ≡ (if b then Assert test else Assume test) → IsTrue (expr_fits (storage_of parts (state_in gates s [])).room test)
  test_fits test true is = operands_are (Assert test) is
  test_fits test false is = operands_are (Assume test) is

  pub clear_within : (array : ArrayPlace) (count : ℕ) → e.operation ≡ Clear array count → array_start [] (running_of s.frames) array + count ≤ length s.store.cells
  clear_within array count is =
      let x = state_in gates s [] in
      let within = array_within (storage_of parts x) array count (has_room parts x g (h [])) (operands_are (Clear array count) is) in
      let count_is = length-map s.store.cells (λ word. word_value gates word []) in
      omega (arith, within, count_is)

  pub clear_step : (answers cells : List (List Lit)) (array : ArrayPlace) (count : ℕ) → All (All (IsWire gates)) cells → e.operation ≡ Clear array count
      → ((w : World) → cells_in gates cells w ≡ cleared (cells_in gates s.store.cells w) (start_in (state_in gates s w) array) count)
      → IsStep parts gates gates answers s (λ input x. operated parts input x at e e.operation) (step_of at (record { wire = 0; negated = false }) (record { wire = 0; negated = true }) s.frames cells s.taken)
  clear_step answers cells array count wires is made =
      let next_is = λ (w : World) (input : Input). ap (operated parts input (state_in gates s w) at e) is in
      let within = λ (w : World). array_within (storage_of parts (state_in gates s w)) array count (has_room parts (state_in gates s w) g (h w)) (operands_are (Clear array count) is) in
      let same = λ (w : World). ap length (made w) ∙ length-cleared (cells_in gates s.store.cells w) (start_in (state_in gates s w) array) count (within w) ∙ length-map s.store.cells _ in
      one_way_step parts gates gates answers s (λ input x. operated parts input x at e e.operation) at e (record { wire = 0; negated = false }) (record { wire = 0; negated = true }) (step_of at (record { wire = 0; negated = false }) (record { wire = 0; negated = true }) s.frames cells s.taken) l.0 refl refl refl
      (λ w input. sure_tells gates at w _ _ (next_is w input))
      (λ w input agrees. sure_leads at _ _ _ (next_is w input) (ap (λ cs. record (state_in gates s w) { node = e.target; cells = cs }) (sym (made w))))
      (λ w. stays w (cells_in gates cells w) s.taken (reaches (Clear array count) is) (same w))
      (λ w. ap (frames_next (state_in gates s w) at) (sym is))
      wires (omega arith) (omega arith)

  went_assign : (w : World) (input : Input) (place : CellPlace) (value : Expr) → e.operation ≡ Assign place value
      → IsWent (operated parts input (state_in gates s w) at e e.operation) at (λ cs. record (state_in gates s w) { node = e.target; cells = cs }) (assigned_cells (cells_in gates s.store.cells w) (running_of s.frames) place value)
  went_assign w input place value is =
      let x = state_in gates s w in
      subst (λ next. IsWent next at (λ cs. record x { node = e.target; cells = cs }) (assigned_cells x.cells (running_of s.frames) place value)) (sym (ap (operated parts input x at e) is))
      (by (cell_of x.cells (running_of s.frames) place) (value_of x.cells (running_of s.frames) value) x)
    where
      by : (c v : Result ℕ Trap) (x : State) → IsWent (unless_trapped c (λ cell. unless_trapped v (λ n. moved at e x (slice_set x.cells cell n)))) at (λ cs. record x { node = e.target; cells = cs }) (option_and_then (λ cell. option_map (λ n. slice_set x.cells cell n) (result_ok v)) (result_ok c))
      by (Ok cell) (Ok n) x = refl
      by (Ok cell) (Err t) x = (t, refl)
      by (Err t) v x = (t, refl)

  pub assign_step : (new : List Gate) (answers cells : List (List Lit)) (place : CellPlace) (value : Expr) (moves traps : Lit) → All (All (IsWire new)) cells → length cells ≡ length s.store.cells → IsWire new moves → IsWire new traps → e.operation ≡ Assign place value
      → ((w : World) → words_in new cells moves w ≡ assigned_cells (cells_in gates s.store.cells w) (running_of s.frames) place value)
      → ((w : World) → lit_holds new traps w ≡ not (lit_holds new moves w))
      → IsStep parts gates new answers s (λ input x. operated parts input x at e e.operation) (step_of at moves traps s.frames cells s.taken)
  assign_step new answers cells place value moves traps wires count wire trap_wire is made turned =
      one_way_step parts gates new answers s (λ input x. operated parts input x at e e.operation) at e moves traps (step_of at moves traps s.frames cells s.taken) l.0 refl refl refl
      (λ w input. went_tells new at (λ cs. record (state_in gates s w) { node = e.target; cells = cs }) moves traps w _ _ (went_assign w input place value is) (some_in (lit_holds new moves w) (cells_in new cells w) _ (made w)) (turned w))
      (λ w input agrees. went_leads at (λ cs. record (state_in gates s w) { node = e.target; cells = cs }) _ _ (lit_holds new moves w) (cells_in new cells w) (went_assign w input place value is) (made w))
      (λ w. stays w (cells_in new cells w) s.taken (reaches (Assign place value) is) (length-map cells _ ∙ count))
      (λ w. ap (frames_next (state_in gates s w) at) (sym is))
      wires wire trap_wire

-- ---- tests

-- the literal of a test that is fine and holds
abbrev Told : Bool → Bool → Result ℕ Trap → Type 0
Told fine truth r = cond fine (Some truth) None ≡ option_map (λ v. not (v == 0)) (result_ok r)

module _ (gates : List Gate) (at : ℕ) (moves traps : Lit) (w : World) (to : State) where
  assert_at : (b fine truth : Bool) → cond fine (Some truth) None ≡ Some (not b) → lit_holds gates moves w ≡ (fine && truth) → lit_holds gates traps w ≡ not (lit_holds gates moves w) → OneTells gates at moves traps w (if b then Trapped trap.Assert else Moved at to)
  assert_at true true true told e f = absurd (cc)
  assert_at true true false told e f = record { goes = e; trapped = f ∙ ap not e; stays = refl; only = tt }
  assert_at true false truth told e f = absurd (cc)
  assert_at false true true told e f = record { goes = e ∙ same_self at; trapped = f ∙ ap not e; stays = refl; only = refl }
  assert_at false true false told e f = absurd (cc)
  assert_at false false truth told e f = absurd (cc)

  pub assert_tells : (r : Result ℕ Trap) (fine truth : Bool) → Told fine truth r → lit_holds gates moves w ≡ (fine && truth) → lit_holds gates traps w ≡ not (lit_holds gates moves w)
      → OneTells gates at moves traps w (unless_trapped r (unless_zero (Trapped trap.Assert) (Moved at to)))
  assert_tells (Ok v) fine truth told e f = assert_at (v == 0) fine truth told e f
  assert_tells (Err t) true truth told e f = absurd (cc)
  assert_tells (Err t) false truth told e f = record { goes = e; trapped = f ∙ ap not e; stays = refl; only = tt }

  assume_at : (b fine truth : Bool) → cond fine (Some truth) None ≡ Some (not b) → lit_holds gates moves w ≡ (fine && truth) → lit_holds gates traps w ≡ not fine → OneTells gates at moves traps w (if b then Blocked else Moved at to)
  assume_at true true true told e f = absurd (cc)
  assume_at true true false told e f = record { goes = e; trapped = f; stays = refl; only = tt }
  assume_at true false truth told e f = absurd (cc)
  assume_at false true true told e f = record { goes = e ∙ same_self at; trapped = f; stays = refl; only = refl }
  assume_at false true false told e f = absurd (cc)
  assume_at false false truth told e f = absurd (cc)

  pub assume_tells : (r : Result ℕ Trap) (fine truth : Bool) → Told fine truth r → lit_holds gates moves w ≡ (fine && truth) → lit_holds gates traps w ≡ not fine
      → OneTells gates at moves traps w (unless_trapped r (unless_zero Blocked (Moved at to)))
  assume_tells (Ok v) fine truth told e f = assume_at (v == 0) fine truth told e f
  assume_tells (Err t) true truth told e f = absurd (cc)
  assume_tells (Err t) false truth told e f = record { goes = e; trapped = f; stays = refl; only = tt }

tested_leads : (at : ℕ) (to : State) (stopped : Stepped) (r : Result ℕ Trap) → IfAlong stopped (λ a s. s ≡ to) → IfAlong (unless_trapped r (unless_zero stopped (Moved at to))) (λ a s. s ≡ to)
tested_leads at to stopped (Err t) h = tt
tested_leads at to stopped (Ok v) h = by (v == 0)
  where
    by : (b : Bool) → IfAlong (if b then stopped else Moved at to) (λ a s. s ≡ to)
    by true = h
    by false = refl

module _ (parts : GraphParts) (gates new : List Gate) (s : SymState) (at : ℕ) (e : Edge) (g : IsGraph parts) (h : AreStates parts gates s) (l : Leaves parts (state_in gates s []) at e) where
  abbrev told_of : Expr → World → Result ℕ Trap
  told_of test w = value_of (cells_in gates s.store.cells w) (running_of s.frames) test

  abbrev at_target : World → State
  at_target w = record (state_in gates s w) { node = e.target; cells = cells_in gates s.store.cells w }

  pub assert_step : (answers : List (List Lit)) (test : Expr) (moves traps : Lit) (fine truth : World → Bool) → ((w : World) → cells_in new s.store.cells w ≡ cells_in gates s.store.cells w) → All (All (IsWire new)) s.store.cells → IsWire new moves → IsWire new traps
      → e.operation ≡ Assert test → ((w : World) → Told (fine w) (truth w) (told_of test w)) → ((w : World) → lit_holds new moves w ≡ (fine w && truth w)) → ((w : World) → lit_holds new traps w ≡ not (lit_holds new moves w))
      → IsStep parts gates new answers s (λ input x. operated parts input x at e e.operation) (step_of at moves traps s.frames s.store.cells s.taken)
  assert_step answers test moves traps fine truth same_cells wires wire trap_wire is told goes turned =
      let next_is = λ (w : World) (input : Input). ap (operated parts input (state_in gates s w) at e) is in
      one_way_step parts gates new answers s (λ input x. operated parts input x at e e.operation) at e moves traps (step_of at moves traps s.frames s.store.cells s.taken) l.0 refl refl refl
      (λ w input. subst (OneTells new at moves traps w) (sym (next_is w input)) (assert_tells new at moves traps w (at_target w) (told_of test w) (fine w) (truth w) (told w) (goes w) (turned w)))
      (λ w input agrees. subst (λ n. IfAlong n (λ a q. q ≡ state_after new (step_of at moves traps s.frames s.store.cells s.taken) e.target w)) (sym (next_is w input))
      (subst (λ cs. IfAlong (operated parts input (state_in gates s w) at e (Assert test)) (λ a q. q ≡ record (state_in gates s w) { node = e.target; cells = cs })) (sym (same_cells w)) (tested_leads at (at_target w) (Trapped trap.Assert) (told_of test w) tt)))
      (λ w. stays parts gates s at e g h l w (cells_in new s.store.cells w) s.taken (reaches parts gates s at e g h l (Assert test) is) (length-map s.store.cells _))
      (λ w. ap (frames_next (state_in gates s w) at) (sym is))
      wires wire trap_wire

  pub assume_step : (answers : List (List Lit)) (test : Expr) (moves traps : Lit) (fine truth : World → Bool) → ((w : World) → cells_in new s.store.cells w ≡ cells_in gates s.store.cells w) → All (All (IsWire new)) s.store.cells → IsWire new moves → IsWire new traps
      → e.operation ≡ Assume test → ((w : World) → Told (fine w) (truth w) (told_of test w)) → ((w : World) → lit_holds new moves w ≡ (fine w && truth w)) → ((w : World) → lit_holds new traps w ≡ not (fine w))
      → IsStep parts gates new answers s (λ input x. operated parts input x at e e.operation) (step_of at moves traps s.frames s.store.cells s.taken)
  assume_step answers test moves traps fine truth same_cells wires wire trap_wire is told goes turned =
      let next_is = λ (w : World) (input : Input). ap (operated parts input (state_in gates s w) at e) is in
      one_way_step parts gates new answers s (λ input x. operated parts input x at e e.operation) at e moves traps (step_of at moves traps s.frames s.store.cells s.taken) l.0 refl refl refl
      (λ w input. subst (OneTells new at moves traps w) (sym (next_is w input)) (assume_tells new at moves traps w (at_target w) (told_of test w) (fine w) (truth w) (told w) (goes w) (turned w)))
      (λ w input agrees. subst (λ n. IfAlong n (λ a q. q ≡ state_after new (step_of at moves traps s.frames s.store.cells s.taken) e.target w)) (sym (next_is w input))
      (subst (λ cs. IfAlong (operated parts input (state_in gates s w) at e (Assume test)) (λ a q. q ≡ record (state_in gates s w) { node = e.target; cells = cs })) (sym (same_cells w)) (tested_leads at (at_target w) Blocked (told_of test w) tt)))
      (λ w. stays parts gates s at e g h l w (cells_in new s.store.cells w) s.taken (reaches parts gates s at e g h l (Assume test) is) (length-map s.store.cells _))
      (λ w. ap (frames_next (state_in gates s w) at) (sym is))
      wires wire trap_wire

-- ---- answers

-- the word of a number, or 0 past the words
pub answer_at : (gates : List Gate) (answers : List (List Lit)) (word : List Lit) (number : ℕ) (w : World) → number < length answers → word ≡ get_or answers number word → word_value gates word w ≡ slice_index (cells_in gates answers w) number
answer_at gates answers word number w lt is = ap (λ x. word_value gates x w) is ∙ sym (get_or-map (λ x. word_value gates x w) answers number word 0 lt)

pub answer_past : (gates : List Gate) (answers : List (List Lit)) (word : List Lit) (number : ℕ) (w : World) → length answers ≤ number → word_value gates word w ≡ 0 → word_value gates word w ≡ slice_index (cells_in gates answers w) number
answer_past gates answers word number w le zero_is = zero_is ∙ sym (get_or_past (cells_in gates answers w) number 0 (let long = length-map answers (λ x. word_value gates x w) in omega arith))

pub went_put : (x : State) (dest : Option CellPlace) (v at : ℕ) (to : List ℕ → State) → IsWent (put x dest v (λ cs. Moved at (to cs))) at to (put_cells x.cells (running_frame x) dest v)
went_put x None v at to = refl
went_put x (Some place) v at to = by (cell_of x.cells (running_frame x) place)
  where
    by : (r : Result ℕ Trap) → IsWent (unless_trapped r (λ cell. Moved at (to (slice_set x.cells cell v)))) at to (option_map (λ cell. slice_set x.cells cell v) (result_ok r))
    by (Ok cell) = refl
    by (Err t) = (t, refl)

-- whether there are cells doesn't hang on the value
put_either : (cells : List ℕ) (frame : Frame) (dest : Option CellPlace) (v u : ℕ) → is_some (put_cells cells frame dest v) ≡ is_some (put_cells cells frame dest u)
put_either cells frame None v u = refl
put_either cells frame (Some place) v u = by (cell_of cells frame place)
  where
    by : (r : Result ℕ Trap) → is_some (option_map (λ cell. slice_set cells cell v) (result_ok r)) ≡ is_some (option_map (λ cell. slice_set cells cell u) (result_ok r))
    by (Ok cell) = refl
    by (Err t) = refl

module _ (parts : GraphParts) (gates new : List Gate) (s : SymState) (at : ℕ) (e : Edge) (g : IsGraph parts) (h : AreStates parts gates s) (l : Leaves parts (state_in gates s []) at e) where
  abbrev answer_target : World → List ℕ → State
  answer_target w cs = record (state_in gates s w) { node = e.target; cells = cs; taken = s.taken + 1 }

  pub answer_step : (answers cells : List (List Lit)) (number : ℕ) (f : InputFunction) (dest : Option CellPlace) (word : List Lit) (moves traps : Lit) → All (All (IsWire new)) cells → length cells ≡ length s.store.cells → IsWire new moves → IsWire new traps
      → e.operation ≡ Answer number dest → slice_get parts.inputs number ≡ Some f
      → ((w : World) → words_in new cells moves w ≡ put_cells (cells_in gates s.store.cells w) (running_of s.frames) dest (word_value gates word w))
      → ((w : World) → word_value gates word w ≡ fitted f.result (slice_index (cells_in gates answers w) s.taken))
      → ((w : World) → lit_holds new traps w ≡ not (lit_holds new moves w))
      → IsStep parts gates new answers s (λ input x. operated parts input x at e e.operation) (step_of at moves traps s.frames cells (s.taken + 1))
  answer_step answers cells number f dest word moves traps wires count wire trap_wire is own made word_is turned =
      let frame = running_of s.frames in
      let held = λ (w : World). cells_in gates s.store.cells w in
      let given_value = λ (input : Input). answer_of input f.result s.taken in
      let next_is = λ (w : World) (input : Input). ap (operated parts input (state_in gates s w) at e) is ∙ ap (answered input (state_in gates s w) at e dest) own in
      let went = λ (w : World) (input : Input). let P = λ (next : Stepped). IsWent next at (answer_target w) (put_cells (held w) frame dest (given_value input)) in subst P (sym (next_is w input)) (went_put (state_in gates s w) dest (given_value input) at (answer_target w)) in
      one_way_step parts gates new answers s (λ input x. operated parts input x at e e.operation) at e moves traps (step_of at moves traps s.frames cells (s.taken + 1)) l.0 refl refl refl
      (λ w input. went_tells new at (answer_target w) moves traps w _ _ (went w input) (some_in (lit_holds new moves w) (cells_in new cells w) _ (made w) ∙ put_either (held w) frame dest (word_value gates word w) (given_value input)) (turned w))
      (λ w input agrees. went_leads at (answer_target w) _ _ (lit_holds new moves w) (cells_in new cells w) (went w input)
      (made w ∙ ap (put_cells (held w) frame dest) (word_is w ∙ ap (fitted f.result) agrees)))
      (λ w. stays parts gates s at e g h l w (cells_in new cells w) (s.taken + 1) (reaches parts gates s at e g h l (Answer number dest) is) (length-map cells _ ∙ count))
      (λ w. ap (frames_next (state_in gates s w) at) (sym is))
      wires wire trap_wire

-- ---- where nothing comes next

-- the run has returned, or it is too deep
abbrev pub Stops : Stepped → Bool → Type 0
Stops (Returned v) returns = returns ≡ true
Stops TooDeep returns = returns ≡ false
Stops (Moved at to) returns = ⊥
Stops (Trapped t) returns = ⊥
Stops Blocked returns = ⊥

stops_tells : (gates : List Gate) (t : SymStep) (w : World) (next : Stepped) → t.ways ≡ [] → t.traps ≡ record { wire = 0; negated = true } → Stops next t.returns → Tells gates t w next
stops_tells gates t w (Returned v) none no_trap r = record {
  ways = subst (λ (ws : List Way). Each ws (λ k way. lit_holds gates way.taken w ≡ false)) (sym none) (λ k way there. absurd (cc));
  onward = tt;
  traps = ap (λ (l : Lit). lit_holds gates l w) no_trap ∙ no_holds gates w;
  returns = r;
}
stops_tells gates t w TooDeep none no_trap r = record {
  ways = subst (λ (ws : List Way). Each ws (λ k way. lit_holds gates way.taken w ≡ false)) (sym none) (λ k way there. absurd (cc));
  onward = tt;
  traps = ap (λ (l : Lit). lit_holds gates l w) no_trap ∙ no_holds gates w;
  returns = r;
}
stops_tells gates t w (Moved at to) none no_trap r = absurd r
stops_tells gates t w (Trapped q) none no_trap r = absurd r
stops_tells gates t w Blocked none no_trap r = absurd r

stops_leads : (next : Stepped) (returns : Bool) (P : ℕ → State → Type 0) → Stops next returns → IfAlong next P
stops_leads (Returned v) returns P r = tt
stops_leads TooDeep returns P r = tt
stops_leads (Moved at to) returns P r = absurd r
stops_leads (Trapped q) returns P r = absurd r
stops_leads Blocked returns P r = absurd r

pub ended_step : (parts : GraphParts) (gates : List Gate) (answers : List (List Lit)) (s : SymState) (next : Input → State → Stepped) (t : SymStep) → t.ways ≡ [] → t.traps ≡ record { wire = 0; negated = true } → All (All (IsWire gates)) t.store.cells
    → ((w : World) (input : Input) → Stops (next input (state_in gates s w)) t.returns) → IsStep parts gates gates answers s next t
ended_step parts gates answers s next t none no_trap wires stops =
    let no = λ (P : ℕ → Way → Type 0). let empty : Each [] P = (λ k way there. absurd (cc)) in subst (λ (ws : List Way). Each ws P) (sym none) empty in
    record {
      tells = λ w input. stops_tells gates t w (next input (state_in gates s w)) none no_trap (stops w input);
      leads = λ w input agrees. stops_leads (next input (state_in gates s w)) t.returns (λ at to. IsSomeAnd (slice_get parts.edges at) (λ e. to ≡ state_after gates t e.target w)) (stops w input);
      keeps = no (λ k way. IsSomeAnd (slice_get parts.edges way.edge) (λ e. (w : World) → IsState parts (state_after gates t e.target w)));
      frames = no (λ k way. IsSomeAnd (slice_get parts.edges way.edge) (λ e. (w : World) → t.frames ≡ frames_next (state_in gates s w) way.edge e.operation));
      few = subst (λ (ws : List Way). length ws ≤ 2) (sym none) (omega arith);
      cells = wires;
      wires = no (λ k way. IsWire gates way.taken);
      trap_wire = subst (IsWire gates) (sym no_trap) (omega arith);
    }

-- ---- calls

matched_length : {X Y : Type 0} (test : X → Y → Bool) (xs : List X) (ys : List Y) → IsTrue (matched test xs ys) → length xs ≡ length ys
matched_length test [] [] h = refl
matched_length test [] (y ∷ ys) h = absurd cc
matched_length test (x ∷ xs) [] h = absurd cc
matched_length test (x ∷ xs) (y ∷ ys) h = ap suc (matched_length test xs ys (and_right (test x y) (matched test xs ys) h))

-- arrays that may be lent lie below the new frame
lent_all : (q : Storage) (arrays : List ArrayPlace) (counts : List ℕ) → storage.HasRoom q → IsTrue (arrays_fit q.room arrays counts) → AllZip (λ start count. start + count ≤ length q.cells) (map (array_start q.cells q.frame) arrays) counts
lent_all q [] [] r h = tt
lent_all q [] (c ∷ counts) r h = absurd cc
lent_all q (a ∷ arrays) [] r h = absurd cc
lent_all q (a ∷ arrays) (c ∷ counts) r h =
    (array_within q a c r (and_left (array_fits q.room a c) (arrays_fit q.room arrays counts) h), lent_all q arrays counts r (and_right (array_fits q.room a c) (arrays_fit q.room arrays counts) h))

went_values : (r : Result (List ℕ) Trap) (at : ℕ) (to : List ℕ → State) → IsWent (unless_trapped r (λ vs. Moved at (to vs))) at to (result_ok r)
went_values (Ok vs) at to = refl
went_values (Err t) at to = (t, refl)

module _ (parts : GraphParts) (gates : List Gate) (s : SymState) (at : ℕ) (e : Edge) (g : IsGraph parts) (h : AreStates parts gates s) (l : Leaves parts (state_in gates s []) at e)
    (callee : ℕ) (words : List Expr) (arrays : List ArrayPlace) (f : Function) (is : e.operation ≡ Call callee words arrays) (own : slice_get parts.functions callee ≡ Some f) where
  call_good : IsTrue (call_fits (storage_of parts (state_in gates s [])).room (Some f) words arrays)
  call_good = subst (λ o. IsTrue (call_fits (storage_of parts (state_in gates s [])).room o words arrays)) own (operands_are parts gates s at e g h l (Call callee words arrays) is)

  pub word_here : (k : ℕ) (word : Expr) → slice_get words k ≡ Some word → FitsWithin (length s.store.cells) (running_of s.frames) word
  word_here k word there = fits_here parts gates s g h word (call_word (storage_of parts (state_in gates s [])).room f words arrays call_good k word there)

  pub start_small : (k : ℕ) (array : ArrayPlace) → slice_get arrays k ≡ Some array → array_start [] (running_of s.frames) array < 2 ^ 32
  start_small k array there =
      let x = state_in gates s [] in
      let fits = call_array (storage_of parts x).room f words arrays call_good k array there in
      let r = has_room parts x g (h []) in
      let within = array_within (storage_of parts x) array fits.0 r fits.1 in
      let few = r.few in
      omega (arith, within, few)

  pub cells_few : length s.store.cells < 2 ^ 32
  cells_few = let few = (has_room parts (state_in gates s []) g (h [])).few in omega (arith, few, length-map s.store.cells (λ word. word_value gates word []))

  abbrev Entered : Function → Type 0
  Entered q = e.target ≡ q.entry

  -- a state with the frame of the call, at the callee's entry
  pub pushed : (w : World) (values : List ℕ) → length s.frames < 64 → length values ≡ length words
      → IsState parts (record { node = e.target; frames = s.frames ++ called_frame (state_in gates s w) at (map (start_in (state_in gates s w)) arrays) ∷ []; cells = cells_in gates s.store.cells w ++ frame_cells f values; taken = s.taken })
  pushed w values few long =
      let x = state_in gates s w in
      let good = call_good in
      let room = (storage_of parts x).room in
      let words_good = and_left (words_fit room words f.parameters) (arrays_fit room arrays f.arrays) good in
      let arrays_good = and_right (words_fit room words f.parameters) (arrays_fit room arrays f.arrays) good in
      let function = g.rest.functions callee f own in
      let count = matched_length (word_fits room) words f.parameters words_good in
      let least = function.least_cells in
      let entered = taken Entered (slice_get parts.functions callee) (reaches parts gates s at e g h l (Call callee words arrays) is) in
      let same : entered.0 ≡ f = same_Some entered.0 f (sym entered.1 ∙ own) in
      let there : IsNodeOf parts callee e.target = subst (IsNodeOf parts callee) (sym (entered.2 ∙ ap (λ (q : Function). q.entry) same)) function.entry in
      let n = taken (Owned parts x (h w).owners) (slice_get parts.nodes s.node) (h w).node in
      let m = taken (Of e.function) (slice_get parts.nodes s.node) (node_here parts gates s at e g h l) in
      let function_is : n.0.function ≡ e.function = ap (λ (p : Node). p.function) (same_Some n.0 m.0 (sym n.1 ∙ m.1)) ∙ m.2 in
      let frame = called_frame x at (map (start_in x) arrays) in
      pushed_state parts x (h w) callee frame e.target s.taken (frame_cells f values) few
      (λ below b. given (λ (q : Edge). (q.function ≡ below) × (callee_of q.operation ≡ Some callee)) (slice_get parts.edges at) e l.0 (sym function_is ∙ same_Some n.0.function below (sym n.2 ∙ b), ap callee_of is))
      there (h w).cells (length-frame_cells f values (omega (arith, long, count, least)) ∙ sym (ap function_cells own))
      (given (λ (q : Function). AllZip (λ start count. start + count ≤ frame.base) frame.arrays q.arrays) (slice_get parts.functions callee) f own (lent_all (storage_of parts x) arrays f.arrays (has_room parts x g (h w)) arrays_good))

  pub call_step : (new : List Gate) (answers cells values : List (List Lit)) (starts : List ℕ) (base : ℕ) (fine traps : Lit) → length s.frames < 64 → All (All (IsWire new)) cells → length values ≡ length words → IsWire new fine → IsWire new traps
      → ((held : List ℕ) → starts ≡ map (array_start held (running_of s.frames)) arrays) → base ≡ length s.store.cells
      → ((w : World) → cells_in new cells w ≡ cells_in gates s.store.cells w ++ frame_cells f (cells_in new values w))
      → ((w : World) → words_in new values fine w ≡ result_ok (values_of (cells_in gates s.store.cells w) (running_of s.frames) words))
      → ((w : World) → lit_holds new traps w ≡ not (lit_holds new fine w))
      → IsStep parts gates new answers s (λ input x. operated parts input x at e e.operation) (step_of at fine traps (s.frames ++ record { call = Some at; base = base; arrays = starts } ∷ []) cells s.taken)
  call_step new answers cells values starts base fine traps few wires count wire trap_wire starts_are base_is made told turned =
      let x = λ (w : World). state_in gates s w in
      let to = λ (w : World) (vs : List ℕ). record (x w) { node = e.target; frames = s.frames ++ called_frame (x w) at (map (start_in (x w)) arrays) ∷ []; cells = cells_in gates s.store.cells w ++ frame_cells f vs } in
      let frames_are : (w : World) → s.frames ++ record { call = Some at; base = base; arrays = starts } ∷ [] ≡ s.frames ++ called_frame (x w) at (map (start_in (x w)) arrays) ∷ [] =
      λ w. (λ i. s.frames ++ record { call = Some at; base = (base_is ∙ sym (length-map s.store.cells (λ word. word_value gates word w))) i; arrays = starts_are (cells_in gates s.store.cells w) i } ∷ []) in
      let next_is : (w : World) (input : Input) → operated parts input (x w) at e e.operation ≡ unless_trapped (values_in (x w) words) (called (x w) at e (map (start_in (x w)) arrays) f) =
      λ w input. ap (operated parts input (x w) at e) is ∙ ap (call_of (x w) at e words arrays) own
      ∙ ap (λ b. if b then TooDeep else unless_trapped (values_in (x w) words) (called (x w) at e (map (start_in (x w)) arrays) f)) (lt-leb 64 (length s.frames) few) in
      let went = λ (w : World) (input : Input). let P = λ (next : Stepped). IsWent next at (to w) (result_ok (values_in (x w) words)) in subst P (sym (next_is w input)) (went_values (values_in (x w) words) at (to w)) in
      let t = step_of at fine traps (s.frames ++ record { call = Some at; base = base; arrays = starts } ∷ []) cells s.taken in
      let after : (w : World) → to w (cells_in new values w) ≡ state_after new t e.target w =
      λ w i. record { node = e.target; frames = sym (frames_are w) i; cells = sym (made w) i; taken = s.taken } in
      one_way_step parts gates new answers s (λ input x. operated parts input x at e e.operation) at e fine traps t l.0 refl refl refl
      (λ w input. went_tells new at (to w) fine traps w _ _ (went w input) (some_in (lit_holds new fine w) (cells_in new values w) _ (told w)) (turned w))
      (λ w input agrees. let P = λ (q : State). IfAlong (operated parts input (x w) at e e.operation) (λ a r. r ≡ q) in subst P (after w) (went_leads at (to w) _ _ (lit_holds new fine w) (cells_in new values w) (went w input) (told w)))
      (λ w. subst (IsState parts) (after w) (pushed w (cells_in new values w) few (length-map values _ ∙ count)))
      (λ w. frames_are w ∙ ap (frames_next (x w) at) (sym is))
      wires wire trap_wire

  -- a call where 64 frames stand
  pub deep_step : (answers : List (List Lit)) → 64 ≤ length s.frames → All (All (IsWire gates)) s.store.cells
      → IsStep parts gates gates answers s (λ input x. operated parts input x at e e.operation) (record { ways = []; traps = record { wire = 0; negated = true }; returns = false; frames = s.frames; store = s.store; taken = s.taken })
  deep_step answers many wires =
      let x = λ (w : World). state_in gates s w in
      let t : SymStep = record { ways = []; traps = record { wire = 0; negated = true }; returns = false; frames = s.frames; store = s.store; taken = s.taken } in
      let next_is : (w : World) (input : Input) → operated parts input (x w) at e e.operation ≡ TooDeep =
      λ w input. ap (operated parts input (x w) at e) is ∙ ap (call_of (x w) at e words arrays) own
      ∙ ap (λ b. if b then TooDeep else unless_trapped (values_in (x w) words) (called (x w) at e (map (start_in (x w)) arrays) f)) (le-leb 64 (length s.frames) many) in
      ended_step parts gates answers s (λ input x. operated parts input x at e e.operation) t refl refl wires
      (λ w input. let P = λ (next : Stepped). Stops next false in subst P (sym (next_is w input)) refl)

-- ---- the places of arrays

pub array_at : (arrays : List ArrayPlace) (k : ℕ) (a : ArrayPlace) → k < length arrays → a ≡ get_or arrays k a → slice_get arrays k ≡ Some a
array_at arrays k a lt is = slice_get-get_or arrays k a lt ∙ ap Some (sym is)

pub starts_more : (cells : List ℕ) (frame : Frame) (arrays : List ArrayPlace) (k : ℕ) (a : ArrayPlace) (start : ℕ) → slice_get arrays k ≡ Some a → start ≡ array_start cells frame a → map (array_start cells frame) (take k arrays) ++ start ∷ [] ≡ map (array_start cells frame) (take (k + 1) arrays)
starts_more cells frame arrays k a start there is =
    let lt = slice_get_within arrays k a there in
    ap (λ n. map (array_start cells frame) (take k arrays) ++ n ∷ []) is
    ∙ sym (map-append (array_start cells frame) (take k arrays) (a ∷ []))
    ∙ ap (map (array_start cells frame)) (ap (λ b. take k arrays ++ b ∷ []) (sym (get_or_from_slice_get arrays k a a there)) ∙ sym (take_more arrays k a lt))

-- ---- two guards of one test

each_two : (P : ℕ → Way → Type 0) (a b : Way) → P 0 a → P 1 b → (k : ℕ) (v : Way) → slice_get (a ∷ b ∷ []) k ≡ Some v → P k v
each_two P a b h j zero v e = let is : a ≡ v = cc in subst (P 0) is h
each_two P a b h j (suc zero) v e = let is : b ≡ v = cc in subst (P 1) is j
each_two P a b h j (suc (suc k)) v e = absurd (cc)

-- what the literals of both ways and of traps tell
record TwoTell (gates : List Gate) (yes_at no_at : ℕ) (first second traps : Lit) (w : World) (next : Stepped) : Type 0 where
  goes_yes : lit_holds gates first w ≡ goes_along yes_at next
  goes_no : lit_holds gates second w ≡ goes_along no_at next
  trapped : lit_holds gates traps w ≡ is_trapped next
  stays : false ≡ is_returned next
  only : IfAlong next (λ a to. (yes_at ≡ a) ⊎ (no_at ≡ a))

other_place : (a b : ℕ) → (a ≡ b → ⊥) → false ≡ (a == b)
other_place a b n = sym (ne_eqb a b n)

two_at : (gates : List Gate) (yes_at no_at : ℕ) (first second traps : Lit) (w : World) (yes_to no_to : State) → (yes_at ≡ no_at → ⊥) → (b fine truth : Bool) → cond fine (Some truth) None ≡ Some (not b)
    → lit_holds gates first w ≡ (fine && truth) → lit_holds gates second w ≡ (fine && not truth) → lit_holds gates traps w ≡ not fine
    → TwoTell gates yes_at no_at first second traps w (if b then Moved no_at no_to else Moved yes_at yes_to)
two_at gates yes_at no_at first second traps w yes_to no_to apart true true true told y n t = absurd (cc)
two_at gates yes_at no_at first second traps w yes_to no_to apart true true false told y n t = record { goes_yes = y ∙ other_place yes_at no_at apart; goes_no = n ∙ same_self no_at; trapped = t; stays = refl; only = inr refl }
two_at gates yes_at no_at first second traps w yes_to no_to apart true false truth told y n t = absurd (cc)
two_at gates yes_at no_at first second traps w yes_to no_to apart false true true told y n t = record { goes_yes = y ∙ same_self yes_at; goes_no = n ∙ other_place no_at yes_at (λ q. apart (sym q)); trapped = t; stays = refl; only = inl refl }
two_at gates yes_at no_at first second traps w yes_to no_to apart false true false told y n t = absurd (cc)
two_at gates yes_at no_at first second traps w yes_to no_to apart false false truth told y n t = absurd (cc)

two_tell : (gates : List Gate) (yes_at no_at : ℕ) (first second traps : Lit) (w : World) (yes_to no_to : State) → (yes_at ≡ no_at → ⊥) → (r : Result ℕ Trap) (fine truth : Bool) → Told fine truth r
    → lit_holds gates first w ≡ (fine && truth) → lit_holds gates second w ≡ (fine && not truth) → lit_holds gates traps w ≡ not fine
    → TwoTell gates yes_at no_at first second traps w (unless_trapped r (λ v. if v == 0 then Moved no_at no_to else Moved yes_at yes_to))
two_tell gates yes_at no_at first second traps w yes_to no_to apart (Ok v) fine truth told y n t = two_at gates yes_at no_at first second traps w yes_to no_to apart (v == 0) fine truth told y n t
two_tell gates yes_at no_at first second traps w yes_to no_to apart (Err q) true truth told y n t = absurd (cc)
two_tell gates yes_at no_at first second traps w yes_to no_to apart (Err q) false truth told y n t = record { goes_yes = y; goes_no = n; trapped = t; stays = refl; only = tt }

picked_leads : (yes_at no_at : ℕ) (yes_to no_to : State) (r : Result ℕ Trap) (P : ℕ → State → Type 0) → P yes_at yes_to → P no_at no_to → IfAlong (unless_trapped r (λ v. if v == 0 then Moved no_at no_to else Moved yes_at yes_to)) P
picked_leads yes_at no_at yes_to no_to (Err t) P y n = tt
picked_leads yes_at no_at yes_to no_to (Ok v) P y n = by (v == 0)
  where
    by : (b : Bool) → IfAlong (if b then Moved no_at no_to else Moved yes_at yes_to) P
    by true = n
    by false = y

abbrev pub two_ways : ℕ → ℕ → Lit → Lit → Lit → List Frame → List (List Lit) → ℕ → SymStep
two_ways yes_at no_at first second traps frames cells answers = record { ways = way_of yes_at first ∷ way_of no_at second ∷ []; traps = traps; returns = false; frames = frames; store = record { cells = cells }; taken = answers }

abbrev pub IsGuardOf : GraphParts → State → ℕ → Expr → Bool → Edge → Type 0
IsGuardOf parts x at test truth e = Leaves parts x at e × (e.operation ≡ Guard test truth)

module _ (parts : GraphParts) (gates new : List Gate) (s : SymState) (yes_at no_at : ℕ) (test : Expr) (g : IsGraph parts) (h : AreStates parts gates s)
    (y : IsSomeAnd (slice_get parts.edges yes_at) (IsGuardOf parts (state_in gates s []) yes_at test true)) (n : IsSomeAnd (slice_get parts.edges no_at) (IsGuardOf parts (state_in gates s []) no_at test false)) where
  yes_edge : (e : Edge) × (slice_get parts.edges yes_at ≡ Some e) × IsGuardOf parts (state_in gates s []) yes_at test true e
  yes_edge = taken (IsGuardOf parts (state_in gates s []) yes_at test true) (slice_get parts.edges yes_at) y

  no_edge : (e : Edge) × (slice_get parts.edges no_at ≡ Some e) × IsGuardOf parts (state_in gates s []) no_at test false e
  no_edge = taken (IsGuardOf parts (state_in gates s []) no_at test false) (slice_get parts.edges no_at) n

  pub guard_fits : IsTrue (expr_fits (storage_of parts (state_in gates s [])).room test)
  guard_fits = operands_are parts gates s yes_at yes_edge.0 g h yes_edge.2.0 (Guard test true) yes_edge.2.1

  apart : yes_at ≡ no_at → ⊥
  apart is =
      let same : yes_edge.0 ≡ no_edge.0 = same_Some yes_edge.0 no_edge.0 (sym yes_edge.1 ∙ ap (slice_get parts.edges) is ∙ no_edge.1) in
      let both_are : Guard test true ≡ Guard test false = sym yes_edge.2.1 ∙ ap (λ (e : Edge). e.operation) same ∙ no_edge.2.1 in
      absurd (cc)

  abbrev goes_to : Edge → World → State
  goes_to e w = record (state_in gates s w) { node = e.target; cells = cells_in gates s.store.cells w }

  picked_is : (w : World) (input : Input) → picked parts input (state_in gates s w) yes_at no_at (slice_get parts.edges yes_at) ≡ unless_trapped (value_of (cells_in gates s.store.cells w) (running_of s.frames) test) (λ v. if v == 0 then Moved no_at (goes_to no_edge.0 w) else Moved yes_at (goes_to yes_edge.0 w))
  picked_is w input =
      let x = state_in gates s w in
      let yes_is : along parts input x yes_at ≡ Moved yes_at (goes_to yes_edge.0 w) = ap (along_edge parts input x yes_at) yes_edge.1 ∙ ap (operated parts input x yes_at yes_edge.0) yes_edge.2.1 in
      let no_is : along parts input x no_at ≡ Moved no_at (goes_to no_edge.0 w) = ap (along_edge parts input x no_at) no_edge.1 ∙ ap (operated parts input x no_at no_edge.0) no_edge.2.1 in
      ap (picked parts input x yes_at no_at) yes_edge.1 ∙ ap (picked_by parts input x yes_at no_at) yes_edge.2.1
      ∙ ap (λ (q : Stepped). unless_trapped (value_in x test) (λ v. if v == 0 then along parts input x no_at else q)) yes_is
      ∙ ap (λ (q : Stepped). unless_trapped (value_in x test) (λ v. if v == 0 then q else Moved yes_at (goes_to yes_edge.0 w))) no_is

  pub picked_step : (answers : List (List Lit)) (first second traps : Lit) (fine truth : World → Bool) → ((w : World) → cells_in new s.store.cells w ≡ cells_in gates s.store.cells w) → All (All (IsWire new)) s.store.cells → IsWire new first → IsWire new second → IsWire new traps
      → ((w : World) → Told (fine w) (truth w) (value_of (cells_in gates s.store.cells w) (running_of s.frames) test))
      → ((w : World) → lit_holds new first w ≡ (fine w && truth w)) → ((w : World) → lit_holds new second w ≡ (fine w && not (truth w))) → ((w : World) → lit_holds new traps w ≡ not (fine w))
      → IsStep parts gates new answers s (λ input x. picked parts input x yes_at no_at (slice_get parts.edges yes_at)) (two_ways yes_at no_at first second traps s.frames s.store.cells s.taken)
  picked_step answers first second traps fine truth same_cells wires yes_wire no_wire trap_wire told goes_yes goes_no turned =
      let t = two_ways yes_at no_at first second traps s.frames s.store.cells s.taken in
      let result = λ (w : World). value_of (cells_in gates s.store.cells w) (running_of s.frames) test in
      let tells = λ (w : World) (input : Input). let P = TwoTell new yes_at no_at first second traps w in subst P (sym (picked_is w input)) (two_tell new yes_at no_at first second traps w (goes_to yes_edge.0 w) (goes_to no_edge.0 w) apart (result w) (fine w) (truth w) (told w) (goes_yes w) (goes_no w) (turned w)) in
      let next_is = λ (w : World) (input : Input). picked parts input (state_in gates s w) yes_at no_at (slice_get parts.edges yes_at) in
      let leads_at = λ (w : World) (a : ℕ) (to : State). IsSomeAnd (slice_get parts.edges a) (λ e. to ≡ state_after new t e.target w) in
      record {
        tells = λ w input.
            let two = tells w input in
            record {
              ways = each_two (λ k way. lit_holds new way.taken w ≡ goes_along way.edge (next_is w input)) (way_of yes_at first) (way_of no_at second) two.goes_yes two.goes_no;
              onward = if_along (next_is w input) (λ a to. (yes_at ≡ a) ⊎ (no_at ≡ a)) (λ a to. HasWay t a) (λ a to is which. ⊎_elim (λ q. (0, q)) (λ q. (1, q)) which) two.only;
              traps = two.trapped;
              returns = two.stays;
            };
        leads = λ w input agrees.
            subst (λ (q : Stepped). IfAlong q (leads_at w)) (sym (picked_is w input))
            (picked_leads yes_at no_at (goes_to yes_edge.0 w) (goes_to no_edge.0 w) (result w) (leads_at w)
            (given (λ (e : Edge). goes_to yes_edge.0 w ≡ state_after new t e.target w) (slice_get parts.edges yes_at) yes_edge.0 yes_edge.1 (ap (λ cs. record (state_in gates s w) { node = yes_edge.0.target; cells = cs }) (sym (same_cells w))))
            (given (λ (e : Edge). goes_to no_edge.0 w ≡ state_after new t e.target w) (slice_get parts.edges no_at) no_edge.0 no_edge.1 (ap (λ cs. record (state_in gates s w) { node = no_edge.0.target; cells = cs }) (sym (same_cells w)))));
        keeps = each_two (λ k way. IsSomeAnd (slice_get parts.edges way.edge) (λ e. (w : World) → IsState parts (state_after new t e.target w))) (way_of yes_at first) (way_of no_at second)
            (given (λ (e : Edge). (w : World) → IsState parts (state_after new t e.target w)) (slice_get parts.edges yes_at) yes_edge.0 yes_edge.1 (λ w. stays parts gates s yes_at yes_edge.0 g h yes_edge.2.0 w (cells_in new s.store.cells w) s.taken (reaches parts gates s yes_at yes_edge.0 g h yes_edge.2.0 (Guard test true) yes_edge.2.1) (length-map s.store.cells _)))
            (given (λ (e : Edge). (w : World) → IsState parts (state_after new t e.target w)) (slice_get parts.edges no_at) no_edge.0 no_edge.1 (λ w. stays parts gates s no_at no_edge.0 g h no_edge.2.0 w (cells_in new s.store.cells w) s.taken (reaches parts gates s no_at no_edge.0 g h no_edge.2.0 (Guard test false) no_edge.2.1) (length-map s.store.cells _)));
        frames = each_two (λ k way. IsSomeAnd (slice_get parts.edges way.edge) (λ e. (w : World) → t.frames ≡ frames_next (state_in gates s w) way.edge e.operation)) (way_of yes_at first) (way_of no_at second)
            (given (λ (e : Edge). (w : World) → t.frames ≡ frames_next (state_in gates s w) yes_at e.operation) (slice_get parts.edges yes_at) yes_edge.0 yes_edge.1 (λ w. ap (frames_next (state_in gates s w) yes_at) (sym yes_edge.2.1)))
            (given (λ (e : Edge). (w : World) → t.frames ≡ frames_next (state_in gates s w) no_at e.operation) (slice_get parts.edges no_at) no_edge.0 no_edge.1 (λ w. ap (frames_next (state_in gates s w) no_at) (sym no_edge.2.1)));
        few = omega arith;
        cells = wires;
        wires = each_two (λ k way. IsWire new way.taken) (way_of yes_at first) (way_of no_at second) yes_wire no_wire;
        trap_wire = trap_wire;
      }

-- ---- the same step of what comes next

pub same_step : (parts : GraphParts) (old new : List Gate) (answers : List (List Lit)) (s : SymState) (n m : Input → State → Stepped) (t : SymStep) → ((w : World) (input : Input) → n input (state_in old s w) ≡ m input (state_in old s w)) → IsStep parts old new answers s n t → IsStep parts old new answers s m t
same_step parts old new answers s n m t e k = record {
  tells = λ w input. subst (Tells new t w) (e w input) (k.tells w input);
  leads = λ w input agrees. subst (LeadsTo parts new t w) (e w input) (k.leads w input agrees);
  keeps = k.keeps;
  frames = k.frames;
  few = k.few;
  cells = k.cells;
  wires = k.wires;
  trap_wire = k.trap_wire;
}

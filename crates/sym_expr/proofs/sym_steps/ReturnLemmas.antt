-- Steps out of a function.
use Rattle.std.proofs.Common.{◌≡◌, ℕ, ◌+◌, ◌-◌, ◌<◌, ◌≤◌, true, not, List, [], length, take, get_or, Option, Some, None, refl, sym, ap, subst, ◌∙◌, arith}
use Rattle.std.specs.Prelude.{All, IsTrue, if◌then◌else◌, option_and_then, slice_get, unwrap_or}
use Rattle.std.specs.Option.{IsSome, IsSomeAnd, OnSome, option_map}
use Rattle.std.proofs.lemmas.Bool.{eq-eqb, ne_eqb}
use Rattle.std.proofs.lemmas.List.{get_or-map, length-map, take-map}
use Rattle.std.proofs.lemmas.Option.{same_Some}
use Rattle.circuit.specs.Truth.{World}
use Rattle.circuit.specs.Wires.{IsWire, lit_holds}
use Rattle.circuit.specs.declared.lit.Lit.{Lit}
use Rattle.circuit.specs.declared.lit.Gate.{Gate}
use Rattle.bit_words.specs.Words.{word_value}
use Rattle.cfa.specs.declared.expr.CellPlace.{CellPlace}
use Rattle.cfa.specs.declared.parts.Edge.{Edge}
use Rattle.cfa.specs.declared.parts.Function.{Function}
use Rattle.cfa.specs.declared.parts.GraphParts.{GraphParts}
use Rattle.cfa.specs.declared.parts.Operation.{Operation}
use Rattle.cfa.specs.declared.parts.Operation.TheVariants.{Skip, Assign, Clear, Guard, Call, Return, Answer, Assert, Assume}
use Rattle.c_values.specs.declared.kinds.Kind.{Kind}
use Rattle.c_values.specs.Kind.{int}
use Rattle.cfa.proofs.Exits.{taken}
use Rattle.cfa.specs.declared.state.State.{State}
use Rattle.cfa.specs.Graph.{IsGraph, PairFits, SourceFits, dest_fits, function_called, returned_call}
use Rattle.cfa.specs.States.{IsState, running_frame}
use Rattle.c_meaning.specs.declared.input.Input.{Input}
use Rattle.c_meaning.specs.declared.stepped.Stepped.{Stepped}
use Rattle.c_meaning.specs.declared.stepped.Stepped.TheVariants.{Returned}
use Rattle.c_meaning.specs.Places.{storage_of}
use Rattle.c_meaning.specs.Starts.{fitted}
use Rattle.c_meaning.specs.Steps.{function_at, moved, next, popped, put, result_word, returned_along, returned_by, returned_from}
use Rattle.c_meaning.proofs.Kept.{with_cells}
use Rattle.c_meaning.proofs.Leaving.{Returns, returns_of, returned_state, returned_dest}
use Rattle.c_meaning.proofs.Next.{next_left}
use Rattle.c_meaning.proofs.StateLaws.{running}
use Rattle.sym_expr.specs.Stores.{PlaceFitsWithin, cells_in}
use Rattle.sym_expr.specs.sym_steps.Effects.{put_cells, words_in}
use Rattle.sym_expr.specs.declared.sym_steps.state.SymState.{SymState}
use Rattle.sym_expr.specs.declared.sym_steps.state.SymStep.{SymStep}
use Rattle.sym_expr.specs.sym_steps.Steps.{AreStates, IsStep, running_of, state_in, frames_next}
use Rattle.sym_expr.specs.Weights.{dest_weight, operation_weight, operations_weight, result_kind}
use Rattle.sym_expr.proofs.sym_steps.NodeLemmas.{edge_weighs}
use Rattle.sym_expr.proofs.sym_steps.StepLemmas.{IsWent, Stops, ended_step, one_way_step, place_here, some_in, step_of, went_leads, went_put, went_tells}

module _ (parts : GraphParts) (gates : List Gate) (s : SymState) (g : IsGraph parts) (h : AreStates parts gates s) (many : length s.frames ≡ 1 → ⊥)
    (f : Function) (own : function_at parts s.node ≡ Some f) (exit : s.node ≡ f.exit)
    (call : ℕ) (call_is : (running_of s.frames).call ≡ Some call) (e : Edge) (edge_is : slice_get parts.edges (call + 1) ≡ Some e) (dest : Option CellPlace) (gives : e.operation ≡ Return call dest) where
  at_return : (w : World) → Returns parts (state_in gates s w) (h w)
  at_return w = returns_of parts (state_in gates s w) g (h w) many

  same_call : (w : World) → (at_return w).call ≡ call
  same_call w = same_Some (at_return w).call call (sym (at_return w).call_is ∙ call_is)

  same_edge : (w : World) → (at_return w).edge ≡ e
  same_edge w = same_Some (at_return w).edge e (sym (at_return w).edge_is ∙ ap (λ n. slice_get parts.edges (n + 1)) (same_call w) ∙ edge_is)

  abbrev base : ℕ
  base = (running_of s.frames).base

  -- the state in the function below, at the return's target
  abbrev pub below : SymState
  below = record { node = e.target; frames = take (length s.frames - 1) s.frames; store = record { cells = take base s.store.cells }; taken = s.taken }

  cells_below : (w : World) → take base (cells_in gates s.store.cells w) ≡ cells_in gates (take base s.store.cells) w
  cells_below w = take-map (λ word. word_value gates word w) base s.store.cells

  pub below_states : AreStates parts gates below
  below_states w =
      let x = state_in gates s w in
      let P : Edge → Type 0 = λ q. IsState parts (record (popped x) { node = q.target; taken = s.taken }) in
      let Q : List ℕ → Type 0 = λ cs. IsState parts (record { node = e.target; frames = take (length s.frames - 1) s.frames; cells = cs; taken = s.taken }) in
      subst Q (cells_below w) (subst P (same_edge w) (returned_state parts x g (h w) (at_return w) s.taken))

  pub dest_here : (place : CellPlace) → dest ≡ Some place → PlaceFitsWithin (length (take base s.store.cells)) (running_of (take (length s.frames - 1) s.frames)) place
  dest_here place is =
      let x = state_in gates s [] in
      let r = at_return [] in
      let fits = returned_dest parts x g (h []) r dest s.taken call (ap (λ (q : Edge). q.operation) (same_edge []) ∙ gives) in
      let P : Edge → Type 0 = λ q. IsTrue (dest_fits (storage_of parts (record (popped x) { node = q.target; taken = s.taken })).room dest) in
      let here = subst P (same_edge []) fits in
      let Q : Option CellPlace → Type 0 = λ d. IsTrue (dest_fits (storage_of parts (state_in gates below [])).room d) in
      place_here parts gates below g below_states place (subst Q is here)

  pub result_there : base < length s.store.cells
  result_there =
      let x = state_in gates s [] in
      let r = running parts x g (h []) in
      let least = (g.rest.functions r.at.place.function r.at.own r.at.own_is).least_cells in
      omega (arith, r.base, r.cells, least, length-map s.store.cells (λ word. word_value gates word []))

  word_is : (w : World) (d : List Lit) → word_value gates (get_or s.store.cells base d) w ≡ result_word (state_in gates s w)
  word_is w d = sym (get_or-map (λ word. word_value gates word w) s.store.cells base d 0 result_there)

  next_is : (w : World) (input : Input) → next parts input (state_in gates s w) ≡ put (popped (state_in gates s w)) dest (result_word (state_in gates s w)) (moved (call + 1) e (popped (state_in gates s w)))
  next_is w input =
      let x = state_in gates s w in
      next_left parts input x f own exit
      ∙ ap (λ b. if b then Returned (option_map (λ kind. fitted kind (result_word x)) f.result) else returned_from parts x (running_frame x).call) (ne_eqb (length s.frames) 1 many)
      ∙ ap (returned_from parts x) call_is ∙ ap (returned_along x (call + 1)) edge_is ∙ ap (returned_by x (call + 1) e) gives

  pub return_step : (new : List Gate) (answers cells : List (List Lit)) (word : List Lit) (moves traps : Lit) → All (All (IsWire new)) cells → length cells ≡ length (take base s.store.cells) → IsWire new moves → IsWire new traps
      → word ≡ get_or s.store.cells base word
      → ((w : World) → words_in new cells moves w ≡ put_cells (cells_in gates (take base s.store.cells) w) (running_of (take (length s.frames - 1) s.frames)) dest (word_value gates word w))
      → ((w : World) → lit_holds new traps w ≡ not (lit_holds new moves w))
      → IsStep parts gates new answers s (λ input x. next parts input x) (step_of (call + 1) moves traps (take (length s.frames - 1) s.frames) cells s.taken)
  return_step new answers cells word moves traps wires count wire trap_wire held made turned =
      let at = call + 1 in
      let frames = take (length s.frames - 1) s.frames in
      let t = step_of at moves traps frames cells s.taken in
      let to = λ (w : World) (cs : List ℕ). record (popped (state_in gates s w)) { node = e.target; cells = cs } in
      let o = λ (w : World). put_cells (take base (cells_in gates s.store.cells w)) (running_of frames) dest (result_word (state_in gates s w)) in
      let went = λ (w : World) (input : Input). let P = λ (q : Stepped). IsWent q at (to w) (o w) in subst P (sym (next_is w input)) (went_put (popped (state_in gates s w)) dest (result_word (state_in gates s w)) at (to w)) in
      let told = λ (w : World). made w
      ∙ ap (λ cs. put_cells cs (running_of frames) dest (word_value gates word w)) (sym (cells_below w))
      ∙ ap (put_cells (take base (cells_in gates s.store.cells w)) (running_of frames) dest) (ap (λ v. word_value gates v w) held ∙ word_is w word) in
      one_way_step parts gates new answers s (λ input x. next parts input x) at e moves traps t edge_is refl refl refl
      (λ w input. went_tells new at (to w) moves traps w _ _ (went w input) (some_in (lit_holds new moves w) (cells_in new cells w) _ (told w)) (turned w))
      (λ w input agrees. went_leads at (to w) _ _ (lit_holds new moves w) (cells_in new cells w) (went w input) (told w))
      (λ w. with_cells parts (state_in gates below w) e.target (cells_in new cells w) (below_states w) (length-map cells _ ∙ count ∙ sym (length-map (take base s.store.cells) _)))
      (λ w. ap (frames_next (state_in gates s w) at) (sym gives))
      wires wire trap_wire

-- ---- what a return weighs

return_source : (parts : GraphParts) (function source call : ℕ) (op : Operation) (f : Function) → returned_call op ≡ Some call → function_called parts call ≡ Some f → SourceFits parts function source op → source ≡ f.exit
return_source parts function source call (Return from dest) f is called h =
    let same : from ≡ call = cc in
    let q = taken (λ (q : Function). source ≡ q.exit) (function_called parts from) h in
    let own : q.0 ≡ f = same_Some q.0 f (sym q.1 ∙ ap (function_called parts) same ∙ called) in
    q.2 ∙ ap (λ (r : Function). r.exit) own
return_source parts function source call Skip f is called h = absurd cc
return_source parts function source call (Assign place value) f is called h = absurd cc
return_source parts function source call (Clear array count) f is called h = absurd cc
return_source parts function source call (Guard test truth) f is called h = absurd cc
return_source parts function source call (Call callee words arrays) f is called h = absurd cc
return_source parts function source call (Answer input dest) f is called h = absurd cc
return_source parts function source call (Assert test) f is called h = absurd cc
return_source parts function source call (Assume test) f is called h = absurd cc

kind_is : (o : Option Kind) → IsSome o → Some (unwrap_or o int) ≡ o
kind_is None h = absurd cc
kind_is (Some kind) h = refl

dest_weighs : (parts : GraphParts) (call : ℕ) (dest : Option CellPlace) (f : Function) → function_called parts call ≡ Some f → IsSomeAnd (function_called parts call) (λ q. OnSome dest (IsSome q.result)) → dest_weight dest (Some (unwrap_or f.result int)) ≡ dest_weight dest (result_kind parts call)
dest_weighs parts call None f called h = refl
dest_weighs parts call (Some place) f called h =
    let q = taken (λ (q : Function). IsSome q.result) (function_called parts call) h in
    let own : q.0 ≡ f = same_Some q.0 f (sym q.1 ∙ called) in
    let some : IsSome f.result = subst (λ (r : Function). IsSome r.result) own q.2 in
    ap (dest_weight (Some place)) (kind_is f.result some ∙ sym (ap (λ o. option_and_then (λ (r : Function). r.result) o) called))

module _ (parts : GraphParts) (x : State) (g : IsGraph parts) (h : IsState parts x) (many : length x.frames ≡ 1 → ⊥) (f : Function) (own : function_at parts x.node ≡ Some f) (exit : x.node ≡ f.exit)
    (call : ℕ) (call_is : (running_frame x).call ≡ Some call) where
  abbrev back_of : Returns parts x h
  back_of = returns_of parts x g h many

  back_call : back_of.call ≡ call
  back_call = same_Some back_of.call call (sym back_of.call_is ∙ call_is)

  pub back_edge : slice_get parts.edges (call + 1) ≡ Some back_of.edge
  back_edge = ap (λ n. slice_get parts.edges (n + 1)) (sym back_call) ∙ back_of.edge_is

  pub back_returns : (e : Edge) → slice_get parts.edges (call + 1) ≡ Some e → returned_call e.operation ≡ Some call
  back_returns e there = ap (λ (q : Edge). returned_call q.operation) (same_Some e back_of.edge (sym there ∙ back_edge)) ∙ back_of.returns ∙ ap Some back_call

  back_called : function_called parts call ≡ Some f
  back_called = ap (function_called parts) (sym back_call) ∙ back_of.called ∙ sym back_of.own_is ∙ own

  pub return_weighs : (e : Edge) (from : ℕ) (dest : Option CellPlace) → slice_get parts.edges (call + 1) ≡ Some e → e.operation ≡ Return from dest → dest_weight dest (Some (unwrap_or f.result int)) ≤ operations_weight parts x.node
  return_weighs e from dest there is =
      let returns = back_returns e there in
      let same : from ≡ call = (let one : returned_call (Return from dest) ≡ Some call = ap returned_call (sym is) ∙ returns in cc) in
      let fits = g.edges (call + 1) e there in
      let source = return_source parts e.function e.source call e.operation f returns back_called fits.leaves ∙ sym exit in
      let pair : PairFits parts (call + 1) e.function (Return from dest) = subst (PairFits parts (call + 1) e.function) is fits.pair in
      let good : IsSomeAnd (function_called parts call) (λ q. OnSome dest (IsSome q.result)) = subst (λ n. IsSomeAnd (function_called parts n) (λ q. OnSome dest (IsSome q.result))) same pair.1 in
      let weighs : operation_weight parts e.operation ≡ dest_weight dest (result_kind parts call) = ap (operation_weight parts) is ∙ ap (λ n. dest_weight dest (result_kind parts n)) same in
      omega (arith, edge_weighs parts x.node (call + 1) e there source, weighs, dest_weighs parts call dest f back_called good)

-- an operation that returns from a call
pub return_form : (op : Operation) (call : ℕ) → returned_call op ≡ Some call → (dest : Option CellPlace) × (op ≡ Return call dest)
return_form (Return from dest) call is = let same : from ≡ call = cc in (dest, ap (λ n. Return n dest) same)
return_form Skip call is = absurd cc
return_form (Assign place value) call is = absurd cc
return_form (Clear array count) call is = absurd cc
return_form (Guard test truth) call is = absurd cc
return_form (Call callee words arrays) call is = absurd cc
return_form (Answer input dest) call is = absurd cc
return_form (Assert test) call is = absurd cc
return_form (Assume test) call is = absurd cc

pub return_gives : (op : Operation) (from call : ℕ) (dest : Option CellPlace) → op ≡ Return from dest → returned_call op ≡ Some call → op ≡ Return call dest
return_gives op from call dest is returns = let same : from ≡ call = (let one : returned_call (Return from dest) ≡ Some call = ap returned_call (sym is) ∙ returns in cc) in is ∙ ap (λ n. Return n dest) same

-- with one frame the run has returned
pub last_step : (parts : GraphParts) (gates : List Gate) (answers : List (List Lit)) (s : SymState) (f : Function) → function_at parts s.node ≡ Some f → s.node ≡ f.exit → length s.frames ≡ 1 → All (All (IsWire gates)) s.store.cells
    → IsStep parts gates gates answers s (λ input x. next parts input x) (record { ways = []; traps = record { wire = 0; negated = true }; returns = true; frames = s.frames; store = s.store; taken = s.taken })
last_step parts gates answers s f own exit one wires =
    let t : SymStep = record { ways = []; traps = record { wire = 0; negated = true }; returns = true; frames = s.frames; store = s.store; taken = s.taken } in
    ended_step parts gates answers s (λ input x. next parts input x) t refl refl wires
    (λ w input.
    let x = state_in gates s w in
    let next_is : next parts input x ≡ Returned (option_map (λ kind. fitted kind (result_word x)) f.result) =
    next_left parts input x f own exit ∙ ap (λ b. if b then Returned (option_map (λ kind. fitted kind (result_word x)) f.result) else returned_from parts x (running_frame x).call) (eq-eqb (length s.frames) 1 one) in
    let P : Stepped → Type 0 = λ q. Stops q true in
    subst P (sym next_is) refl)

pub many_called : (parts : GraphParts) (x : State) → IsGraph parts → IsState parts x → (length x.frames ≡ 1 → ⊥) → (running_frame x).call ≡ None → ⊥
many_called parts x g h many none = let r = returns_of parts x g h many in let is = r.call_is in absurd cc

-- At the exit of the entry a run returns or goes on.
use Rattle.std.proofs.Common.{◌≡◌, ℕ, ◌+◌, Bool, true, false, List, length, Option, Some, None, refl, sym, ap, subst, ◌∙◌, ◌⊎◌, ⊎_elim, inl, inr, rules}
use Rattle.std.specs.Prelude.{◌==◌, if◌then◌else◌, slice_get, slice_set, option_and_then, Result, Ok}
use Rattle.std.specs.Option.{option_map}
use Rattle.std.proofs.lemmas.Bool.{eqb-false}
use Rattle.std.proofs.lemmas.Option.{same_Some}
use Rattle.cfa.proofs.Exits.{taken}
use Rattle.cfa.specs.Graph.{IsGraph, SourceFits, function_called, returned_call}
use Rattle.cfa.specs.States.{IsState, running_frame}
use Rattle.cfa.specs.Values.{cell_of}
use Rattle.cfa.specs.declared.expr.CellPlace.{CellPlace, the_lemmas as place_lemmas}
use Rattle.cfa.specs.declared.expr.CellPlace.TheVariants.{Global, Local}
use Rattle.cfa.specs.declared.parts.Edge.{Edge}
use Rattle.cfa.specs.declared.parts.Function.{Function}
use Rattle.cfa.specs.declared.parts.GraphParts.{GraphParts}
use Rattle.cfa.specs.declared.parts.Node.{Node}
use Rattle.cfa.specs.declared.parts.Operation.{Operation}
use Rattle.cfa.specs.declared.parts.Operation.TheVariants.{Skip, Assign, Clear, Guard, Call, Return, Answer, Assert, Assume}
use Rattle.cfa.specs.declared.state.Frame.{Frame}
use Rattle.cfa.specs.declared.state.State.{State}
use Rattle.cfa.specs.declared.state.Trap.{Trap}
use Rattle.c_meaning.proofs.Leaving.{Returns, returns_of}
use Rattle.c_meaning.proofs.Next.{next_left}
use Rattle.c_meaning.specs.Starts.{fitted}
use Rattle.c_meaning.specs.Steps.{cell_in, function_at, left, moved, next, popped, put, result_word, returned_along, returned_by, returned_from, unless_trapped}
use Rattle.c_meaning.specs.declared.input.Input.{Input}
use Rattle.c_meaning.specs.declared.stepped.Stepped.{Stepped}
use Rattle.c_meaning.specs.declared.stepped.Stepped.TheVariants.{Moved, Returned}
use Rattle.bounds_check_laws.specs.ending_laws.Asking.{IsPlain, ReturnsPlainly}

-- a run returns here or goes on
abbrev pub ReturnsOrGoes : Stepped → Type 0
ReturnsOrGoes x = ((value : Option ℕ) × (x ≡ Returned value)) ⊎ ((at : ℕ) × (to : State) × (x ≡ Moved at to))

global_there : (cells : List ℕ) (frame : Frame) (cell : ℕ) → cell_of cells frame (Global cell) ≡ Ok cell
unfolding cell_of
global_there cells frame cell = search (rules, place_lemmas)

local_there : (cells : List ℕ) (frame : Frame) (cell : ℕ) → cell_of cells frame (Local cell) ≡ Ok (frame.base + cell)
unfolding cell_of
local_there cells frame cell = search (rules, place_lemmas)

-- a value is put into a cell without an index, and the run goes on
put_goes : (s t : State) (dest : Option CellPlace) (value at : ℕ) (e : Edge) → IsPlain dest → ReturnsOrGoes (put s dest value (moved at e t))
put_goes s t None value at e plain = inr (at, record t { node = e.target; cells = s.cells }, refl)
put_goes s t (Some place) value at e plain =
    let go : List ℕ → State = λ cells. record t { node = e.target; cells = cells } in
    ⊎_elim
    (λ is.
    let there : cell_in s place ≡ Ok plain.0 = ap (cell_in s) is ∙ global_there s.cells (running_frame s) plain.0 in
    inr (at, go (slice_set s.cells plain.0 value), ap (λ (r : Result ℕ Trap). unless_trapped r (λ cell. moved at e t (slice_set s.cells cell value))) there))
    (λ is.
    let there : cell_in s place ≡ Ok ((running_frame s).base + plain.0) = ap (cell_in s) is ∙ local_there s.cells (running_frame s) plain.0 in
    inr (at, go (slice_set s.cells ((running_frame s).base + plain.0) value), ap (λ (r : Result ℕ Trap). unless_trapped r (λ cell. moved at e t (slice_set s.cells cell value))) there))
    plain.1

module _ (parts : GraphParts) (k : ℕ) (entry : Function) (input : Input) (s : State) (g : IsGraph parts) (own : slice_get parts.functions k ≡ Some entry) (h : IsState parts s) (exit : s.node ≡ entry.exit) where
  -- the node is the entry's
  here : function_at parts s.node ≡ Some entry
  here =
      let n = taken (λ (n : Node). n.function ≡ k) (slice_get parts.nodes entry.exit) (g.rest.functions k entry own).exit in
      let of : Option Node → Option Function = option_and_then (λ (n : Node). slice_get parts.functions n.function) in
      ap (λ i. of (slice_get parts.nodes i)) exit ∙ ap of n.1 ∙ ap (slice_get parts.functions) n.2 ∙ own

  module _ (plainly : ReturnsPlainly parts entry) (r : Returns parts s h) where
    goes_back : (op : Operation) → r.edge.operation ≡ op → ReturnsOrGoes (returned_by s (r.call + 1) r.edge op)
    goes_back (Return call dest) is =
        let same : call ≡ r.call = same_Some call r.call (ap returned_call (sym is) ∙ r.returns) in
        let called : function_called parts call ≡ Some entry = ap (function_called parts) same ∙ r.called ∙ sym r.own_is ∙ here in
        let from = subst (SourceFits parts r.edge.function r.edge.source) is (g.edges (r.call + 1) r.edge r.edge_is).leaves in
        let f = taken (λ (f : Function). r.edge.source ≡ f.exit) (function_called parts call) from in
        let source : r.edge.source ≡ entry.exit = f.2 ∙ ap (λ (q : Function). q.exit) (same_Some f.0 entry (sym f.1 ∙ called)) in
        put_goes (popped s) (popped s) dest (result_word s) (r.call + 1) r.edge (plainly (r.call + 1) call r.edge dest r.edge_is source is)
    goes_back Skip is = let e = ap returned_call (sym is) ∙ r.returns in absurd cc
    goes_back (Assign place value) is = let e = ap returned_call (sym is) ∙ r.returns in absurd cc
    goes_back (Clear array count) is = let e = ap returned_call (sym is) ∙ r.returns in absurd cc
    goes_back (Guard test truth) is = let e = ap returned_call (sym is) ∙ r.returns in absurd cc
    goes_back (Call callee words arrays) is = let e = ap returned_call (sym is) ∙ r.returns in absurd cc
    goes_back (Answer number dest) is = let e = ap returned_call (sym is) ∙ r.returns in absurd cc
    goes_back (Assert test) is = let e = ap returned_call (sym is) ∙ r.returns in absurd cc
    goes_back (Assume test) is = let e = ap returned_call (sym is) ∙ r.returns in absurd cc

  pub exit_goes : ReturnsPlainly parts entry → ReturnsOrGoes (next parts input s)
  exit_goes plainly = subst ReturnsOrGoes (sym (next_left parts input s entry here exit)) (by (length s.frames == 1) refl)
    where
      by : (b : Bool) → (length s.frames == 1) ≡ b → ReturnsOrGoes (left parts s entry)
      by true one =
          let value : Option ℕ = option_map (λ kind. fitted kind (result_word s)) entry.result in
          inl (value, ap (λ (b : Bool). if b then Returned value else returned_from parts s (running_frame s).call) one)
      by false more =
          let value : Option ℕ = option_map (λ kind. fitted kind (result_word s)) entry.result in
          let r = returns_of parts s g h (eqb-false (length s.frames) 1 more) in
          let on : returned_from parts s (running_frame s).call ≡ returned_by s (r.call + 1) r.edge r.edge.operation = ap (returned_from parts s) r.call_is ∙ ap (returned_along s (r.call + 1)) r.edge_is in
          subst ReturnsOrGoes (sym (ap (λ (b : Bool). if b then Returned value else returned_from parts s (running_frame s).call) more ∙ on)) (goes_back plainly r r.edge.operation refl)

-- A step takes one answer at most.
use Rattle.std.proofs.Common.{ℕ, ◌+◌, ◌≤◌, List, [], ◌∷◌, map, Some, None, length, arith}
use Rattle.std.specs.Prelude.{Bool, true, false, ◌==◌, nat_le, if◌then◌else◌, Option, Result, Ok, Err, slice_get, slice_set}
use Rattle.std.specs.Option.{option_map}
use Rattle.cfa.specs.declared.expr.CellPlace.{CellPlace}
use Rattle.cfa.specs.declared.expr.Expr.{Expr}
use Rattle.cfa.specs.declared.expr.ArrayPlace.{ArrayPlace}
use Rattle.cfa.specs.declared.parts.Edge.{Edge}
use Rattle.cfa.specs.declared.parts.Function.{Function}
use Rattle.cfa.specs.declared.parts.GraphParts.{GraphParts}
use Rattle.cfa.specs.declared.parts.InputFunction.{InputFunction}
use Rattle.cfa.specs.declared.parts.Operation.{Operation}
use Rattle.cfa.specs.declared.parts.Operation.TheVariants.{Skip, Assign, Clear, Guard, Call, Return, Answer, Assert, Assume}
use Rattle.cfa.specs.declared.state.State.{State}
use Rattle.cfa.specs.declared.state.Trap.{Trap}
use Rattle.cfa.specs.declared.state.Trap.TheVariants as trap
use Rattle.cfa.specs.States.{running_frame, value_in}
use Rattle.cfa.specs.Table.{outgoing_of}
use Rattle.c_meaning.specs.declared.input.Input.{Input}
use Rattle.c_meaning.specs.declared.stepped.Stepped.{Stepped}
use Rattle.c_meaning.specs.declared.stepped.Stepped.TheVariants.{Moved, Returned, Trapped, Blocked, TooDeep}
use Rattle.c_meaning.specs.Starts.{fitted}
use Rattle.c_meaning.specs.Steps.{unless_trapped, unless_zero, cell_in, values_in, start_in, moved, put, answer_of, answered, called, call_of, operated, along, along_edge, picked, picked_by, onward, popped, result_word, returned_by, returned_along, returned_from, left, function_at, next_within, next, IfMoved}

module _ (parts : GraphParts) (input : Input) (s : State) where
  abbrev OneMore : State → Type 0
  OneMore to = to.taken ≤ s.taken + 1

  same : s.taken ≤ s.taken + 1
  same = omega arith

  unless_one : {A : Type 0} (r : Result A Trap) (f : A → Stepped) → ((a : A) → IfMoved (f a) OneMore) → IfMoved (unless_trapped r f) OneMore
  unless_one (Ok value) f h = h value
  unless_one (Err t) f h = tt

  put_one : (t : State) (dest : Option CellPlace) (v : ℕ) (f : List ℕ → Stepped) → ((cells : List ℕ) → IfMoved (f cells) OneMore) → IfMoved (put t dest v f) OneMore
  put_one t None v f h = h t.cells
  put_one t (Some place) v f h =
      unless_one (cell_in t place) (λ cell. f (slice_set t.cells cell v)) (λ cell. h (slice_set t.cells cell v))

  if_one : (b : Bool) (x y : Stepped) → IfMoved x OneMore → IfMoved y OneMore → IfMoved (if b then x else y) OneMore
  if_one true x y p q = p
  if_one false x y p q = q

  answered_one : (at : ℕ) (e : Edge) (dest : Option CellPlace) (o : Option InputFunction) → IfMoved (answered input s at e dest o) OneMore
  answered_one at e dest None = tt
  answered_one at e dest (Some f) =
      put_one s dest (answer_of input f.result s.taken) (λ cells. Moved at (record s { node = e.target; cells = cells; taken = s.taken + 1 })) (λ cells. omega arith)

  call_one : (at : ℕ) (e : Edge) (words : List Expr) (arrays : List ArrayPlace) (o : Option Function) → IfMoved (call_of s at e words arrays o) OneMore
  call_one at e words arrays None = tt
  call_one at e words arrays (Some f) =
      if_one (nat_le 64 (length s.frames)) TooDeep (unless_trapped (values_in s words) (called s at e (map (start_in s) arrays) f)) tt
      (unless_one (values_in s words) (called s at e (map (start_in s) arrays) f) (λ values. same))

  test_one : (at : ℕ) (e : Edge) (test : Expr) (stopped : Stepped) → IfMoved stopped OneMore → IfMoved (unless_trapped (value_in s test) (unless_zero stopped (moved at e s s.cells))) OneMore
  test_one at e test stopped h =
      unless_one (value_in s test) (unless_zero stopped (moved at e s s.cells)) (λ v. if_one (v == 0) stopped (moved at e s s.cells) h same)

  operated_one : (at : ℕ) (e : Edge) (op : Operation) → IfMoved (operated parts input s at e op) OneMore
  operated_one at e Skip = same
  operated_one at e (Assign place value) =
      unless_one (cell_in s place) (λ cell. unless_trapped (value_in s value) (λ v. moved at e s (slice_set s.cells cell v))) (λ cell.
      unless_one (value_in s value) (λ v. moved at e s (slice_set s.cells cell v)) (λ v. same))
  operated_one at e (Clear array count) = same
  operated_one at e (Guard test truth) = same
  operated_one at e (Call callee words arrays) = call_one at e words arrays (slice_get parts.functions callee)
  operated_one at e (Return call dest) = tt
  operated_one at e (Answer number dest) = answered_one at e dest (slice_get parts.inputs number)
  operated_one at e (Assert test) = test_one at e test (Trapped trap.Assert) tt
  operated_one at e (Assume test) = test_one at e test Blocked tt

  along_one : (at : ℕ) (o : Option Edge) → IfMoved (along_edge parts input s at o) OneMore
  along_one at None = tt
  along_one at (Some e) = operated_one at e e.operation

  picks_one : (yes_at no_at : ℕ) (op : Operation) → IfMoved (picked_by parts input s yes_at no_at op) OneMore
  picks_one yes_at no_at (Guard test truth) =
      unless_one (value_in s test) (λ v. if v == 0 then along parts input s no_at else along parts input s yes_at) (λ v.
      if_one (v == 0) (along parts input s no_at) (along parts input s yes_at) (along_one no_at (slice_get parts.edges no_at)) (along_one yes_at (slice_get parts.edges yes_at)))
  picks_one yes_at no_at _ = tt

  picked_one : (yes_at no_at : ℕ) (o : Option Edge) → IfMoved (picked parts input s yes_at no_at o) OneMore
  picked_one yes_at no_at None = tt
  picked_one yes_at no_at (Some e) = picks_one yes_at no_at e.operation

  onward_one : (row : List ℕ) → IfMoved (onward parts input s row) OneMore
  onward_one [] = tt
  onward_one (at ∷ []) = along_one at (slice_get parts.edges at)
  onward_one (yes_at ∷ no_at ∷ rest) = picked_one yes_at no_at (slice_get parts.edges yes_at)

  returned_one : (at : ℕ) (e : Edge) (op : Operation) → IfMoved (returned_by s at e op) OneMore
  returned_one at e (Return call dest) = put_one (popped s) dest (result_word s) (moved at e (popped s)) (λ cells. same)
  returned_one at e _ = tt

  back_one : (at : ℕ) (o : Option Edge) → IfMoved (returned_along s at o) OneMore
  back_one at None = tt
  back_one at (Some e) = returned_one at e e.operation

  from_one : (call : Option ℕ) → IfMoved (returned_from parts s call) OneMore
  from_one None = tt
  from_one (Some call) = back_one (call + 1) (slice_get parts.edges (call + 1))

  within_one : (o : Option Function) → IfMoved (next_within parts input s o) OneMore
  within_one None = tt
  within_one (Some f) =
      if_one (s.node == f.exit) (left parts s f) (onward parts input s (outgoing_of parts s.node))
      (if_one (length s.frames == 1) (Returned (option_map (λ kind. fitted kind (result_word s)) f.result)) (returned_from parts s (running_frame s).call) tt (from_one (running_frame s).call))
      (onward_one (outgoing_of parts s.node))

  -- what comes next has at most one answer more taken
  pub next_takes : IfMoved (next parts input s) (λ to. to.taken ≤ s.taken + 1)
  unfolding next
  next_takes = within_one (function_at parts s.node)

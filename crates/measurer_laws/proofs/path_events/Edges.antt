-- A run goes along edges that are there.
use Rattle.std.proofs.Common.{◌≡◌, ℕ, ◌+◌, Bool, true, false, List, map, length, Option, Some, None, refl, subst}
use Rattle.std.specs.Prelude.{Result, Ok, Err, ◌==◌, nat_le, if◌then◌else◌, slice_get, slice_set}
use Rattle.std.specs.Option.{option_map}
use Rattle.c_meaning.specs.Starts.{fitted}
use Rattle.c_meaning.specs.Steps.{answer_of, answered, call_of, called, cell_in, left, moved, next, operated, popped, put, result_word, returned_along, returned_by, returned_from, start_in, unless_trapped, unless_zero, values_in}
use Rattle.c_meaning.specs.declared.input.Input.{Input}
use Rattle.c_meaning.specs.declared.stepped.Stepped.{Stepped}
use Rattle.c_meaning.specs.declared.stepped.Stepped.TheVariants.{Moved, Returned, Trapped, Blocked, TooDeep}
use Rattle.cfa.specs.States.{running_frame, value_in}
use Rattle.cfa.specs.declared.expr.CellPlace.{CellPlace}
use Rattle.cfa.specs.declared.expr.Expr.{Expr}
use Rattle.cfa.specs.declared.expr.ArrayPlace.{ArrayPlace}
use Rattle.cfa.specs.declared.parts.Edge.{Edge}
use Rattle.cfa.specs.declared.parts.Function.{Function}
use Rattle.cfa.specs.declared.parts.GraphParts.{GraphParts}
use Rattle.cfa.specs.declared.parts.InputFunction.{InputFunction}
use Rattle.cfa.specs.declared.parts.Operation.{Operation}
use Rattle.cfa.specs.declared.parts.Operation.TheVariants.{Skip, Assign, Clear, Guard, Call, Return, Answer, Assert, Assume}
use Rattle.cfa.specs.declared.state.State.{State}
use Rattle.cfa.specs.declared.state.Trap.{Trap}
use Rattle.cfa.specs.declared.state.Trap.TheVariants as trap
use Rattle.measurer_hits.proofs.run_laws.Nexts.{next_related}

module _ (parts : GraphParts) where
  -- an edge of this number is there
  abbrev pub HasEdge : ℕ → Type 0
  HasEdge at = (e : Edge) × (slice_get parts.edges at ≡ Some e)

  -- where a run goes on, the edge is there
  abbrev pub IsAlong : Stepped → Type 0
  IsAlong (Moved at to) = HasEdge at
  IsAlong (Returned value) = Unit {0}
  IsAlong (Trapped trap) = Unit {0}
  IsAlong Blocked = Unit {0}
  IsAlong TooDeep = Unit {0}

  trapless : {A : Type 0} (r : Result A Trap) (f : A → Stepped) → ((v : A) → IsAlong (f v)) → IsAlong (unless_trapped r f)
  trapless (Ok v) f along = along v
  trapless (Err t) f along = tt

  putting : (s : State) (o : Option CellPlace) (v : ℕ) (f : List ℕ → Stepped) → ((cells : List ℕ) → IsAlong (f cells)) → IsAlong (put s o v f)
  putting s None v f along = along s.cells
  putting s (Some place) v f along = trapless (cell_in s place) (λ cell. f (slice_set s.cells cell v)) (λ cell. along (slice_set s.cells cell v))

  unless_so : (stopped on : Stepped) (v : ℕ) → IsAlong stopped → IsAlong on → IsAlong (unless_zero stopped on v)
  unless_so stopped on v a b = by (v == 0)
    where
      by : (z : Bool) → IsAlong (if z then stopped else on)
      by true = a
      by false = b

  module _ (input : Input) (s : State) where
    module _ (at : ℕ) (e : Edge) (there : slice_get parts.edges at ≡ Some e) where
      calling : (words : List Expr) (arrays : List ArrayPlace) (o : Option Function) → IsAlong (call_of s at e words arrays o)
      calling words arrays None = tt
      calling words arrays (Some f) = by (nat_le 64 (length s.frames))
        where
          by : (deep : Bool) → IsAlong (if deep then TooDeep else unless_trapped (values_in s words) (called s at e (map (start_in s) arrays) f))
          by true = tt
          by false = trapless (values_in s words) (called s at e (map (start_in s) arrays) f) (λ values. (e, there))

      answering : (dest : Option CellPlace) (o : Option InputFunction) → IsAlong (answered input s at e dest o)
      answering dest None = tt
      answering dest (Some f) =
          putting s dest (answer_of input f.result s.taken) (λ cells. Moved at (record s { node = e.target; cells = cells; taken = s.taken + 1 })) (λ cells. (e, there))

      operating : (op : Operation) → IsAlong (operated parts input s at e op)
      operating Skip = (e, there)
      operating (Assign place value) =
          trapless (cell_in s place) (λ cell. unless_trapped (value_in s value) (λ v. moved at e s (slice_set s.cells cell v)))
          (λ cell. trapless (value_in s value) (λ v. moved at e s (slice_set s.cells cell v)) (λ v. (e, there)))
      operating (Clear array count) = (e, there)
      operating (Guard test truth) = (e, there)
      operating (Call callee words arrays) = calling words arrays (slice_get parts.functions callee)
      operating (Return call dest) = tt
      operating (Answer number dest) = answering dest (slice_get parts.inputs number)
      operating (Assert test) =
          trapless (value_in s test) (unless_zero (Trapped trap.Assert) (moved at e s s.cells)) (λ v. unless_so (Trapped trap.Assert) (moved at e s s.cells) v tt (e, there))
      operating (Assume test) =
          trapless (value_in s test) (unless_zero Blocked (moved at e s s.cells)) (λ v. unless_so Blocked (moved at e s s.cells) v tt (e, there))

      returning : (op : Operation) → IsAlong (returned_by s at e op)
      returning Skip = tt
      returning (Assign place value) = tt
      returning (Clear array count) = tt
      returning (Guard test truth) = tt
      returning (Call callee words arrays) = tt
      returning (Return call dest) = putting (popped s) dest (result_word s) (moved at e (popped s)) (λ cells. (e, there))
      returning (Answer number dest) = tt
      returning (Assert test) = tt
      returning (Assume test) = tt

    back : (call : Option ℕ) → IsAlong (returned_from parts s call)
    back None = tt
    back (Some call) = by (slice_get parts.edges (call + 1)) refl
      where
        by : (o : Option Edge) → slice_get parts.edges (call + 1) ≡ o → IsAlong (returned_along s (call + 1) o)
        by None is = tt
        by (Some e) is = returning (call + 1) e is e.operation

    leaving : (f : Function) → IsAlong (left parts s f)
    leaving f = by (length s.frames == 1)
      where
        by : (one : Bool) → IsAlong (if one then Returned (option_map (λ kind. fitted kind (result_word s)) f.result) else returned_from parts s (running_frame s).call)
        by true = tt
        by false = back (running_frame s).call

    next_along : IsAlong (next parts input s)
    next_along = next_related parts input input s (λ a b. IsAlong a) tt (λ t. tt) leaving (λ k e there. operating k e there e.operation)

    -- where a run goes on, the edge is there
    pub edge_there : (at : ℕ) (to : State) → next parts input s ≡ Moved at to → HasEdge at
    edge_there at to goes = subst IsAlong goes next_along

-- What calls do (ISO/IEC 9899:2011, 6.5.2.2).
use Rattle.std.specs.Prelude.{ℕ, ◌+◌, zero, suc, Bool, true, false, List, [], ◌∷◌, map, drop, length, nat_le, Option, Some, None, Result, Ok, slice_get, slice_index}
use Rattle.c_meaning.specs.Steps.{value_before}
use Rattle.cfa.specs.declared.parts.InputFunction.{InputFunction}
use Rattle.cfa.specs.declared.parts.Variable.{Variable}
use Rattle.cfa.specs.declared.state.Trap.{Trap}
use Rattle.c_typed_trees.specs.declared.expression.Callee.{Callee}
use Rattle.c_typed_trees.specs.declared.expression.Callee.TheVariants.{Defined, Input}
use Rattle.c_typed_trees.specs.declared.unit.Typed.{Typed}
use Rattle.c_typed_trees.specs.declared.unit.TypedFunction.{TypedFunction}
use Rattle.tree_meaning.specs.Outcomes.{Store, Done, Gives, Ends, BlockedEnd, TooDeepEnd, ◌andthen◌, unless_trap, Meaning, Evaluation, turn}
use Rattle.tree_meaning.specs.declared.way.Way.{Way}
use Rattle.tree_meaning.specs.declared.activation.Activation.{Activation}
use Rattle.tree_meaning.specs.Activations.{as_kind, first_cells, with_activation, without_activation, start_of}
use Rattle.tree_meaning.specs.Expressions.{First, Meant}

-- what running a function does, by its number, in an activation of its own and with the words of its parameters; it gives
-- what is in the cell of the result
abbrev pub Calls : Type 0
Calls = ℕ → Activation → List ℕ → Evaluation

-- ---- arguments (p10): the first part of each word in order, and then the values of all

abbrev pub first_parts : List Meant → First
first_parts [] vs s = Gives vs s
first_parts (x ∷ xs) vs s = x.first vs s andthen first_parts xs

abbrev pub word_values : List Meant → List ℕ → List ℕ → Result (List ℕ) Trap
word_values [] vs cells = Ok []
word_values (x ∷ xs) vs cells = value_before (x.rest vs cells) (word_values xs (drop x.parts vs) cells)

-- ---- a function that is defined

abbrev pub unless_deep : Bool → Done ℕ → Done ℕ
unless_deep true d = Ends TooDeepEnd
unless_deep false d = d

-- the activation of a function that is called: it lies behind all cells, and is lent arrays
abbrev pub called : Activation → List Variable → Store → Activation
called a arrays s = record { depth = a.depth + 1; base = length s.cells; arrays = map (λ (v : Variable). start_of a v.place) arrays }

-- A call is too deep where 64 activations stand, before its words have their values.
abbrev pub call_defined : Calls → Activation → ℕ → List Meant → List Variable → Evaluation
call_defined calls a callee words arrays s =
    first_parts words [] s andthen λ vs s'.
    unless_deep (nat_le 64 a.depth) (unless_trap (word_values words vs s'.cells) (λ values. calls callee (called a arrays s') values s'))

-- ---- an input function gives the next answer, as a value of its kind, and 0 behind the last one

abbrev pub answer : Option InputFunction → Evaluation
answer None s = Ends BlockedEnd
answer (Some f) s = Gives (as_kind f.result (slice_index s.answers 0)) (record { cells = s.cells; answers = drop 1 s.answers; turns = s.turns })

abbrev pub call_of : Typed → Calls → Activation → Callee → List Meant → List Variable → Evaluation
call_of t calls a (Defined callee) words arrays s = call_defined calls a callee words arrays s
call_of t calls a (Input number) words arrays s = answer (slice_get t.inputs number) s

-- ---- calls within calls

-- what the body of a function does, by what calls in it do
abbrev pub Bodies : Type 0
Bodies = Calls → TypedFunction → Activation → Meaning

module _ (bodies : Bodies) (functions : List TypedFunction) where
  -- the value is that of `return`, or 0 where the body ends without one
  abbrev pub give_result : ℕ → Way → Store → Done ℕ
  give_result base way s = Gives (slice_index s.cells base) (without_activation base s)

  abbrev pub run_function : Calls → Option TypedFunction → Activation → List ℕ → Evaluation
  run_function calls None a words s = Ends BlockedEnd
  run_function calls (Some f) a words s = bodies calls f a (with_activation s (first_cells f.cells words)) andthen give_result a.base

  -- A call takes a turn, and then the function is run, with so many activations more at most. A call for which none is left
  -- is too deep before it comes here.
  unfoldable pub calling : ℕ → Calls
  calling zero callee a words s = Ends TooDeepEnd
  calling (suc n) callee a words s = turn s (λ s'. run_function (calling n) (slice_get functions callee) a words s')

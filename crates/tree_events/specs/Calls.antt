-- What happens in calls (ISO/IEC 9899:2011, 6.5.2.2).
use Rattle.std.specs.Prelude.{ℕ, zero, suc, Bool, true, false, List, [], ◌∷◌, drop, nat_le, Option, Some, None, Result, Ok, slice_get, slice_index}
use Rattle.c_meaning.specs.Steps.{value_before}
use Rattle.cfa.specs.declared.parts.InputFunction.{InputFunction}
use Rattle.cfa.specs.declared.parts.Variable.{Variable}
use Rattle.cfa.specs.declared.state.Trap.{Trap}
use Rattle.c_typed_trees.specs.declared.expression.Callee.{Callee}
use Rattle.c_typed_trees.specs.declared.expression.Callee.TheVariants.{Defined, Input}
use Rattle.c_typed_trees.specs.declared.unit.Typed.{Typed}
use Rattle.c_typed_trees.specs.declared.unit.TypedFunction.{TypedFunction}
use Rattle.tree_events.specs.declared.edge_events.event.What.TheVariants.{Entered, Left, Answered}
use Rattle.tree_meaning.specs.Outcomes.{Store, Ends, BlockedEnd, TooDeepEnd}
use Rattle.tree_meaning.specs.declared.way.Way.{Way}
use Rattle.tree_meaning.specs.declared.activation.Activation.{Activation}
use Rattle.tree_meaning.specs.Activations.{as_kind, first_cells, with_activation, without_activation}
use Rattle.tree_meaning.specs.Calls.{called}
use Rattle.tree_events.specs.Outcomes.{Told, silent, gives, behind, ◌thence◌, unless_trap, turn, Meaning, Evaluation, At, happens}
use Rattle.tree_events.specs.Expressions.{First, Telling}

-- what running a function does that a statement calls, by its number, in an activation of its own and with the words of its
-- parameters; it gives what is in the cell of the result
abbrev pub Calls : Type 0
Calls = At → ℕ → Activation → List ℕ → Evaluation

-- ---- arguments (p10): the first part of each word in order, and then the values of all

abbrev pub first_parts : List Telling → First
first_parts [] vs s = gives vs s
first_parts (x ∷ xs) vs s = x.first vs s thence first_parts xs

abbrev pub word_values : List Telling → List ℕ → List ℕ → Result (List ℕ) Trap
word_values [] vs cells = Ok []
word_values (x ∷ xs) vs cells = value_before (x.rest vs cells) (word_values xs (drop x.parts vs) cells)

-- ---- a function that is defined

abbrev pub unless_deep : Bool → Told ℕ → Told ℕ
unless_deep true t = silent (Ends TooDeepEnd)
unless_deep false t = t

-- a call is too deep where 64 activations stand, before its words have their values
abbrev pub call_defined : At → Calls → Activation → ℕ → List Telling → List Variable → Evaluation
call_defined at calls a callee words arrays s =
    first_parts words [] s thence λ vs s'.
    unless_deep (nat_le 64 a.depth) (unless_trap (word_values words vs s'.cells) (λ values. calls at callee (called a arrays s') values s'))

-- ---- an input function gives the next answer, as a value of its kind, and 0 behind the last one

abbrev pub answer : At → ℕ → Option InputFunction → Evaluation
answer at number None s = silent (Ends BlockedEnd)
answer at number (Some f) s = behind (happens at (Answered number)) (gives (as_kind f.result (slice_index s.answers 0)) (record { cells = s.cells; answers = drop 1 s.answers; turns = s.turns }))

abbrev pub call_of : At → Typed → Calls → Activation → Callee → List Telling → List Variable → Evaluation
call_of at t calls a (Defined callee) words arrays s = call_defined at calls a callee words arrays s
call_of at t calls a (Input number) words arrays s = answer at number (slice_get t.inputs number) s

-- ---- calls within calls

-- what the body of a function does, by what calls in it do
abbrev pub Bodies : Type 0
Bodies = Calls → TypedFunction → Activation → Meaning

module _ (bodies : Bodies) (functions : List TypedFunction) where
  -- the value is that of `return`, or 0 where the body ends without one
  abbrev pub give_result : At → ℕ → Way → Store → Told ℕ
  give_result at base way s = behind (happens at Left) (gives (slice_index s.cells base) (without_activation base s))

  -- the function is entered, its body is done, and it is left
  abbrev pub run_function : Calls → At → ℕ → Option TypedFunction → Activation → List ℕ → Evaluation
  run_function calls at callee None a words s = silent (Ends BlockedEnd)
  run_function calls at callee (Some f) a words s =
      behind (happens at (Entered callee)) (bodies calls f a (with_activation s (first_cells f.cells words)) thence give_result at a.base)

  -- a call takes a turn, and then the function is run, with so many activations more at most
  unfoldable pub calling : ℕ → Calls
  calling zero at callee a words s = silent (Ends TooDeepEnd)
  calling (suc n) at callee a words s = turn s (λ s'. run_function (calling n) at callee (slice_get functions callee) a words s')

-- What happens in statements, but for loops, `switch` and calls (ISO/IEC 9899:2011, 6.8). What they do is what tree_meaning says.
use Rattle.std.specs.Prelude.{ℕ, ◌+◌, Bool, true, false, List, [], ◌∷◌, Option, Some, None}
use Rattle.fq_core.specs.declared.span.Span.{Span}
use Rattle.fq_core.specs.declared.statement_kind.StatementKind.TheVariants as kinds
use Rattle.c_values.specs.declared.kinds.Kind.{Kind}
use Rattle.c_values.specs.declared.operators.BinaryOp.{BinaryOp}
use Rattle.cfa.specs.Values.{after_value}
use Rattle.cfa.specs.declared.parts.Variable.{Variable}
use Rattle.cfa.specs.declared.state.Trap.TheVariants as trap
use Rattle.tree_events.specs.declared.edge_events.event.What.TheVariants.{Did}
use Rattle.tree_meaning.specs.Outcomes.{Store, End, TrapEnd, BlockedEnd, Ends, is_true}
use Rattle.tree_meaning.specs.declared.way.Way.{Way}
use Rattle.tree_meaning.specs.declared.way.Way.TheVariants.{GoesOn, Breaks, Continues, Returns}
use Rattle.tree_meaning.specs.declared.activation.Activation.{Activation}
use Rattle.tree_meaning.specs.Activations.{start_of, length_of, stored, cleared}
use Rattle.tree_meaning.specs.Statements.{combined}
use Rattle.tree_events.specs.Outcomes.{Told, silent, gives, behind, ◌thence◌, unless_trap, Meaning, Evaluation, Deciding, At, happens, did}
use Rattle.tree_events.specs.Expressions.{Telling, Placing, evaluate}

-- ---- blocks (6.8.2)

-- where a statement goes on, the next is done
abbrev pub then_next : Meaning → Way → Store → Told Way
then_next next GoesOn s = next s
then_next next Breaks s = gives Breaks s
then_next next Continues s = gives Continues s
then_next next Returns s = gives Returns s

unfoldable pub sequence : List Meaning → Meaning
sequence [] s = gives GoesOn s
sequence (m ∷ ms) s = m s thence then_next (sequence ms)

-- a block of none is an empty statement, at the place of what it is the block of
abbrev pub block : Span → List Meaning → Meaning
block place [] s = behind (did (record { place = place; kind = kinds.Empty })) (gives GoesOn s)
block place (m ∷ ms) s = sequence (m ∷ ms) s

-- ---- statements that are done at once

-- something is done, with these events behind it
abbrev pub doing : At → Meaning
doing at s = behind (did at) (gives GoesOn s)

-- control leaves so
abbrev pub leaving : At → Way → Meaning
leaving at way s = behind (did at) (gives way s)

-- control comes to a label, and then its statement is done (6.8.1)
abbrev pub labelled : At → List ℕ → Meaning → Meaning
labelled at name body s = behind (happens at (Did (Some name))) (body s)

-- a call as a statement: its value is let go (6.8.3)
abbrev pub call_done : At → Evaluation → Meaning
call_done at call s = call s thence λ v s'. behind (did at) (gives GoesOn s')

-- ---- `if` with its arms (6.8.4.1p2)

abbrev pub one_of : Meaning → Meaning → Bool → Store → Told Way
one_of first second true s = first s
one_of first second false s = second s

-- the first arm whose condition is true, else the last part
unfoldable pub arms : List (Deciding × Meaning) → Option Meaning → Meaning
arms [] None s = gives GoesOn s
arms [] (Some last) s = last s
arms (arm ∷ rest) otherwise s = arm.0 s thence one_of arm.1 (arms rest otherwise)

-- ---- a variable's value is put into a cell

abbrev pub putting : At → Variable → ℕ → ℕ → Store → Told Way
putting at variable cell v s = behind (happens at (Did (Some variable.name))) (gives GoesOn (stored s cell v))

-- ---- assignments (6.5.16)

-- The first part of the place's index, once, and the first part of the value; then the index, and then the value.
abbrev pub assign : At → Placing → Option (BinaryOp × Kind) → Telling → Meaning
assign at p op x s =
    p.first [] s thence λ is s1.
    x.first [] s1 thence λ vs s2.
    unless_trap (p.cell is s2.cells) (λ cell.
    unless_trap (after_value (x.rest vs s2.cells) (combined p.variable.kind op x.kind s2.cells cell)) (λ v. putting at p.variable cell v s2))

-- ---- declarations (6.7.9)

-- an expression's value is put into a cell
abbrev pub put : At → Variable → ℕ → Telling → Store → Told Way
put at variable cell x s = evaluate x s thence putting at variable cell

-- a variable begins as its value, or as 0: each time that the declaration is reached (6.2.4p6)
abbrev pub declare : At → Activation → Variable → Option Telling → Meaning
declare at a v None s = putting at v (start_of a v.place) 0 s
declare at a v (Some x) s = put at v (start_of a v.place) x s

-- the elements from one on begin as these values, in order
unfoldable pub fill : At → Variable → ℕ → List Telling → Meaning
fill at v cell [] s = gives GoesOn s
fill at v cell (x ∷ xs) s = put at v cell x s thence then_next (fill at v (cell + 1) xs)

-- an array begins as zeros, and then takes the values of its list (6.7.9p21); each is an event
abbrev pub declare_array : At → Activation → Variable → List Telling → Meaning
declare_array at a v list s = behind (happens at (Did (Some v.name))) (fill at v (start_of a v.place) list (cleared s (start_of a v.place) (length_of v.length)))

-- ---- jumps (6.8.6)

-- `return` puts its value into the result's cell, which holds 0 until then
abbrev pub return_value : At → Activation → Option Telling → Meaning
return_value at a None s = leaving at Returns s
return_value at a (Some x) s = evaluate x s thence λ v s'. leaving at Returns (stored s' a.base v)

-- ---- assertions and assumptions

-- it is done where the value isn't 0
abbrev pub unless_false : At → End → Bool → Store → Told Way
unless_false at end true s = doing at s
unless_false at end false s = silent (Ends end)

abbrev pub assert : At → Telling → Meaning
assert at x s = evaluate x s thence λ v s'. unless_false at (TrapEnd trap.Assert) (is_true v) s'

abbrev pub assume : At → Telling → Meaning
assume at x s = evaluate x s thence λ v s'. unless_false at BlockedEnd (is_true v) s'

-- What statements do, but for loops, `switch` and calls (ISO/IEC 9899:2011, 6.8).
use Rattle.std.specs.Prelude.{ℕ, ◌+◌, Bool, true, false, List, [], ◌∷◌, Option, Some, None, Result, Ok}
use Rattle.c_values.specs.Kind.{converted}
use Rattle.c_values.specs.Operations.{binary_kind}
use Rattle.c_values.specs.declared.kinds.Kind.{Kind}
use Rattle.c_values.specs.declared.operators.BinaryOp.{BinaryOp}
use Rattle.cfa.specs.Values.{after_value}
use Rattle.cfa.specs.declared.parts.Variable.{Variable}
use Rattle.cfa.specs.declared.state.Trap.{Trap}
use Rattle.cfa.specs.declared.state.Trap.TheVariants as trap
use Rattle.tree_meaning.specs.Outcomes.{Store, End, TrapEnd, BlockedEnd, Done, Gives, Ends, ◌andthen◌, unless_trap, Meaning, Evaluation, is_true}
use Rattle.tree_meaning.specs.declared.way.Way.{Way}
use Rattle.tree_meaning.specs.declared.way.Way.TheVariants.{GoesOn, Breaks, Continues, Returns}
use Rattle.tree_meaning.specs.declared.activation.Activation.{Activation}
use Rattle.tree_meaning.specs.Activations.{start_of, length_of, read, stored, cleared}
use Rattle.tree_meaning.specs.Expressions.{Meant, Placed, evaluate, operated}

-- ---- blocks (6.8.2)

-- where a statement goes on, the next is done
abbrev pub then_next : Meaning → Way → Store → Done Way
then_next next GoesOn s = next s
then_next next Breaks s = Gives Breaks s
then_next next Continues s = Gives Continues s
then_next next Returns s = Gives Returns s

unfoldable pub block : List Meaning → Meaning
block [] s = Gives GoesOn s
block (m ∷ ms) s = m s andthen then_next (block ms)

-- ---- `if` with its arms (6.8.4.1p2)

abbrev pub one_of : Meaning → Meaning → Bool → Store → Done Way
one_of first second true s = first s
one_of first second false s = second s

-- the first arm whose condition is other than 0, else the last part
unfoldable pub arms : List (Evaluation × Meaning) → Option Meaning → Meaning
arms [] None s = Gives GoesOn s
arms [] (Some last) s = last s
arms (arm ∷ rest) otherwise s = arm.0 s andthen λ v s'. one_of arm.1 (arms rest otherwise) (is_true v) s'

-- ---- assignments (6.5.16)

-- what is put into a place: with an operator, the place's own value is converted to the operator's kind, and the result to
-- the place's (6.5.16.2p3)
abbrev pub combined : Kind → Option (BinaryOp × Kind) → Kind → List ℕ → ℕ → ℕ → Result ℕ Trap
combined own None kind cells cell v = Ok v
combined own (Some op) kind cells cell v = after_value (operated op.0 op.1 kind (converted own op.1 (read cells own cell)) v) (λ w. Ok (converted (binary_kind op.0 op.1) own w))

-- The first part of the place's index, once, and the first part of the value; then the index, and then the value.
abbrev pub assign : Placed → Option (BinaryOp × Kind) → Meant → Meaning
assign p op x s =
    p.first [] s andthen λ is s1.
    x.first [] s1 andthen λ vs s2.
    unless_trap (p.cell is s2.cells) (λ cell.
    unless_trap (after_value (x.rest vs s2.cells) (combined p.variable.kind op x.kind s2.cells cell)) (λ v. Gives GoesOn (stored s2 cell v)))

-- ---- declarations (6.7.9)

-- an expression's value is put into a cell
abbrev pub put : ℕ → Meant → Store → Done Way
put cell x s = evaluate x s andthen λ v s'. Gives GoesOn (stored s' cell v)

-- a variable begins as its value, or as 0: each time that the declaration is reached (6.2.4p6)
abbrev pub declare : Activation → Variable → Option Meant → Meaning
declare a v None s = Gives GoesOn (stored s (start_of a v.place) 0)
declare a v (Some x) s = put (start_of a v.place) x s

-- the elements from one on begin as these values, in order
unfoldable pub fill : ℕ → List Meant → Meaning
fill cell [] s = Gives GoesOn s
fill cell (x ∷ xs) s = put cell x s andthen then_next (fill (cell + 1) xs)

-- an array begins as zeros, and then takes the values of its list (6.7.9p21)
abbrev pub declare_array : Activation → Variable → List Meant → Meaning
declare_array a v list s = fill (start_of a v.place) list (cleared s (start_of a v.place) (length_of v.length))

-- ---- jumps (6.8.6)

-- `return` puts its value into the result's cell, which holds 0 until then
abbrev pub return_value : Activation → Option Meant → Meaning
return_value a None s = Gives Returns s
return_value a (Some x) s = evaluate x s andthen λ v s'. Gives Returns (stored s' a.base v)

-- ---- assertions and assumptions

abbrev pub unless_false : End → Bool → Store → Done Way
unless_false end true s = Gives GoesOn s
unless_false end false s = Ends end

-- an assertion that is 0 traps (7.2.1.1p2); an assumption that is 0 blocks the run
abbrev pub assert : Meant → Meaning
assert x s = evaluate x s andthen λ v s'. unless_false (TrapEnd trap.Assert) (is_true v) s'

abbrev pub assume : Meant → Meaning
assume x s = evaluate x s andthen λ v s'. unless_false BlockedEnd (is_true v) s'

-- Which predicates hold in a state.
use Rattle.std.specs.Prelude.{ℕ, ◌+◌, ◌*◌, Bool, true, false, not, ◌==◌, List, [], ◌∷◌, map, Option, Some, None, Result, Ok, Err, slice_get}
use Rattle.cfa.specs.declared.expr.Expr.{Expr}
use Rattle.cfa.specs.declared.parts.GraphParts.{GraphParts}
use Rattle.cfa.specs.declared.parts.Node.{Node}
use Rattle.cfa.specs.declared.state.Predicates.{Predicates}
use Rattle.cfa.specs.declared.state.State.{State}
use Rattle.cfa.specs.declared.state.Trap.{Trap}
use Rattle.cfa.specs.States.{value_in}

-- there is a value, and it is not 0 (6.8.4.1p2)
abbrev pub is_nonzero : Result ℕ Trap → Bool
is_nonzero (Ok value) = not (value == 0)
is_nonzero (Err trap) = false

abbrev pub expr_holds : State → Option (Option Expr) → Bool
expr_holds s None = false
expr_holds s (Some None) = false
expr_holds s (Some (Some e)) = is_nonzero (value_in s e)

-- A predicate holds where it has an expression in the scope and that has a value other than 0. The row has its expression
-- for each scope.
abbrev pub holds : ℕ → State → List (Option Expr) → Bool
holds scope s row = expr_holds s (slice_get row scope)

-- ---- as bits of a number

abbrev pub bit : Bool → ℕ
bit true = 1
bit false = 0

-- the number of these bits, the lowest first
abbrev pub number_of_bits : List Bool → ℕ
number_of_bits [] = 0
number_of_bits (b ∷ bs) = bit b + 2 * number_of_bits bs

abbrev pub mask_at : Predicates → State → Option Node → ℕ
mask_at p s None = 0
mask_at p s (Some n) = number_of_bits (map (holds n.scope s) p.meanings)

-- bit p, counted from 0, says whether predicate p holds in the scope of the state's node
abbrev pub mask_of : GraphParts → Predicates → State → ℕ
mask_of parts p s = mask_at p s (slice_get parts.nodes s.node)

-- Structural hashing: the literal that a conjunction comes to, and the gates after it.
use Rattle.std.specs.Prelude.{ℕ, ◌+◌, ◌==◌, nat_lt, Bool, false, true, not, ◌&&◌, ◌||◌, if◌then◌else◌, List, [], ◌∷◌, ◌++◌, length, position, Option, Some, None, is_some, unwrap_or}
use Rattle.std.specs.Bool.{beq}
use Rattle.std.specs.Option.{option_map, option_or}
use Rattle.circuit.specs.declared.lit.Lit.{Lit}
use Rattle.circuit.specs.declared.lit.Gate.{Gate}
use Rattle.circuit.specs.declared.lit.Gate.TheVariants.{Input, And}

-- the literal of the other sign
abbrev pub inverse : Lit → Lit
inverse l = record { wire = l.wire; negated = not l.negated }

-- the literal that holds in every world
abbrev pub yes_lit : Lit
yes_lit = record { wire = 0; negated = false }

-- the literal that holds in no world
abbrev pub no_lit : Lit
no_lit = record { wire = 0; negated = true }

-- the literal of a wire itself
abbrev pub lit_of : ℕ → Lit
lit_of wire = record { wire = wire; negated = false }

-- two literals are one
abbrev pub same_lit : Lit → Lit → Bool
same_lit a b = (a.wire == b.wire) && beq a.negated b.negated

-- the gate is the conjunction of these two, in either order
abbrev pub joins : Lit → Lit → Gate → Bool
joins a b (Input number) = false
joins a b (And left right) = (same_lit a left && same_lit b right) || (same_lit b left && same_lit a right)

-- what a conjunction of two comes to by what they are: no where one is no or they are opposite, the other where one is
-- yes, and either where they are equal
abbrev pub folded : Lit → Lit → Option Lit
folded a b =
    if same_lit a no_lit || (same_lit b no_lit || same_lit a (inverse b)) then Some no_lit
    else if same_lit a yes_lit then Some b
    else if same_lit b yes_lit || same_lit a b then Some a
    else None

-- the literal of the first gate that is the conjunction of these two
abbrev pub shared : List Gate → Lit → Lit → Option Lit
shared gates a b = option_map (λ k. lit_of (k + 1)) (position (joins a b) gates)

-- the literal that a conjunction comes to without a new gate
unfoldable pub known_and : List Gate → Lit → Lit → Option Lit
known_and gates a b = option_or (folded a b) (shared gates a b)

-- the gate of two literals, that with the lower wire first
abbrev pub and_gate : Lit → Lit → Gate
and_gate a b = if nat_lt a.wire b.wire then And a b else And b a

-- the gates after a conjunction: one more, where it needs one
unfoldable pub gates_with_and : List Gate → Lit → Lit → List Gate
gates_with_and gates a b = if is_some (known_and gates a b) then gates else gates ++ and_gate a b ∷ []

-- the literal of a conjunction: the one known, or that of the new gate
unfoldable pub and_lit : List Gate → Lit → Lit → Lit
and_lit gates a b = unwrap_or (known_and gates a b) (lit_of (length gates + 1))

-- The weights of operations on words, by the operands' width, and how many wires a weight allows.
use Rattle.std.specs.Prelude.{ℕ, ◌*◌}

-- complement, conjunction, disjunction and exclusive disjunction
abbrev pub bitwise_weight : ℕ → ℕ
bitwise_weight width = 4 * width

-- sums, differences, negatives and comparisons
abbrev pub sum_weight : ℕ → ℕ
sum_weight width = 8 * width

-- shifts, by the width of what is shifted
abbrev pub shift_weight : ℕ → ℕ
shift_weight width = 24 * width

abbrev pub product_weight : ℕ → ℕ
product_weight width = 8 * (width * width)

-- quotients and remainders
abbrev pub quotient_weight : ℕ → ℕ
quotient_weight width = 16 * (width * width)

-- the most wires that an operation of this weight uses
abbrev pub most_wires : ℕ → ℕ
most_wires weight = 30 * weight

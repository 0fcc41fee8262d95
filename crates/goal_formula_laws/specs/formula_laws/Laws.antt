-- What follows from the definitions of formulas and bits.
use Rattle.std.specs.Prelude.{◌≡◌, ◌↔◌, ℕ, ◌<◌, ◌≤◌, ◌%◌, ◌^◌, ℤ, Bool, true, List, length, map, IsTrue}
use Rattle.std.specs.List.{AllZip, list_all}
use Rattle.cnf.specs.Checks.{Checks}
use Rattle.cnf.specs.Formulas.{Satisfies, is_true_literal}
use Rattle.cnf.specs.declared.derivation.Derivation.{Derivation}
use Rattle.cnf.specs.declared.formula.Formula.{Formula}
use Rattle.unwinder.specs.input_words.Worlds.{low_bits}
use Rattle.path_runner.specs.Masks.{number_of_bits}
use Rattle.goal_formula_laws.specs.formula_laws.Bits.{DifferAt, RowsDifferAt}
use Rattle.goal_formula_laws.specs.formula_laws.Orders.{FirstDifferAt, IsBefore, bits_in_order}
use Rattle.goal_formula_laws.specs.formula_laws.Units.{with_units}

-- ---- unit clauses

-- a formula with unit clauses is satisfied exactly where the formula is, and all their literals are true
abbrev pub UnitsHold : Type 0
UnitsHold =
    (value : ℕ → Bool) (formula : Formula) (literals : List ℤ) → Satisfies value (with_units formula literals) ↔ (Satisfies value formula × IsTrue (list_all (is_true_literal value) literals))

-- what a test says of all its literals is what it says of the formula's and of those of the units: so it is over its
-- variables where both are
abbrev pub UnitsKeep : Type 0
UnitsKeep =
    (test : ℤ → Bool) (formula : Formula) (literals : List ℤ) → (list_all (list_all test) (with_units formula literals).clauses ≡ true) ↔ ((list_all (list_all test) formula.clauses ≡ true) × (list_all test literals ≡ true))

-- where a derivation checks over a formula with units, no assignment that satisfies the formula makes all of them true
abbrev pub UnitsRefuted : Type 0
UnitsRefuted =
    (value : ℕ → Bool) (formula : Formula) (literals : List ℤ) (derivation : Derivation) → Checks (with_units formula literals) derivation → Satisfies value formula → ¬ IsTrue (list_all (is_true_literal value) literals)

-- ---- bits

-- of two rows of as many bits, the highest in which they differ decides which number is less
abbrev pub HighestBitOfRows : Type 0
HighestBitOfRows =
    (xs ys : List Bool) → length xs ≡ length ys → (number_of_bits xs < number_of_bits ys) ↔ ((k : ℕ) × RowsDifferAt xs ys k)

-- and so of two numbers of as many bits
abbrev pub HighestBitDecides : Type 0
HighestBitDecides =
    (width a b : ℕ) → a < 2 ^ width → b < 2 ^ width → (a < b) ↔ ((k : ℕ) × DifferAt width a b k)

-- the number of the low bits of a number is what is left of it modulo 2 to their count
abbrev pub NumberOfLowBits : Type 0
NumberOfLowBits = (width n : ℕ) → number_of_bits (low_bits width n) ≡ n % 2 ^ width

-- and the low bits of the number of a row are the row
abbrev pub LowBitsOfNumber : Type 0
LowBitsOfNumber = (bits : List Bool) → low_bits (length bits) (number_of_bits bits) ≡ bits

-- ---- orders

-- of rows of bits, the numbers of some are before those of others exactly where the bits, each row from its highest on,
-- first differ so
abbrev pub FirstBitDecides : Type 0
FirstBitDecides =
    (rows others : List (List Bool)) → map length rows ≡ map length others → IsBefore (map number_of_bits rows) (map number_of_bits others) ↔ ((k : ℕ) × FirstDifferAt (bits_in_order rows) (bits_in_order others) k)

-- numbers each of which is at most another's are before what these are before
abbrev pub LowerIsBefore : Type 0
LowerIsBefore = (xs ys zs : List ℕ) → AllZip (λ x y. x ≤ y) xs ys → IsBefore ys zs → IsBefore xs zs

-- a row with fewer bits has no greater number
abbrev pub FewerBits : Type 0
FewerBits = (xs ys : List Bool) → AllZip (λ x y. IsTrue x → IsTrue y) xs ys → number_of_bits xs ≤ number_of_bits ys

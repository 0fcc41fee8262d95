-- What shows that a bit of the least input can't be 0.
use Rattle.std.specs.Prelude.{◌≡◌, ℕ, ◌+◌, ℤ, pos, negsuc, neg_ℤ, All, Bool, true, false, if◌then◌else◌, List, [], ◌∷◌, ◌++◌, map, reverse, Option, None, option_map}
use Rattle.std.specs.List.{filter_map, flat_map, zip}
use Rattle.c_meaning.specs.declared.input.Input.{Input}
use Rattle.certificate.specs.Certificates.{IsPair}
use Rattle.cnf.specs.declared.formula.Formula.{Formula}
use Rattle.goal_formula_laws.specs.formula_laws.Units.{with_units}
use Rattle.goal_formula.specs.declared.goal.GoalFormula.{GoalFormula}
use Rattle.unwinder.specs.input_words.Worlds.{low_bits}
use Rattle.search.specs.Nexts.{IsRefutation}
use Rattle.std.proofs.Common.{length}
use Rattle.least_input.specs.declared.least.Fixed.{Fixed}

-- a bit of an input: the variable that it has in a formula, and its value
abbrev pub InputBit : Type 0
InputBit = Option ℕ × Bool

-- the bits of a number, from the highest on, with the variables of a row, which has the lowest first
abbrev pub row_bits : List (Option ℕ) → ℕ → List InputBit
row_bits row number = reverse (zip row (low_bits (length row) number))

-- those of one number for each row
abbrev pub rows_bits : List (List (Option ℕ)) → List ℕ → List InputBit
rows_bits [] numbers = []
rows_bits (row ∷ rows) [] = []
rows_bits (row ∷ rows) (n ∷ numbers) = row_bits row n ++ rows_bits rows numbers

-- the bits of an input in the order in which they decide: from the first word's highest on, the answers' after the words'
abbrev pub bits_of : GoalFormula → Input → List InputBit
bits_of g input = rows_bits g.words input.words ++ rows_bits g.answers input.answers

-- the variables of input bits in that order
abbrev pub variables_in_order : GoalFormula → List ℕ
variables_in_order g = filter_map (λ v. v) (flat_map reverse g.words ++ flat_map reverse g.answers)

-- ---- literals

-- the literal that sets a variable to this value
abbrev pub literal_of : Bool → ℕ → ℤ
literal_of true n = pos n
literal_of false n = neg_ℤ (pos n)

-- the variable of a literal
abbrev pub variable_of : ℤ → ℕ
variable_of (pos n) = n
variable_of (negsuc n) = n + 1

-- whether a literal sets its variable to 1
abbrev pub sets : ℤ → Bool
sets (pos n) = true
sets (negsuc n) = false

-- the literal that sets a bit as it is, if it has a variable
abbrev pub setting : InputBit → Option ℤ
setting bit = option_map (literal_of bit.1) bit.0

-- those of bits, in order
abbrev pub settings : List InputBit → List ℤ
settings bits = filter_map setting bits

-- ---- parts

-- for each of these literals that sets a bit to 1: the literals before it, and the one that sets this bit to 0
abbrev pub parts_from : List ℤ → List ℤ → List (List ℤ)
parts_from before [] = []
parts_from before (x ∷ xs) =
    if sets x then (before ++ neg_ℤ x ∷ []) ∷ parts_from (before ++ x ∷ []) xs else parts_from (before ++ x ∷ []) xs

abbrev pub parts_of : List ℤ → List (List ℤ)
parts_of settings = parts_from [] settings

-- A part's derivation checks over a formula with the part's literals added at its end as unit clauses, in order. It has at
-- most one line more than the budget. A certificate can write the two.
abbrev pub IsRefuted : Formula → ℕ → Fixed → Type 0
IsRefuted formula budget part =
    IsRefutation (with_units formula part.units) budget part.derivation × IsPair (with_units formula part.units) part.derivation

abbrev pub AreRefuted : Formula → ℕ → List Fixed → Type 0
AreRefuted formula budget fixed = All (IsRefuted formula budget) fixed

-- For each bit of an input that is 1 there is one part, in the order in which the bits decide: its literals set each earlier
-- bit that has a variable as it is in the input, and this bit to 0, and no assignment satisfies the formula with them, as a
-- derivation shows. A bit without a variable is 0.
pub record AreFixed (g : GoalFormula) (budget : ℕ) (input : Input) (fixed : List Fixed) : Type 0 where
  pub parts : map (λ (part : Fixed). part.units) fixed ≡ parts_of (settings (bits_of g input))
  pub refuted : AreRefuted g.formula budget fixed
  pub unset : All (λ (bit : InputBit). bit.0 ≡ None → bit.1 ≡ false) (bits_of g input)

-- The order of the inputs of a function: word by word and then answer by answer, each number without a sign, and the first
-- difference decides.
use Rattle.std.specs.Prelude.{ℕ, zero, suc, List, [], ◌∷◌, ◌++◌}
use Rattle.c_meaning.specs.declared.input.Input.{Input}
use Rattle.goal_formula_laws.specs.formula_laws.Orders.{IsBefore}

-- so many numbers of a list, 0 past its end
abbrev pub filled : ℕ → List ℕ → List ℕ
filled zero numbers = []
filled (suc count) [] = 0 ∷ filled count []
filled (suc count) (n ∷ numbers) = n ∷ filled count numbers

-- the numbers of an input in the order in which they decide: its words, and then so many answers
abbrev pub numbers_of : ℕ → Input → List ℕ
numbers_of answers input = input.words ++ filled answers input.answers

-- one input compares less than another, with so many answers
abbrev pub IsLower : ℕ → Input → Input → Type 0
IsLower answers x y = IsBefore (numbers_of answers x) (numbers_of answers y)

-- Whether bounds suffice: what is said of each answer.
use Rattle.std.specs.Prelude.{◌≢◌, ℕ, ◌-◌, ◌<◌, ◌≤◌, ◌^◌, All, List, length, Some, slice_get}
use Rattle.std.specs.List.{AllZip}
use Rattle.c_meaning.specs.declared.input.Input.{Input}
use Rattle.c_values.specs.Kind.{IsValue}
use Rattle.certificate.specs.Certificates.{IsPair}
use Rattle.cfa.specs.Contexts.{Pair}
use Rattle.cfa.specs.declared.parts.Function.{Function}
use Rattle.cfa.specs.declared.parts.GraphParts.{GraphParts}
use Rattle.cnf.specs.declared.formula.Formula.{Formula}
use Rattle.unwinder_reach.specs.reached.Reaching.{AreReached}
use Rattle.unwinder_reach.specs.declared.reached.bounds.Bounds.{Bounds}
use Rattle.unwinder_reach.specs.declared.reached.step.Step.{Step}
use Rattle.search.specs.Nexts.{IsFound, IsRefutation}
use Rattle.search.specs.declared.found.Found.TheVariants.{Spent}
use Rattle.search.specs.declared.moves.History.{History}
use Rattle.unwinder_reach.specs.unwinding_size.Sizes.{size_sum}
use Rattle.bounds_check.specs.Leaving.{IsForLeaving, Leaves, NoneLeaves, most_variables, no_predicates}
use Rattle.bounds_check.specs.declared.suffice.Suffice.{Suffice}
use Rattle.bounds_check.specs.declared.suffice.Suffice.TheVariants.{Left, Open, Yes}

-- as many moves as the budget, from the first state of the search of a formula to one that isn't finished
abbrev pub IsSpent : Formula → ℕ → History → Type 0
IsSpent formula budget history = IsFound formula budget (Spent history)

-- the last of these numbers, if there is one, isn't 0
abbrev pub EndsWithoutZero : List ℕ → Type 0
EndsWithoutZero numbers = slice_get numbers (length numbers - 1) ≢ Some 0

-- An input leaves the bounds. It has one word for each parameter, each a value of its kind, and no more answers of 64 bits
-- than the bounds have, the last of them not 0.
pub record IsLeft (parts : GraphParts) (f : Function) (bounds : Bounds) (input : Input) : Type 0 where
  pub leaves : Leaves parts f bounds input
  pub words_fit : AllZip IsValue f.parameters input.words
  pub few_answers : length input.answers ≤ bounds.answers
  pub answers_fit : All (λ n. n < 2 ^ 64) input.answers
  pub ends : EndsWithoutZero input.answers

-- The pairs that are reached within the bounds and their size sum are within their limits.
pub record IsWithinLimits (parts : GraphParts) (f : Function) (bounds : Bounds) : Type 0 where
  pub pairs : List Pair
  pub steps : List (List Step)
  pub reached : AreReached parts bounds f pairs steps
  pub few_pairs : length pairs ≤ 50000
  pub small : size_sum parts no_predicates f pairs steps ≤ 4194304

-- what is said of an answer with a budget of so many moves
abbrev pub IsSuffice : GraphParts → Function → Bounds → ℕ → Suffice → Type 0
IsSuffice parts f bounds budget (Yes formula derivation) =
    NoneLeaves parts f bounds × IsForLeaving parts f bounds formula × IsRefutation formula budget derivation × IsPair formula derivation
IsSuffice parts f bounds budget (Left input) = IsLeft parts f bounds input
IsSuffice parts f bounds budget (Open formula history) = IsForLeaving parts f bounds formula × IsSpent formula budget history

-- A budget of so many moves is below 3 to the most variables, over the pairs that are reached within the bounds.
pub record FallsShort (parts : GraphParts) (f : Function) (bounds : Bounds) (budget : ℕ) : Type 0 where
  pub pairs : List Pair
  pub steps : List (List Step)
  pub reached : AreReached parts bounds f pairs steps
  pub short : budget < 3 ^ most_variables parts f bounds pairs steps

-- the answer is open only where its budget falls short
abbrev pub IsOpenWhereShort : GraphParts → Function → Bounds → ℕ → Suffice → Type 0
IsOpenWhereShort parts f bounds budget (Yes formula derivation) = Unit {0}
IsOpenWhereShort parts f bounds budget (Left input) = Unit {0}
IsOpenWhereShort parts f bounds budget (Open formula history) = FallsShort parts f bounds budget

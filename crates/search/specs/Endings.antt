-- How a search ends, before its history is made.
use Rattle.std.specs.Prelude.{◌≡◌, ℕ, length}
use Rattle.cnf.specs.declared.formula.Formula.{Formula}
use Rattle.search.specs.declared.ending.Ending.{Ending}
use Rattle.search.specs.declared.ending.Ending.TheVariants as ending
use Rattle.search.specs.declared.found.Found.TheVariants as found
use Rattle.search.specs.Nexts.{IsEnd, IsFound}
use Rattle.search.specs.Steps.{jump_count, moves_of}

-- what a search may end with: an end within the budget, or steps whose moves are a history of as many moves as the budget
abbrev pub IsEnding : Formula → ℕ → Ending → Type 0
IsEnding formula budget (ending.Ended found) = IsEnd formula budget found
IsEnding formula budget (ending.Spent steps lines) =
    (jump_count steps.items ≡ length lines) × IsFound formula budget (found.Spent record { moves = moves_of steps.items lines })

-- What lessons tell of a goal.
use Rattle.suite_problem.specs.declared.goal.Goal.{Goal}
use Rattle.suite.specs.Seeking.{IsMadeFrom, IsNoneFrom}
use Rattle.suite.specs.declared.by_lessons.Told.{Told}
use Rattle.suite.specs.declared.by_lessons.Told.TheVariants.{Covered, Refuted, Open}

-- an input that was made for it, or that no input at all hits it
abbrev pub IsTold : Goal → Told → Type 0
IsTold goal (Covered input) = IsMadeFrom goal input
IsTold goal Refuted = IsNoneFrom goal
IsTold goal Open = Unit {0}

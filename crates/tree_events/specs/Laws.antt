-- What follows from what happens in trees.
use Rattle.std.specs.Prelude.{◌≡◌, ◌≢◌, ℕ, ◌+◌, List, ◌++◌}
use Rattle.c_meaning.specs.declared.input.Input.{Input}
use Rattle.c_typed_trees.specs.declared.unit.Typed.{Typed}
use Rattle.tree_events.specs.declared.edge_events.event.Event.{Event}
use Rattle.tree_meaning.specs.declared.ends.TreeEnd.TheVariants.{OutOfTurns}
use Rattle.tree_meaning.specs.Ends.{tree_end}
use Rattle.tree_meaning.specs.Running.{FitUnit}
use Rattle.tree_events.specs.Runs.{tree_events, told_end}

-- events left out, the run of a unit that fits ends as by the trees' meaning
abbrev pub EndsAreThose : Type 0
EndsAreThose = (t : Typed) (entry : ℕ) (input : Input) (turns : ℕ) → FitUnit t → told_end t entry input turns ≡ tree_end t entry input turns

-- with more turns the same happens first, and perhaps more
abbrev pub MoreTurnsTellMore : Type 0
MoreTurnsTellMore = (t : Typed) (entry : ℕ) (input : Input) (turns more : ℕ) → (rest : List Event) × (tree_events t entry input (turns + more) ≡ tree_events t entry input turns ++ rest)

-- where so many turns are enough, nothing more happens with more
abbrev pub EnoughTurnsTellAll : Type 0
EnoughTurnsTellAll = (t : Typed) (entry : ℕ) (input : Input) (turns more : ℕ) → told_end t entry input turns ≢ OutOfTurns → tree_events t entry input (turns + more) ≡ tree_events t entry input turns

-- The entry, as the code has it.
use Rattle.std.specs.Prelude.{List}
use Rattle.std.specs.List.{All}
use Rattle.c_meaning.specs.Starts.{CanStart}
use Rattle.c_meaning.specs.declared.input.Input.{Input}
use Rattle.suite_problem.specs.declared.entry.Entry.{Entry}
use Rattle.command.specs.Runs.{EntryFunction}

abbrev pub seen : Entry → EntryFunction
seen entry = record { number = entry.number; function = entry.function.now }

-- with each of these inputs a run can begin at it
abbrev pub AllCanStart : Entry → List Input → Type 0
AllCanStart entry inputs = All (λ input. CanStart entry.function.now input.words) inputs

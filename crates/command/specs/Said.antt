-- What the program says: a status, what it writes, and what it shows the watch.
use Rattle.std.specs.Prelude.{ℕ, List, [], Bool, Option, Some, if◌then◌else◌}
use Rattle.suite.specs.Generated.{Shown}
use Rattle.command.specs.declared.status.Status.{Status}
use Rattle.command.specs.declared.status.Status.TheVariants as status

-- The status, what is written to `out` and to `err`, and the goals that stay undecided, each with its formula and the history
-- of its search. A refusal's status is that of its code, and a number that is no code has none, so that no run ends by it.
pub record Said : Type 0 where
  pub status : Option Status
  pub out : List ℕ
  pub err : List ℕ
  pub shown : List Shown

-- an answer, and nothing to `err`
abbrev pub answered : List ℕ → Said
answered text = record { status = Some status.Done; out = text; err = []; shown = [] }

-- a line to `err`, and nothing to `out`
abbrev pub refused : Option Status → List ℕ → Said
refused status line = record { status = status; out = []; err = line; shown = [] }

-- an answer is done where none in it is left open
abbrev pub status_with : Bool → Status
status_with left_open = if left_open then status.DoneOpen else status.Done

-- What printed lines together say of all runs.
use Rattle.std.specs.Prelude.{◌≡◌, ℕ, List, [], ◌∷◌, Some, map}
use Rattle.c_meaning.specs.declared.ends.Ends.{Ends}
use Rattle.unwinder_reach.specs.declared.reached.bounds.Bounds.{Bounds}
use Rattle.command_words.specs.Reading.{Text}
use Rattle.command.specs.Reads.{Reads}
use Rattle.command.specs.Said.{Said}
use Rattle.command_laws.specs.printed_laws.Bounds.{SaysSuffice}
use Rattle.command_laws.specs.printed_laws.Goals.{SaysRefuted}
use Rattle.command_laws.specs.printed_laws.Unreachable.{IsUnreachable}

-- ---- files

-- each of these files tells what it holds
abbrev pub AreTold : Reads → List Text → Type 0
AreTold r [] = Unit {0}
AreTold r (file ∷ files) = ((held : List ℕ) × (r.holds file ≡ Some held)) × AreTold r files

-- two runs of the program find the same in these files, which is told
pub record HoldTheSame (before after : Reads) (files : List Text) : Type 0 where
  pub same : map before.holds files ≡ map after.holds files
  pub told : AreTold after files

-- ---- goals

-- Where a line says that a goal is refuted, and a line of the same entry, sources and bounds that these suffice, the goal is unreachable.
-- So the line of `check` or `least`, with that of `check-bounds` or `bounds`, is enough.
abbrev pub RefutedIsUnreachable : Type 0
RefutedIsUnreachable =
    (before after : Reads) (sources : List Text) (name query : Text) (number : ℕ) (bounds : Bounds) (ends : Ends) (said other : Said) →
    HoldTheSame before after sources → SaysRefuted before sources name query number bounds ends said → SaysSuffice after sources name bounds other →
    IsUnreachable after sources name query number ends

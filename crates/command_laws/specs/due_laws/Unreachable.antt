-- A goal that is refuted within bounds that suffice is unreachable: two accepted certificates say so together.
use Rattle.std.specs.Prelude.{◌≡◌, ℕ, IsTrue, Some, map}
use Rattle.report.specs.Suffice.{suffice_text}
use Rattle.command_words.specs.Reading.{Text}
use Rattle.command_words.specs.Request as asks
use Rattle.command_words.specs.Request.{check, suffice, Checking, CheckingBounds, Sufficing}
use Rattle.command.specs.declared.status.Status.TheVariants as status
use Rattle.command.specs.Due.{IsDueOf}
use Rattle.command.specs.Ranges.{within}
use Rattle.command.specs.Reads.{Reads}
use Rattle.command.specs.Said.{Said, answered}
use Rattle.command_laws.specs.printed_laws.Unreachable.{IsUnreachable}
use Rattle.command_laws.specs.due_laws.Determined.{are_told}

-- whether the bounds suffice, asked of `check-bounds`, with a certificate in this file
abbrev pub bounds_checked_of : Checking → Text → CheckingBounds
bounds_checked_of m file = record { entry = m.entry; certificate = file; sources = m.sources; bounds = m.bounds }

-- and of `bounds`, with this budget
abbrev pub bounds_asked_of : Checking → ℕ → Sufficing
bounds_asked_of m budget = record { entry = m.entry; sources = m.sources; bounds = m.bounds; budget = budget }

-- Where `check` is done, the sources still hold the same, which is told, and `check-bounds` is done, or `bounds` says that the bounds
-- suffice, the goal is unreachable. All that counts of the certificates is that they were accepted.
pub record AcceptedMeansUnreachable : Type 0 where
  pub by_certificates : (before after : Reads) (m : Checking) (file : Text) (said other : Said)
      → map before.holds m.sources ≡ map after.holds m.sources → IsTrue (are_told after m.sources)
      → IsDueOf before (check m) said → said.status ≡ Some status.Done
      → IsDueOf after (asks.check_bounds (bounds_checked_of m file)) other → other.status ≡ Some status.Done → IsUnreachable after m.sources m.entry m.query m.goal m.ends
  pub by_search : (before after : Reads) (m : Checking) (budget : ℕ) (said other : Said)
      → map before.holds m.sources ≡ map after.holds m.sources → IsTrue (are_told after m.sources)
      → IsDueOf before (check m) said → said.status ≡ Some status.Done
      → IsDueOf after (suffice (bounds_asked_of m budget)) other → other ≡ answered (suffice_text (within m.bounds)) → IsUnreachable after m.sources m.entry m.query m.goal m.ends

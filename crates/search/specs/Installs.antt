-- How the formula's clauses get their watched literals, before anything is decided.
use Rattle.std.specs.Prelude.{◌≡◌, ℕ, ◌+◌, ◌≤◌, ℤ, true, length}
use Rattle.cnf.specs.declared.formula.Formula.{Formula}
use Rattle.search.specs.declared.machine.Machine.{Machine}
use Rattle.search.specs.declared.reading.Queue.{Queue}
use Rattle.search.specs.declared.reading.Queue.TheVariants as queue
use Rattle.search.specs.declared.reading.Visit.{Visit}
use Rattle.search.specs.declared.reading.Visit.TheVariants as visit
use Rattle.search.specs.declared.watching.Watching.{Watching}
use Rattle.search.specs.At.{IsAt}
use Rattle.search.specs.Conflicts.{IsConflicting}
use Rattle.search.specs.Machine.{is_true}
use Rattle.search.specs.Readings.{IsSearching}
use Rattle.search.specs.Watching.{IsDecidedAt, IsWatching}

-- so many clauses have their pairs; nothing was learned, decided or read
pub record IsInstalling (formula : Formula) (budget : ℕ) (m : Machine) (w : Watching) (place : ℕ) : Type 0 where
  pub at : IsAt formula m
  pub watching : IsWatching formula m.learned m.trail.items w
  pub pairs : length w.pairs.items ≡ place
  pub head : w.head ≡ 0
  pub undecided : (d : ℕ) → IsDecidedAt m.trail.items d → ⊥
  pub lines : length m.learned.lines ≡ 0
  pub paid : length m.moves.items ≤ budget

-- a clause is false before anything was decided
pub record IsRefuted (formula : Formula) (budget : ℕ) (m : Machine) (number : ℕ) : Type 0 where
  pub at : IsAt formula m
  pub undecided : (d : ℕ) → IsDecidedAt m.trail.items d → ⊥
  pub conflict : IsConflicting formula m number
  pub paid : length m.moves.items ≤ budget

-- a clause's one literal is made true
abbrev pub IsMade : Formula → ℕ → Machine → Watching → ℤ → ℕ → Visit → Type 0
IsMade formula budget m w x place visit.Stays = IsInstalling formula budget m w place × (is_true m.trail.items x ≡ true)
IsMade formula budget m w x place visit.Leaves = ⊥
IsMade formula budget m w x place (visit.Conflict number) = IsRefuted formula budget m number
IsMade formula budget m w x place visit.Spent = IsAt formula m × (length m.moves.items ≡ budget)

-- one more clause gets its pair
abbrev pub IsInstalled : Formula → ℕ → Machine → Watching → ℕ → Visit → Type 0
IsInstalled formula budget m w place visit.Stays = IsInstalling formula budget m w (place + 1)
IsInstalled formula budget m w place visit.Leaves = ⊥
IsInstalled formula budget m w place (visit.Conflict number) = IsRefuted formula budget m number
IsInstalled formula budget m w place visit.Spent = IsAt formula m × (length m.moves.items ≡ budget)

-- all have
abbrev pub IsPrepared : Formula → ℕ → Machine → Watching → Queue → Type 0
IsPrepared formula budget m w queue.Read = IsSearching formula budget m w
IsPrepared formula budget m w (queue.Conflict number) = IsRefuted formula budget m number
IsPrepared formula budget m w queue.Spent = IsAt formula m × (length m.moves.items ≡ budget)

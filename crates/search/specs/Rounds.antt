-- What a round of the search leads to: the queue is read, and then a clause is learned or a literal decided.
use Rattle.std.specs.Prelude.{◌≡◌, ℕ, ◌+◌, ◌≤◌, [], length}
use Rattle.cnf.specs.declared.formula.Formula.{Formula}
use Rattle.cnf.specs.Checks.{IsRight}
use Rattle.search.specs.declared.machine.Machine.{Machine}
use Rattle.search.specs.declared.rounds.Round.{Round}
use Rattle.search.specs.declared.rounds.Round.TheVariants as round
use Rattle.search.specs.declared.watching.Watching.{Watching}
use Rattle.search.specs.At.{IsAt}
use Rattle.search.specs.Machine.{EndsAsModel, clauses_of}
use Rattle.search.specs.Nexts.{state_of}
use Rattle.search.specs.Readings.{IsSearching}

abbrev pub IsRound : Formula → ℕ → Machine → Machine → Watching → Round → Type 0
IsRound formula budget before m w round.Went = IsSearching formula budget m w × (length before.moves.items + 1 ≤ length m.moves.items)
IsRound formula budget before m w round.Model = IsAt formula m × EndsAsModel formula (state_of m.trail.items m.learned)
IsRound formula budget before m w (round.Refuted line) =
    IsAt formula m × IsRight (clauses_of formula (state_of m.trail.items m.learned)) line × (line.clause ≡ []) × (length m.moves.items ≤ budget)
IsRound formula budget before m w round.Spent = IsAt formula m × (length m.moves.items ≡ budget)

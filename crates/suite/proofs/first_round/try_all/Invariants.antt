use Rattle.suite.specs.Seeking.{IsOfSame}
use Rattle.suite.proofs.first_round.try_all.Given as goal

abbrev pub invariant-loop-turn : goal.invariant-loop-turn
invariant-loop-turn l = IsOfSame l.fn.sought l.sought

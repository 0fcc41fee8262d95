use Rattle.std.proofs.Common.{◌≡◌, ◌++◌, drop}
use Rattle.c_meaning.specs.Starts.{fitted_words}
use Rattle.c_meaning.proofs.starting.fitted_to.Given as goal

-- the values so far, and those of the other words behind them
abbrev pub invariant-loop-at : goal.invariant-loop-at
invariant-loop-at l = fitted_words l.words l.kinds ≡ l.values ++ fitted_words (drop l.at l.words) (drop l.at l.kinds)

use Rattle.std.proofs.Common.{◌≡◌, take}
use Rattle.goal_formula.specs.Bits.{assignment, words_in}
use Rattle.goal_formula.proofs.model.words_of.Given as goal

abbrev pub invariant-loop-at : goal.invariant-loop-at
invariant-loop-at l = l.words ≡ words_in (assignment l.model) (take l.at l.kinds) (take l.at l.rows)

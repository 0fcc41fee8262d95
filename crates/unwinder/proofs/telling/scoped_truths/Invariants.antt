use Rattle.unwinder.proofs.Truths.{TruthsSoFar}
use Rattle.unwinder.proofs.telling.scoped_truths.Given as goal

abbrev pub invariant-loop-row : goal.invariant-loop-row
invariant-loop-row l = TruthsSoFar l.initial.circuit l.circuit l.rows l.scope l.state l.literals l.row-index

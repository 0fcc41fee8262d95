use Rattle.sym_expr.proofs.sym_steps.StartLemmas.{ConstantsSoFar}
use Rattle.sym_expr.proofs.sym_steps.starting.constants.Given as goal

abbrev pub invariant-loop-value : goal.invariant-loop-value
invariant-loop-value l = ConstantsSoFar l.values l.words l.value-index

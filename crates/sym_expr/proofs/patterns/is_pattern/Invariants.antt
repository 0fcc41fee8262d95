use Rattle.sym_expr.proofs.PatternLemmas.{AlikeSoFar}
use Rattle.sym_expr.proofs.patterns.is_pattern.Given as goal

abbrev pub invariant-loop-i : goal.invariant-loop-i
invariant-loop-i l = AlikeSoFar l.initial.circuit l.circuit l.word l.pattern l.alike l.i

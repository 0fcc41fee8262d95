use Rattle.sym_expr.proofs.WriteLemmas.{WrittenSoFar}
use Rattle.sym_expr.proofs.writes.put_among.Given as goal

abbrev pub invariant-loop-k : goal.invariant-loop-k
invariant-loop-k l = WrittenSoFar l.initial.circuit l.circuit l.initial.store.cells l.store.cells l.start l.index l.word l.inside l.k

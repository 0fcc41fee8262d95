use Rattle.derivation_check.proofs.NumbersLaws.{sizes_more}
use Rattle.derivation_check.proofs.table.size_for_clauses.Goals as goal

pub loop-clause-preserved : goal.loop-clause-preserved
loop-clause-preserved c =
    rw c.max-size.ensures (sizes_more (λ clause. clause) _ _ _ _ _ c.loop-clause-test.true c.loop-clause.invariant c.clause-item.is c.size_for_clause.ensures)

use Rattle.cnf.specs.declared.derivation.DerivationLine.{DerivationLine}
use Rattle.derivation_check.proofs.NumbersLaws.{sizes_more}
use Rattle.derivation_check.proofs.table.size_for_lines.Goals as goal

pub loop-line-preserved : goal.loop-line-preserved
loop-line-preserved c =
    rw c.max-size.ensures (sizes_more (λ (line : DerivationLine). line.clause) _ _ _ _ _ c.loop-line-test.true c.loop-line.invariant c.line-item.is c.size_for_clause.ensures)

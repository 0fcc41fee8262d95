use Rattle.certificate.proofs.ClauseLaws.{rises_from_within}
use Rattle.certificate.proofs.clause_row.to_clause.Goals as goal

pub from_rising-requires : goal.from_rising-requires
from_rising-requires c =
    let h = rw c.if-branch.true at c.in_ok-read_literals.ensures in
    rw (c.deref.ensures.value, h.1) (rises_from_within c.args.variables 0 c.args.numbers.now c.requires h.0)

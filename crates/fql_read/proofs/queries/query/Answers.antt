use Rattle.std.proofs.Common.{arith}
use Rattle.fql_read.proofs.QueryLaws.{more_follows}
use Rattle.fql_read.proofs.queries.query.Goals as goal

pub returns-in_default : goal.returns-in_default
returns-in_default c =
    more_follows c.args.text.now c.args.predicates c.args.tokens.now c.in_ok-base.base _ c.in_ok-cover.cover _ c.in_ok-passing.passing _ c.in_ok-base.ensures (rw c.deref.ensures at c.in_ok-cover.ensures) (rw c.deref-2.ensures at c.in_ok-passing.ensures) (omega (arith, c.in_default.len_at_least))

use Rattle.fql_read.proofs.QueryOutcome.{by_tokens, refused_text, few_tokens}
use Rattle.fql_read.proofs.calls.read.Goals as goal

pub limited_query-requires : goal.limited_query-requires
limited_query-requires c = rw c.deref.ensures (few_tokens c.args.text.now c.in-Ok.tokens c.in-Ok.ensures.accepted)

pub returns-in-Ok : goal.returns-in-Ok
returns-in-Ok c =
    rw (by_tokens c.args.text.now c.in-Ok.tokens c.in-Ok.ensures.accepted) (rw c.deref.ensures at c.limited_query.ensures)

pub returns-in-Err : goal.returns-in-Err
returns-in-Err c = refused_text c.args.text.now c.in-Err.fault c.in-Err.ensures.refused

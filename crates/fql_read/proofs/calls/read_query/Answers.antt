use Rattle.std.proofs.Common.{Ok, Err}
use Rattle.fq_core.specs.Refusals.{refusal}
use Rattle.fq_core.proofs.RefusalLaws.{ok-is, err-is, answer-is}
use Rattle.fql_read.specs.ReadingQueries.{query_outcome}
use Rattle.fql_read.proofs.QueryOutcome.{query_accepted, query_accepts, query_refused, query_refuses}
use Rattle.fql_read.proofs.UsableLaws.{asks_usable}
use Rattle.fql_read.proofs.calls.read_query.Goals as goal

pub returns-clause-accepted : goal.returns-clause-accepted
returns-clause-accepted c = ok-is c.read.result (query_outcome c.args.text.now) c.read.ensures (λ q e. query_accepted _ q e)

pub returns-clause-usable : goal.returns-clause-usable
returns-clause-usable c =
    ok-is c.read.result (query_outcome c.args.text.now) c.read.ensures (λ q e. asks_usable _ q (query_accepted _ q e))

pub returns-clause-accepts : goal.returns-clause-accepts
returns-clause-accepts c = λ q a. answer-is c.read.result (query_outcome c.args.text.now) c.read.ensures (Ok q) (query_accepts _ q a)

pub returns-clause-refused : goal.returns-clause-refused
returns-clause-refused c = λ code p failed.
    query_refused _ code p (err-is c.read.result (query_outcome c.args.text.now) c.read.ensures code p failed)

pub returns-clause-refuses : goal.returns-clause-refuses
returns-clause-refuses c = λ code p d. answer-is c.read.result (query_outcome c.args.text.now) c.read.ensures (Err (refusal code p)) (query_refuses d)

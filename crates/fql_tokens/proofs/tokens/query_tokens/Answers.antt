use Rattle.std.proofs.Common.{Ok, Err}
use Rattle.fq_core.specs.Refusals.{refusal}
use Rattle.fql_tokens.specs.Outcome.{text_outcome}
use Rattle.fq_core.proofs.RefusalLaws.{ok-is, err-is, answer-is}
use Rattle.fql_tokens.proofs.OutcomeLaws.{text_accepted, text_accepts, text_refused, text_refuses}
use Rattle.fql_tokens.proofs.tokens.query_tokens.Goals as goal

pub returns-clause-accepted : goal.returns-clause-accepted
returns-clause-accepted c = ok-is c.limited.result (text_outcome c.args.text.now) c.limited.ensures (λ ts e. text_accepted _ ts e)

pub returns-clause-accepts : goal.returns-clause-accepts
returns-clause-accepts c = λ ts a. answer-is c.limited.result (text_outcome c.args.text.now) c.limited.ensures (Ok ts) (text_accepts _ ts a)

pub returns-clause-refused : goal.returns-clause-refused
returns-clause-refused c = λ code p failed.
    text_refused _ code p (err-is c.limited.result (text_outcome c.args.text.now) c.limited.ensures code p failed)

pub returns-clause-refuses : goal.returns-clause-refuses
returns-clause-refuses c = λ code p d. answer-is c.limited.result (text_outcome c.args.text.now) c.limited.ensures (Err (refusal code p)) (text_refuses d)

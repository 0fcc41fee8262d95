use Rattle.std.proofs.Common.{map, Ok, Err}
use Rattle.c_parse.specs.Signs.{terminal_of}
use Rattle.fq_core.specs.Refusals.{refusal}
use Rattle.c_parse.specs.Outcome.{expression_outcome}
use Rattle.fq_core.proofs.RefusalLaws.{ok-is, err-is, answer-is}
use Rattle.c_parse.proofs.OutcomeLaws.{accepted, accepts, refused, refuses}
use Rattle.c_parse.proofs.calls.expression.Goals as goal

pub returns-clause-accepted : goal.returns-clause-accepted
returns-clause-accepted c =
    ok-is c.read_expression.result (expression_outcome (map terminal_of c.args.tokens.now)) (rw (c.deref.ensures.value, c.in_ok-terminals.ensures) at c.read_expression.ensures) (λ t e. accepted _ t e)

pub returns-clause-accepts : goal.returns-clause-accepts
returns-clause-accepts c = λ t a.
    answer-is c.read_expression.result (expression_outcome (map terminal_of c.args.tokens.now)) (rw (c.deref.ensures.value, c.in_ok-terminals.ensures) at c.read_expression.ensures) (Ok t) (accepts _ t a)

pub returns-clause-refused : goal.returns-clause-refused
returns-clause-refused c = λ code p failed.
    refused _ code p (err-is c.read_expression.result (expression_outcome (map terminal_of c.args.tokens.now)) (rw (c.deref.ensures.value, c.in_ok-terminals.ensures) at c.read_expression.ensures) code p failed)

pub returns-clause-refuses : goal.returns-clause-refuses
returns-clause-refuses c = λ code p d.
    answer-is c.read_expression.result (expression_outcome (map terminal_of c.args.tokens.now)) (rw (c.deref.ensures.value, c.in_ok-terminals.ensures) at c.read_expression.ensures) (Err (refusal code p)) (refuses d)

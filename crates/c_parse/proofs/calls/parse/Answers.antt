use Rattle.std.proofs.Common.{map, Ok, Err}
use Rattle.c_parse.specs.Signs.{terminal_of}
use Rattle.fq_core.specs.Refusals.{refusal}
use Rattle.c_parse.specs.Outcome.{unit_outcome}
use Rattle.fq_core.proofs.RefusalLaws.{ok-is, err-is, answer-is}
use Rattle.c_parse.proofs.UnitOutcome.{unit_accepted, unit_accepts, unit_refused, unit_refuses}
use Rattle.c_parse.proofs.calls.parse.Goals as goal

pub returns-clause-accepted : goal.returns-clause-accepted
returns-clause-accepted c =
    ok-is c.read_unit.result (unit_outcome (map terminal_of c.args.tokens.now)) (rw (c.deref.ensures.value, c.in_ok-terminals.ensures) at c.read_unit.ensures) (λ t e. unit_accepted _ t e)

pub returns-clause-accepts : goal.returns-clause-accepts
returns-clause-accepts c = λ t a.
    answer-is c.read_unit.result (unit_outcome (map terminal_of c.args.tokens.now)) (rw (c.deref.ensures.value, c.in_ok-terminals.ensures) at c.read_unit.ensures) (Ok (record { items = t })) (unit_accepts _ t a)

pub returns-clause-refused : goal.returns-clause-refused
returns-clause-refused c = λ code p failed.
    unit_refused _ code p (err-is c.read_unit.result (unit_outcome (map terminal_of c.args.tokens.now)) (rw (c.deref.ensures.value, c.in_ok-terminals.ensures) at c.read_unit.ensures) code p failed)

pub returns-clause-refuses : goal.returns-clause-refuses
returns-clause-refuses c = λ code p d.
    answer-is c.read_unit.result (unit_outcome (map terminal_of c.args.tokens.now)) (rw (c.deref.ensures.value, c.in_ok-terminals.ensures) at c.read_unit.ensures) (Err (refusal code p)) (unit_refuses d)

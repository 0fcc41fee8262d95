use Rattle.std.proofs.Common.{Ok}
use Rattle.fq_core.proofs.RefusalLaws.{ok-is, err-is, answer-is}
use Rattle.c_types.specs.Refusal.{outcome}
use Rattle.c_types.specs.Units.{typed_of}
use Rattle.c_types.proofs.UnitLaws.{accepted, accepts, refused}
use Rattle.c_types.proofs.typed_unit.check.Goals as goal

pub returns-clause-accepted : goal.returns-clause-accepted
returns-clause-accepted c = ok-is c.typed_unit.result (outcome c.args.unit.items) (rw c.as_slice.ensures at c.typed_unit.ensures) (λ t e. accepted c.args.unit.items t e)

pub returns-clause-accepts : goal.returns-clause-accepts
returns-clause-accepts c = λ none.
    answer-is c.typed_unit.result (outcome c.args.unit.items) (rw c.as_slice.ensures at c.typed_unit.ensures) (Ok (typed_of c.args.unit.items)) (accepts c.args.unit.items none)

pub returns-clause-refused : goal.returns-clause-refused
returns-clause-refused c = λ code p failed.
    refused c.args.unit.items code p (err-is c.typed_unit.result (outcome c.args.unit.items) (rw c.as_slice.ensures at c.typed_unit.ensures) code p failed)

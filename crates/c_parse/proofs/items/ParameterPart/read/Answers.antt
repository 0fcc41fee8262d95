use Rattle.std.proofs.Common.{arith}
use Rattle.c_parse.proofs.Shorter.{type_fewer, named_most}
use Rattle.c_parse.proofs.items.ParameterPart.read.Goals as goal

pub returns-clause-fewer : goal.returns-clause-fewer
returns-clause-fewer c = omega (arith, type_fewer c.args.tokens.now c.in_ok-kind.rest.now c.in_ok-kind.kind (rw c.after_consts.ensures at c.in_ok-kind.ensures), named_most c.in_ok-kind.rest.now c.in_ok-name.field-0.rest.now _ c.in_ok-name.ensures)

use Rattle.std.proofs.Common.{ap, length, arith}
use Rattle.c_parse.proofs.Agree.{tail_most}
use Rattle.c_parse.proofs.Shorter.{name_there, choice_fewer}
use Rattle.c_parse.proofs.items.Tuple2IdentOptionExprTreePart.read.Goals as goal

pub returns-clause-fewer : goal.returns-clause-fewer
returns-clause-fewer c = omega (arith, name_there c.args.tokens.now _ c.in_ok-name.ensures, tail_most c.tail-rest.result.now, ap length c.tail-rest.ensures, ap length c.tail.ensures, choice_fewer c.tail.result.now c.in_ok-value.rest.now c.in_ok-value.value c.in_ok-value.ensures)

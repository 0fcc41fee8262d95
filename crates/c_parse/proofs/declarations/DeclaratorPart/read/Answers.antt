use Rattle.std.proofs.Common.{arith}
use Rattle.c_parse.proofs.Shorter.{name_there, bracketed_most, first_most}
use Rattle.c_parse.proofs.declarations.DeclaratorPart.read.Goals as goal

pub returns-clause-fewer : goal.returns-clause-fewer
returns-clause-fewer c = omega (arith, name_there c.args.tokens.now _ c.in_ok-name.ensures, bracketed_most _ c.in_ok-length.rest.now c.in_ok-length.length (rw c.tail.ensures at c.in_ok-length.ensures), first_most c.in_ok-length.rest.now c.in_ok-first.rest.now c.in_ok-first.first c.in_ok-first.ensures)

use Rattle.c_lex.proofs.NumbersLaws.{numbers}
use Rattle.c_lex.proofs.laws.numbers_are_values.Goals as goal

pub returns : goal.returns
returns c = numbers

use Rattle.c_lex.proofs.OneReadingLaws as laws
use Rattle.c_lex.proofs.SomeReadingLaws.{some_reading}
use Rattle.c_lex.proofs.laws.one_reading.Goals as goal

pub returns-clause-one : goal.returns-clause-one
returns-clause-one c = laws.one_reading

pub returns-clause-some : goal.returns-clause-some
returns-clause-some c = some_reading

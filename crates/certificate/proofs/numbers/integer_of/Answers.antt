use Rattle.certificate.proofs.NumberLaws.{negative_exact}
use Rattle.certificate.proofs.numbers.integer_of.Goals as goal

pub returns-in-Some : goal.returns-in-Some
returns-in-Some c = rw (c.in-Some.ensures, c.negative.ensures) (negative_exact _ _ c.natural_of.ensures)

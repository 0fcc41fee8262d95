use Rattle.certificate.proofs.NumberLaws.{natural_exact}
use Rattle.certificate.proofs.numbers.natural_of.Goals as goal

pub returns : goal.returns
returns c = rw c.canonical.ensures (natural_exact c.args.word.now)

use Rattle.certificate.proofs.PairLaws.{one_pair}
use Rattle.certificate.proofs.laws.one_pair_per_text.Goals as goal

pub returns : goal.returns
returns c = one_pair

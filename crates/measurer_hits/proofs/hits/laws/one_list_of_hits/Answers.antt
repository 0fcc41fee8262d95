use Rattle.measurer_hits.proofs.hits.Rising.{same_members}
use Rattle.measurer_hits.proofs.hits.laws.one_list_of_hits.Goals as goal

pub returns : goal.returns
returns c plan ends run xs ys h g = same_members xs ys h.rise g.rise (λ n m. (g.exact n).1 ((h.exact n).0 m)) (λ n m. (h.exact n).1 ((g.exact n).0 m))

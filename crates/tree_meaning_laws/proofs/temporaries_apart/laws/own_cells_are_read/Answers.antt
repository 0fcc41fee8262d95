use Rattle.std.proofs.Common.{ap}
use Rattle.cfa.specs.Values.{Valued}
use Rattle.tree_meaning_laws.proofs.temporaries_apart.Reading.{reads}
use Rattle.tree_meaning_laws.proofs.temporaries_apart.laws.own_cells_are_read.Goals as goal

pub returns : goal.returns
returns c = λ n frame xs ys end e fits meets below has own outer. ap (λ (v : Valued). v.value) (reads n frame xs ys end has own e (record { fits = fits; meets = meets; below = below; outer = outer }))

use Rattle.suite_reduction.proofs.Irredundant as laws
use Rattle.suite_reduction.proofs.laws.kept_hit_all.Goals as goal

pub returns : goal.returns
returns c = laws.kept_hit_all

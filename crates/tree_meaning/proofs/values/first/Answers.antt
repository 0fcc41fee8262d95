use Rattle.tree_meaning.proofs.ValueSteps.{fit_load}
use Rattle.tree_meaning.proofs.values.first.Goals as goal

pub push-requires : goal.push-requires
push-requires c = fit_load c.args.tree c.requires c.deref.result c.in-Load.place c.in-Load.is c.deref.ensures

use Rattle.std.proofs.Common.{refl}
use Rattle.std.proofs.lemmas.List.{nil_from_length}
use Rattle.std.proofs.lemmas.Option.{MatchOption-at_none}
use Rattle.tree_meaning.proofs.ValueSteps.{firsts_none}
use Rattle.tree_meaning.proofs.values.firsts.Goals as goal

pub returns-in-None : goal.returns-in-None
returns-in-None c = firsts_none c.args.tasks.now c.args.tasks.now c.args.machine.now c.args.list (nil_from_length c.args.list.now (MatchOption-at_none _ _ c.in-None.is c.split_first.ensures.cases)) _ refl

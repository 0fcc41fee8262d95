use Rattle.unwinder_reach.proofs.reached.KeySets.{number_tells}
use Rattle.unwinder_reach.proofs.reached.keys.Keys.number_of.Goals as goal

pub returns : goal.returns
returns c = number_tells c.args.key.now c.self.inside.set.keys c.args.self.now c.get_index_of.result c.self.view_is c.get_index_of.ensures.index c.get_index_of.ensures.found

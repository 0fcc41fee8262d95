use Rattle.tree_meaning.specs.Activations.{cleared}
use Rattle.tree_meaning.proofs.Clears.{clear_more}
use Rattle.tree_meaning.proofs.store.Store.clear.Goals as goal

pub loop-i-preserved : goal.loop-i-preserved
loop-i-preserved c = clear_more (cleared c.args.self.now c.args.first c.args.count) c.loop-i.self c.put.new.self c.args.first c.loop-i.i c.args.count c.loop-i-test.true c.loop-i.invariant c.put.ensures

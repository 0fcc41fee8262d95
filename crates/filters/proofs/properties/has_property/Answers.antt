use Rattle.std.proofs.Common.{ap}
use Rattle.fql_read.specs.declared.filter.FilterForm.{out-FilterForm}
use Rattle.filters.proofs.BlocksLaws.{blocks_property}
use Rattle.filters.proofs.properties.has_property.Goals as goal

pub returns-in-BasicBlockEntry : goal.returns-in-BasicBlockEntry
unfolding out-FilterForm denote.Hole.Carrier.out
returns-in-BasicBlockEntry c = blocks_property c.args.graph.now (out-FilterForm c.args.form.now) c.args.begins.now c.args.edge.now c.is_marked.result (ap out-FilterForm c.in-BasicBlockEntry.is) c.requires.blocks c.is_marked.ensures

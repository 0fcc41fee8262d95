use Rattle.fql_read.specs.declared.filter.FilterForm.{out-FilterForm}
use Rattle.filters.specs.Properties.{has_property}
use Rattle.filters.proofs.PartsLaws.{function_is}
use Rattle.filters.proofs.kept.keeping_function.Goals as goal

pub returns-clause-kept : goal.returns-clause-kept
returns-clause-kept c = function_is c.args.graph.now c.args.name.now (has_property c.args.graph.now (out-FilterForm c.args.form.now)) (record { nodes = c.in_ok-nodes.nodes; edges = c.in_ok-edges.edges }) c.args.base.now _ _ c.deref-2.ensures.value c.deref.ensures.value c.in_ok-nodes.ensures.each c.in_ok-edges.ensures.each

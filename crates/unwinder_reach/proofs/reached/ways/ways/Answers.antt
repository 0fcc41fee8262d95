use Rattle.std.proofs.Common.{sym, subst}
use Rattle.std.specs.List.Sorted.{IsStrictlyIncreasing}
use Rattle.unwinder_reach.proofs.reached.Rising.{return_rises}
use Rattle.unwinder_reach.specs.reached.Searching.{running_call}
use Rattle.unwinder_reach.proofs.reached.WayLaws.{exit_from, all_ways}
use Rattle.unwinder_reach.proofs.reached.ways.ways.Goals as goal

pub returns-then-is_exit-clause-rising : goal.returns-then-is_exit-clause-rising
returns-then-is_exit-clause-rising c = subst IsStrictlyIncreasing (sym c.in_ok-back.ensures) (return_rises (running_call c.args.pair.now.context.frames))

pub returns-then-is_exit-clause-all : goal.returns-then-is_exit-clause-all
returns-then-is_exit-clause-all c =
    exit_from c.args.graph.now c.args.pair.now c.node-node.result c.in_ok-back.back.items c.well_formed-2.ensures c.node-node.ensures (c.is_exit.ensures.0 c.if-is_exit.true) c.in_ok-back.ensures

pub returns-clause-all : goal.returns-clause-all
returns-clause-all c = all_ways c.outgoing_edges.ensures c.args.graph.now c.args.pair.now c.node-node.result c.in_ok-outgoing.outgoing.items c.well_formed-2.ensures c.node-node.ensures c.in_ok-outgoing.ensures.all

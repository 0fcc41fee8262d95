use Rattle.std.proofs.Common.{◌≡◌, ◌<◌, length, sym, subst, arith}
use Rattle.cfa.proofs.Eaches.{element_at}
use Rattle.unwinder_reach.proofs.reached.StepLaws.{AreRowsBelow, no_rows, rows_more, rows_all}
use Rattle.unwinder_reach.proofs.reached.steps.rows_of.Goals as goal

pub loop-from-init : goal.loop-from-init
loop-from-init c = (
  c.requires,
  subst (AreRowsBelow c.args.graph.now c.args.bounds.now c.args.places.now.pairs.items 0) (sym c.new-rows.ensures.items) (no_rows c.args.graph.now c.args.bounds.now c.args.places.now.pairs.items),
)

pub steps_of-requires-clause-places : goal.steps_of-requires-clause-places
steps_of-requires-clause-places c = c.loop-from.invariant.0

pub loop-from-preserved : goal.loop-from-preserved
loop-from-preserved c =
    let inside : c.loop-from.from < length c.args.places.now.pairs.items = omega arith in
    let there = element_at c.args.places.now.pairs.items c.loop-from.from inside in (
      c.in_ok-row.ensures.places_after,
      rows_more c.args.graph.now c.args.bounds.now c.args.places.now.pairs.items c.loop-from.from c.loop-from.rows.items c.push.new.self.items there.0 c.in_ok-row.row there.1 c.loop-from.invariant.1 (c.in_ok-row.ensures.steps there.0 there.1)
          c.in_ok-push.ensures.items,
    )

pub returns : goal.returns
returns c =
    let all : c.loop-from.from ≡ length c.args.places.now.pairs.items = omega arith in
    rows_all c.args.graph.now c.args.bounds.now c.args.places.now.pairs.items c.loop-from.from c.loop-from.rows.items all c.loop-from.invariant.1

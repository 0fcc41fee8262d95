use Rattle.std.proofs.Common.{◌+◌, refl}
use Rattle.filters_paths.specs.Paths.{paths_of}
use Rattle.filters_paths.specs.Walking.{ahead, prefix_of}
use Rattle.filters_paths.proofs.ListingLaws.{begun, few_of, one_ahead, told_early, under_way_more}
use Rattle.filters_paths.proofs.listing.paths.Goals as goal

pub loop-init : goal.loop-init
loop-init c = begun c.in_ok-ground.ground c.args.graph.now c.args.target.now c.args.k c.args.edge_limit c.in_ok-walk.walk _ c.in_ok-ground.ensures.tables c.in_ok-ground.ensures.same.0 c.in_ok-ground.ensures.same.1 c.in_ok-ground.ensures.same.2
    c.in_ok-walk.ensures.walk c.in_ok-walk.ensures.first.0 c.in_ok-walk.ensures.first.1 refl c.new-3.ensures

pub loop-preserved : goal.loop-preserved
loop-preserved c =
    let g = c.in_ok-ground.ground in
    let next = one_ahead (ahead g c.loop.walk) (ahead g c.advance.new.self) (prefix_of c.advance.new.self) c.in_ok-advance.field-0 c.in_ok-advance.ensures.next c.if-not-branch.false in
    under_way_more g (paths_of c.args.graph.now c.args.target.now c.args.k) c.args.edge_limit c.loop.counter c.loop.walk c.advance.new.self c.loop.listing c.add.new.self c.loop.invariant c.in_ok-advance.ensures.walk next c.in_ok-add.ensures.paths c.in_ok-add.ensures.room

pub returns-then-branch-2 : goal.returns-then-branch-2
returns-then-branch-2 c =
    let g = c.in_ok-ground.ground in
    let all = paths_of c.args.graph.now c.args.target.now c.args.k in
    let same = c.in_ok-ground.ensures.same in
    let next = one_ahead (ahead g c.loop.walk) (ahead g c.advance.new.self) (prefix_of c.advance.new.self) c.in_ok-advance.field-0 c.in_ok-advance.ensures.next c.if-not-branch.false in
    let under = under_way_more g all c.args.edge_limit c.loop.counter c.loop.walk c.advance.new.self c.loop.listing c.add.new.self c.loop.invariant c.in_ok-advance.ensures.walk next c.in_ok-add.ensures.paths c.in_ok-add.ensures.room in (
      few_of g c.args.graph.now c.args.target.now c.args.k c.args.limit same.0 same.1 same.2 (c.in_ok-are_few.ensures c.if-branch-2.true),
      told_early g all c.args.edge_limit (c.loop.counter + 1) c.advance.new.self c.add.new.self under (c.in_ok-add.ensures.over c.if-branch.true),
    )

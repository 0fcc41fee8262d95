use Rattle.std.proofs.Common.{◌≡◌, ◌+◌, [], sym, ap, ◌∙◌, arith}
use Rattle.std.specs.Prelude.{sum_by}
use Rattle.unwinder_reach.specs.unwinding_size.Capped.{capped}
use Rattle.unwinder_reach.specs.unwinding_size.Sizes.{frame_cells}
use Rattle.unwinder_reach.proofs.unwinding_size.pairs.store_cells.Goals as goal

pub returns : goal.returns
returns c =
    let none : c.loop-frame.total ≡ c.loop-frame.total + sum_by (frame_cells c.args.graph.now c.args.first.now) [] = omega arith in
    sym c.loop-frame.invariant.0 ∙ ap capped none ∙ ap (λ fs. capped (c.loop-frame.total + sum_by (frame_cells c.args.graph.now c.args.first.now) fs)) (sym c.in-None.ensures.steps.0) ∙ c.loop-frame.invariant.1

use Rattle.std.proofs.Common.{◌≡◌, ◌+◌}
use Rattle.std.specs.Prelude.{sum_by}
use Rattle.unwinder_reach.specs.unwinding_size.Capped.{capped}
use Rattle.unwinder_reach.specs.unwinding_size.Sizes.{frame_cells, store_cells}
use Rattle.unwinder_reach.proofs.unwinding_size.pairs.store_cells.Given as goal

abbrev pub invariant-loop-frame : goal.invariant-loop-frame
invariant-loop-frame l = (capped l.total ≡ l.total) × (capped (l.total + sum_by (frame_cells l.graph l.first) l.frame-iterator) ≡ capped (store_cells l.graph l.first l.pair.context))

use Rattle.std.proofs.Common.{take}
use Rattle.filters_paths.specs.Spreading.{AreSpread}
use Rattle.filters_paths.proofs.living.mark_sources.Given as goal

abbrev pub invariant-loop-edge : goal.invariant-loop-edge
invariant-loop-edge l = AreSpread l.graph (take l.edge-index l.row) l.initial.marks.items l.initial.waiting.items l.marks.items l.waiting.items

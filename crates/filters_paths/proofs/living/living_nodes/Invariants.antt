use Rattle.filters.specs.Parts.{part_of}
use Rattle.filters_paths.specs.Spreading.{AreSpreading}
use Rattle.filters_paths.proofs.living.living_nodes.Given as goal

abbrev pub invariant-loop : goal.invariant-loop
invariant-loop l = AreSpreading l.graph (part_of l.target) l.ends l.marks.items l.waiting.items

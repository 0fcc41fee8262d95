use Rattle.std.proofs.Common.{take}
use Rattle.predicates.specs.Reading.{AreTreesOf}
use Rattle.predicates.proofs.reading.trees_of.Given as goal

abbrev pub invariant-loop-text : goal.invariant-loop-text
invariant-loop-text l = AreTreesOf (take l.text-index l.texts) l.trees.items

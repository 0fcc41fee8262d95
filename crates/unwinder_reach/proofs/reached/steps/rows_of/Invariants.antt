use Rattle.unwinder_reach.specs.reached.Placing.{ArePlaces}
use Rattle.unwinder_reach.proofs.reached.StepLaws.{AreRowsBelow}
use Rattle.unwinder_reach.proofs.reached.steps.rows_of.Given as goal

abbrev pub invariant-loop-from : goal.invariant-loop-from
invariant-loop-from l = ArePlaces l.graph l.bounds l.table l.places × AreRowsBelow l.graph l.bounds l.places.pairs.items l.from l.rows.items

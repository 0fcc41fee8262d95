use Rattle.goal_formula.proofs.Rooted.{AreWordRows}
use Rattle.goal_formula.proofs.encoding.word_rows.Given as goal

abbrev pub invariant-loop-kind : goal.invariant-loop-kind
invariant-loop-kind l = AreWordRows l.bits l.parameters l.kind-index l.rows l.from

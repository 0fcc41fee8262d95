use Rattle.goal_formula.proofs.Rooted.{AreAnswerRows}
use Rattle.goal_formula.proofs.encoding.answer_rows.Given as goal

abbrev pub invariant-loop-number : goal.invariant-loop-number
invariant-loop-number l = AreAnswerRows l.bits l.from l.number l.rows

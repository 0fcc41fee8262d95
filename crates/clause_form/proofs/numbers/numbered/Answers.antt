use Rattle.clause_form.proofs.NumberLaws.{one_numbered, none_numbered}
use Rattle.clause_form.proofs.numbers.numbered.Goals as goal
use Rattle.clause_form.proofs.numbers.numbered.Goals.{then-marked+in_ok-push, else-marked+in_ok-push-2}

pub loop-marked-preserved : goal.loop-marked-preserved
loop-marked-preserved c = elim c.if-marked.branch [
  | then-marked+in_ok-push w ↦
      rw (w.variable-is, w.count-is)
      (one_numbered c.args.marks.now c.loop-marked.marked-index c.loop-marked.variable.items w.push.new.self.items c.loop-marked.count c.loop-marked-test.true w.if-marked.true w.in_ok-push.ensures.items c.loop-marked.invariant)
  | else-marked+in_ok-push-2 w ↦
      rw (w.variable-is, w.count-is)
      (none_numbered c.args.marks.now c.loop-marked.marked-index c.loop-marked.variable.items w.push-else-marked.new.self.items c.loop-marked.count c.loop-marked-test.true w.if-marked.false w.in_ok-push-2.ensures.items
      c.loop-marked.invariant)
]

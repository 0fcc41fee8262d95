use Rattle.std.proofs.Common.{arith, not, ap, ◌∙◌}
use Rattle.std.proofs.lemmas.Result.{IfOk-weaker}
use Rattle.bit_words.proofs.Steps.{grows_then, grows_within}
use Rattle.unwinder.proofs.Endings.{any_end, only_returned, returned_counts}
use Rattle.unwinder.proofs.ending.ended.Goals as goal

pub returns-then-step-clause-value : goal.returns-then-step-clause-value
returns-then-step-clause-value c = λ w next tells. returned_counts c.args.circuit.now c.args.step.now c.args.ends w next c.if-step.true tells

pub returns-in-Returned-clause-value : goal.returns-in-Returned-clause-value
returns-in-Returned-clause-value c = λ w next tells. only_returned c.args.circuit.now c.args.step.now c.args.ends w next c.in-Returned.is c.if-step.false tells

pub returns-in_ok-onward-in-Any-clause-grows : goal.returns-in_ok-onward-in-Any-clause-grows
returns-in_ok-onward-in-Any-clause-grows c = grows_within 3 (grows_then c.some_way.ensures.grows c.inverse.ensures.grows) (omega arith)

pub returns-in_ok-onward-in-Any-clause-value : goal.returns-in_ok-onward-in-Any-clause-value
returns-in_ok-onward-in-Any-clause-value c =
    IfOk-weaker c.inverse.result _ _ (λ l is w next tells.
    is w ∙ ap not (c.in_ok-onward-in-Any.ensures.value w) ∙ any_end c.args.circuit.now c.args.step.now c.deref.result.now c.args.ends w next c.deref.ensures c.in-Any.is c.if-step.false tells) c.inverse.ensures.value

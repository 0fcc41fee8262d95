use Rattle.std.proofs.Common.{◌∙◌, arith}
use Rattle.std.proofs.lemmas.List.{take_all}
use Rattle.sym_expr.proofs.sym_steps.StartLemmas.{constants_none, constants_more}
use Rattle.sym_expr.proofs.sym_steps.starting.constants.Goals as goal

pub loop-value-init : goal.loop-value-init
loop-value-init c = rw c.new-words.ensures (constants_none c.args.values.now)

pub loop-value-preserved : goal.loop-value-preserved
loop-value-preserved c = rw c.in_ok-push.ensures.ok (constants_more c.constant.result c.loop-value.invariant (omega arith) c.constant.ensures.wires c.constant.ensures.value)

pub returns-clause-cells : goal.returns-clause-cells
returns-clause-cells c = λ gates w. c.loop-value.invariant.cells gates w ∙ take_all c.loop-value.value-index c.args.values.now (omega arith)

use Rattle.std.proofs.Common.{◌∙◌, sym}
use Rattle.std.proofs.lemmas.Result.{err_from_is_err_and}
use Rattle.c_lower.proofs.RowLaws.{elements_go_on, elements_stop, elements_end}
use Rattle.c_lower.proofs.rows.elements.Goals as goal

pub loop-i-preserved : goal.loop-i-preserved
loop-i-preserved c =
    c.loop-i.invariant ∙ elements_go_on c.args.variable.now c.args.around.now c.args.z c.args.list.now c.loop-i.i c.index-list-i.result c.loop-i.here c.in_ok-to.to c.loop-i.parts c.next_node.new.parts c.loop-i-test.true c.index-list-i.is c.in_ok-to.ensures.next c.element.new.parts c.in_ok-element.ensures.made

pub returns-clause-made : goal.returns-clause-made
returns-clause-made c = sym (c.loop-i.invariant ∙ elements_end c.args.variable.now c.args.around.now c.args.z c.args.list.now c.loop-i.i c.loop-i.here c.loop-i.parts c.loop-i-test.false)

pub returns-in_err-element-clause-err : goal.returns-in_err-element-clause-err
returns-in_err-element-clause-err c =
    let p = err_from_is_err_and c.from_residual-in_err-element.result c.from_residual-in_err-element.ensures.1 in
    rw (p.1, p.2) (elements_stop c.args.variable.now c.args.around.now c.args.z c.args.list.now c.loop-i.i c.index-list-i.result c.loop-i.here c.in_ok-to.to c.loop-i.parts c.next_node.new.parts c.loop-i-test.true c.index-list-i.is c.in_ok-to.ensures.next
    _ c.in_err-element.field-0.0 c.loop-i.invariant c.in_err-element.ensures.err)

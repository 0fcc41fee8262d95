use Rattle.std.proofs.Common.{get_or}
use Rattle.std.proofs.lemmas.Result.{err_from_is_err_and}
use Rattle.c_lower.proofs.LabelLaws.{no_label, labels_go_on, labels_stop, labels_end}
use Rattle.c_lower.proofs.Lists.{get_any}
use Rattle.c_lower.proofs.labels.cases_row.Goals as goal

pub loop-i-preserved : goal.loop-i-preserved
loop-i-preserved c =
    let l = get_or c.args.cases.now c.loop-i.i no_label in
    labels_go_on c.args.around.now c.args.cell c.args.kind c.args.other c.args.cases.now c.loop-i.i l c.loop-i.here c.in_ok-to.to c.in_ok-to.last c.loop-i.parts c.next_label.new.parts c.loop-i-test.true (get_any c.args.cases.now c.loop-i.i no_label l c.loop-i-test.true)
    c.in_ok-to.ensures.next _ c.label_guards.new.parts c.in_ok-label_guards.ensures.made c.loop-i.invariant

pub returns-clause-made : goal.returns-clause-made
returns-clause-made c = labels_end c.args.around.now c.args.cell c.args.kind c.args.other c.args.cases.now c.loop-i.i c.loop-i.here c.loop-i.parts _ c.loop-i-test.false c.loop-i.invariant

pub returns-in_err-label_guards-clause-err : goal.returns-in_err-label_guards-clause-err
returns-in_err-label_guards-clause-err c =
    let p = err_from_is_err_and c.from_residual-in_err-label_guards.result c.from_residual-in_err-label_guards.ensures.1 in
    let l = get_or c.args.cases.now c.loop-i.i no_label in
    rw (p.1, p.2)
    (labels_stop c.args.around.now c.args.cell c.args.kind c.args.other c.args.cases.now c.loop-i.i l c.loop-i.here c.in_ok-to.to c.in_ok-to.last c.loop-i.parts c.next_label.new.parts c.loop-i-test.true (get_any c.args.cases.now c.loop-i.i no_label l c.loop-i-test.true)
    c.in_ok-to.ensures.next _ c.in_err-label_guards.field-0.0 c.loop-i.invariant c.in_err-label_guards.ensures.err)

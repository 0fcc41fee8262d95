use Rattle.std.proofs.Common.{◌≡◌, ◌+◌, ◌∙◌, map, sym, ap, subst}
use Rattle.std.specs.Prelude.{OnOk, IfErr}
use Rattle.std.proofs.lemmas.Result.{err_from_is_err_and}
use Rattle.c_lower_rules.specs.graph_of.Builder.{after}
use Rattle.c_lower_rules.specs.graph_of.Statements.{block_row}
use Rattle.c_lower_rules.specs.graph_of.Switch.{cases_row}
use Rattle.c_lower_rules.specs.graph_of.Table.{piece}
use Rattle.c_lower.specs.Cases.{case_of}
use Rattle.c_lower.specs.Stopping.{IsStop}
use Rattle.c_lower.specs.declared.stop.Stop.TheVariants.{Memory}
use Rattle.c_lower.proofs.BlockLaws.{block_goes_on, block_stops, block_ends, arms_go_on, arms_stop, without_else}
use Rattle.c_lower.proofs.SwitchLaws.{value_stops, cases_stop, switch_is, groups_go_on, groups_stop, groups_end}
use Rattle.c_lower.proofs.statements.+statement.Goals as goal

pub block-loop-i-preserved : goal.block-loop-i-preserved
block-loop-i-preserved t c =
    c.loop-i.invariant
    ∙ block_goes_on c.loop-i.now c.in_ok-inner-2.inner c.args.z c.args.list.now c.loop-i.i c.index-list-i.result c.loop-i.here c.in_ok-inner-2.to c.loop-i.parts c.next_in_block.new.parts c.loop-i-test.true c.index-list-i.is c.in_ok-inner-2.ensures.next
    c.statement.new.parts c.in_ok-statement.ensures.made

pub block-returns-clause-made : goal.block-returns-clause-made
block-returns-clause-made t c = sym (c.loop-i.invariant ∙ block_ends c.loop-i.now c.args.z c.args.list.now c.loop-i.i c.loop-i.here c.loop-i.parts c.loop-i-test.false)

pub block-returns-in_err-statement-clause-err : goal.block-returns-in_err-statement-clause-err
block-returns-in_err-statement-clause-err t c =
    let p = err_from_is_err_and c.from_residual-in_err-statement.result c.from_residual-in_err-statement.ensures.1 in
    rw (p.1, p.2)
    (block_stops c.loop-i.now c.in_ok-inner-2.inner c.args.z c.args.list.now c.loop-i.i c.index-list-i.result c.loop-i.here c.in_ok-inner-2.to c.loop-i.parts c.next_in_block.new.parts c.loop-i-test.true c.index-list-i.is c.in_ok-inner-2.ensures.next
    _ c.in_err-statement.field-0.0 c.loop-i.invariant c.in_err-statement.ensures.err)

pub branches-loop-i-preserved : goal.branches-loop-i-preserved
branches-loop-i-preserved t c =
    c.loop-i.invariant
    ∙ arms_go_on c.args.around.now c.args.z c.args.arms.now c.args.otherwise.now c.loop-i.i c.index-arms-i.result c.loop-i.here c.in_ok-t.t c.in_ok-f.f c.loop-i.parts c.new_node.new.parts c.else_node.new.parts c.loop-i-test.true c.index-arms-i.is
    c.in_ok-t.ensures.number c.in_ok-t.ensures.made c.in_ok-f.ensures.next c.arm_of.new.parts c.in_ok-arm_of.ensures.made

pub branches-returns-in_err-arm_of-clause-err : goal.branches-returns-in_err-arm_of-clause-err
branches-returns-in_err-arm_of-clause-err t c =
    let p = err_from_is_err_and c.from_residual-in_err-arm_of.result c.from_residual-in_err-arm_of.ensures.1 in
    rw (p.1, p.2)
    (arms_stop c.args.around.now c.args.z c.args.arms.now c.args.otherwise.now c.loop-i.i c.index-arms-i.result c.loop-i.here c.in_ok-t.t c.in_ok-f.f c.loop-i.parts c.new_node.new.parts c.else_node.new.parts c.loop-i-test.true c.index-arms-i.is
    c.in_ok-t.ensures.number c.in_ok-t.ensures.made c.in_ok-f.ensures.next _ c.in_err-arm_of.field-0.0 c.loop-i.invariant c.in_err-arm_of.ensures.err)

pub branches-returns-in-None-clause-made : goal.branches-returns-in-None-clause-made
branches-returns-in-None-clause-made t c = without_else c.args.around.now c.args.z c.args.arms.now c.args.otherwise.now c.loop-i.i c.loop-i.here c.loop-i.parts _ c.loop-i-test.false c.loop-i.invariant c.in-None.is

pub groups_row-loop-i-preserved : goal.groups_row-loop-i-preserved
groups_row-loop-i-preserved t c =
    groups_go_on c.args.around.now c.args.z c.args.g c.args.groups.now c.loop-i.i c.index-groups-i.result c.group_end-to.result c.loop-i.parts c.loop-i-test.true c.index-groups-i.is c.group_end-to.ensures _ c.block.new.parts
    (c.in_ok-block.ensures.made ∙ ap (λ body. after (block_row (map piece body) c.args.around.now (c.args.g + c.loop-i.i) c.group_end-to.result) c.loop-i.parts) c.deref.ensures) c.loop-i.invariant

pub groups_row-returns-clause-made : goal.groups_row-returns-clause-made
groups_row-returns-clause-made t c = groups_end c.args.around.now c.args.z c.args.g c.args.groups.now c.loop-i.i c.loop-i.parts _ c.loop-i-test.false c.loop-i.invariant

pub groups_row-returns-in_err-block-clause-err : goal.groups_row-returns-in_err-block-clause-err
groups_row-returns-in_err-block-clause-err t c =
    let p = err_from_is_err_and c.from_residual.result c.from_residual.ensures.1 in
    rw (p.1, p.2)
    (groups_stop c.args.around.now c.args.z c.args.g c.args.groups.now c.loop-i.i c.index-groups-i.result c.group_end-to.result c.loop-i.parts c.loop-i-test.true c.index-groups-i.is c.group_end-to.ensures _ c.in_err-block.field-0.0 c.loop-i.invariant
    (subst (λ body. IsStop c.in_err-block.field-0.0 (after (block_row (map piece body) c.args.around.now (c.args.g + c.loop-i.i) c.group_end-to.result) c.loop-i.parts)) c.deref.ensures c.in_err-block.ensures.err))

pub switch-returns-in_err-part-clause-err : goal.switch-returns-in_err-part-clause-err
switch-returns-in_err-part-clause-err t c =
    let p = err_from_is_err_and c.from_residual-in_err-part.result c.from_residual-in_err-part.ensures.1 in
    rw (p.1, p.2)
    (value_stops c.args.tree.now c.args.cell c.args.groups.now c.args.around.now c.args.a c.args.z c.args.parts.now c.in_ok-c.c c.group_nodes.new.parts c.new_node.new.parts c.in_err-part.field-0.0 c.in_ok-g.ensures.made c.in_ok-c.ensures.made c.in_ok-c.ensures.number
    c.in_err-part.ensures.err)

pub switch-returns-in_err-cases_row-clause-err : goal.switch-returns-in_err-cases_row-clause-err
switch-returns-in_err-cases_row-clause-err t c =
    let p = err_from_is_err_and c.from_residual-in_err-cases_row.result c.from_residual-in_err-cases_row.ensures.1 in
    rw (p.1, p.2)
    (cases_stop c.args.tree.now c.args.cell c.args.groups.now c.args.around.now c.args.a c.args.z c.args.parts.now c.in_ok-c.c c.group_nodes.new.parts c.new_node.new.parts c.in_err-cases_row.field-0.0 c.in_ok-g.ensures.made c.in_ok-c.ensures.made c.in_ok-c.ensures.number
    c.part.new.parts c.in_ok-cases.cases c.default_from-other.result c.in_ok-g.g c.in_ok-part.ensures.made c.in_ok-g.ensures.number c.in_ok-cases.ensures c.default_from-other.ensures
    (subst (λ cases. IsStop c.in_err-cases_row.field-0.0 (after (cases_row c.args.around.now c.args.cell c.args.tree.now.kind (map case_of cases) c.default_from-other.result c.in_ok-c.c) c.part.new.parts)) c.deref.ensures c.in_err-cases_row.ensures.err))

pub switch-returns-clause-made : goal.switch-returns-clause-made
switch-returns-clause-made t c =
    subst (λ k. OnOk c.groups_row.result (c.groups_row.new.parts ≡ k))
    (switch_is c.args.tree.now c.args.cell c.args.groups.now c.args.around.now c.args.a c.args.z c.args.parts.now c.in_ok-c.c c.group_nodes.new.parts c.new_node.new.parts Memory c.in_ok-g.ensures.made c.in_ok-c.ensures.made c.in_ok-c.ensures.number
    c.part.new.parts c.cases_row.new.parts c.in_ok-cases.cases c.deref.result.now c.default_from-other.result c.in_ok-g.g c.in_ok-inner.inner c.in_ok-part.ensures.made c.in_ok-g.ensures.number c.in_ok-cases.ensures c.deref.ensures c.default_from-other.ensures
    c.in_ok-cases_row.ensures.made c.in_ok-inner.ensures)
    c.groups_row.ensures.made

pub switch-returns-clause-err : goal.switch-returns-clause-err
switch-returns-clause-err t c =
    subst (λ k. IfErr c.groups_row.result (λ stop. IsStop stop k))
    (switch_is c.args.tree.now c.args.cell c.args.groups.now c.args.around.now c.args.a c.args.z c.args.parts.now c.in_ok-c.c c.group_nodes.new.parts c.new_node.new.parts Memory c.in_ok-g.ensures.made c.in_ok-c.ensures.made c.in_ok-c.ensures.number
    c.part.new.parts c.cases_row.new.parts c.in_ok-cases.cases c.deref.result.now c.default_from-other.result c.in_ok-g.g c.in_ok-inner.inner c.in_ok-part.ensures.made c.in_ok-g.ensures.number c.in_ok-cases.ensures c.deref.ensures c.default_from-other.ensures
    c.in_ok-cases_row.ensures.made c.in_ok-inner.ensures)
    c.groups_row.ensures.err

use Rattle.std.proofs.Common.{◌≡◌, ap, ◌∙◌}
use Rattle.c_types.specs.Functions.{body_rule, frame_state, left_frame, unframed}
use Rattle.c_types.proofs.FunctionLaws.{walks_made, walks_after}
use Rattle.c_types.proofs.functions.framed.Goals as goal

pub returns-clause-made : goal.returns-clause-made
returns-clause-made c =
    let behind : c.leave_frame.new.typer ≡ unframed c.args.typer.now c.limit.new.typer =
    c.leave_frame.ensures ∙ (λ i. left_frame (c.set_aside-outer.ensures.labels i) (c.set_aside-outer.ensures.cases i) c.args.typer.now.local c.args.typer.now.temporary c.limit.new.typer) in
    walks_made c.args.span c.args.parameters.now.cells (body_rule c.args.kind c.args.parameters.now c.args.tree.now) c.args.typer.now c.set_aside-outer.new.typer c.enter_frame.new.typer c.body.new.typer c.enter_frame-2.new.typer c.body-2.new.typer c.limit.new.typer c.leave_frame.new.typer c.len-mark.result c.leave.new.self c.in_ok-list.list
    (ap (frame_state c.args.parameters.now.cells 0) c.set_aside-outer.ensures.state)
    c.enter_frame.ensures c.in_ok-_draft.ensures.state c.len-mark.ensures c.leave.ensures c.enter_frame-2.ensures c.in_ok-list.ensures.state c.in_ok-list.ensures.made c.limit.ensures behind

pub returns-clause-state : goal.returns-clause-state
returns-clause-state c =
    let behind : c.leave_frame.new.typer ≡ unframed c.args.typer.now c.limit.new.typer =
    c.leave_frame.ensures ∙ (λ i. left_frame (c.set_aside-outer.ensures.labels i) (c.set_aside-outer.ensures.cases i) c.args.typer.now.local c.args.typer.now.temporary c.limit.new.typer) in
    walks_after c.args.span c.args.parameters.now.cells (body_rule c.args.kind c.args.parameters.now c.args.tree.now) c.args.typer.now c.set_aside-outer.new.typer c.enter_frame.new.typer c.body.new.typer c.enter_frame-2.new.typer c.body-2.new.typer c.limit.new.typer c.leave_frame.new.typer c.len-mark.result c.leave.new.self c.in_ok-list.list
    (ap (frame_state c.args.parameters.now.cells 0) c.set_aside-outer.ensures.state)
    c.enter_frame.ensures c.in_ok-_draft.ensures.state c.len-mark.ensures c.leave.ensures c.enter_frame-2.ensures c.in_ok-list.ensures.state c.in_ok-list.ensures.made c.limit.ensures behind

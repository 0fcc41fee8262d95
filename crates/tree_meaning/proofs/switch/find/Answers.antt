use Rattle.tree_meaning.proofs.StatementSteps.{on_ok}
use Rattle.tree_meaning.proofs.SwitchSteps.{find_step, rest_is, rest_fits}
use Rattle.std.proofs.Common.{refl}
use Rattle.tree_meaning.proofs.switch.find.Goals as goal

pub push-requires-2 : goal.push-requires-2
push-requires-2 c = rest_fits c.args.groups.now c.group_at-at.result c.requires

pub returns : goal.returns
returns c =
    on_ok c.push-2.result c.push-2.ensures
    (λ h. find_step c.args.tasks.now c.push-2.new.self c.args.machine.now c.args.groups _ c.group_at-at.result c.push.new.self _ c.group_at-at.ensures.at (rest_is c.args.groups.now c.group_at-at.result) h
    c.in_ok-push.ensures refl)

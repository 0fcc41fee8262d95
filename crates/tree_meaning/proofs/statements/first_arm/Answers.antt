use Rattle.std.proofs.Common.{[]}
use Rattle.std.proofs.lemmas.List.{nil_from_length}
use Rattle.tree_meaning.proofs.StatementSteps.{arms_none, arms_last, on_ok}
use Rattle.tree_meaning.proofs.statements.first_arm.Goals as goal

pub returns-in-None-otherwise : goal.returns-in-None-otherwise
returns-in-None-otherwise c = arms_none c.args.tasks.now [] c.args.machine.now c.args.list c.args.otherwise _ (nil_from_length c.args.list.now c.in-None.ensures.cases) c.in-None-otherwise.is c.leave_off.ensures

pub returns-in-Some-otherwise : goal.returns-in-Some-otherwise
returns-in-Some-otherwise c =
    on_ok c.push.result c.push.ensures
    (arms_last c.args.tasks.now c.push.new.self c.args.machine.now c.args.list c.args.otherwise c.deref.result c.in-Some-otherwise.last (nil_from_length c.args.list.now c.in-None.ensures.cases) c.in-Some-otherwise.is c.deref.ensures)

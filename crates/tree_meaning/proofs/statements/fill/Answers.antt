use Rattle.std.proofs.Common.{[]}
use Rattle.std.proofs.lemmas.List.{nil_from_length}
use Rattle.tree_meaning.proofs.StatementSteps.{fill_none}
use Rattle.tree_meaning.proofs.statements.fill.Goals as goal

pub returns-in-None : goal.returns-in-None
returns-in-None c = fill_none c.args.tasks.now [] c.args.machine.now c.args.cell c.args.list _ (nil_from_length c.args.list.now c.in-None.ensures.cases) c.leave_off.ensures

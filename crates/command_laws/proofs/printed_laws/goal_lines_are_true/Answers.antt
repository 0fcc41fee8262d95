use Rattle.command_laws.proofs.printed_laws.Goals.{goal_lines_are_true}
use Rattle.command_laws.proofs.printed_laws.goal_lines_are_true.Goals as goal

pub returns : goal.returns
returns c = goal_lines_are_true

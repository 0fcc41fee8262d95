use Rattle.command_laws.proofs.printed_laws.Bounds.{bounds_lines_are_true}
use Rattle.command_laws.proofs.printed_laws.bounds_lines_are_true.Goals as goal

pub returns : goal.returns
returns c = bounds_lines_are_true

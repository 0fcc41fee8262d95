use Rattle.command_laws.proofs.due_laws.PrintedLines.{printed_lines_are_read}
use Rattle.command_laws.proofs.due_laws.laws.printed_lines_are_read.Goals as goal

pub returns : goal.returns
returns c = printed_lines_are_read

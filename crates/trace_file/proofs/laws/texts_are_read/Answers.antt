use Rattle.trace_file.proofs.TextLaws.{texts_read}
use Rattle.trace_file.proofs.laws.texts_are_read.Goals as goal

pub returns : goal.returns
returns c = texts_read

use Rattle.std.proofs.Common.{append_assoc}
use Rattle.sample.proofs.texts.push_function.Goals as goal

pub returns : goal.returns
returns c = simp append_assoc c.in_ok-write.ensures.bytes

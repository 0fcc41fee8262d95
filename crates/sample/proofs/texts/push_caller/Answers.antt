use Rattle.sample.proofs.Ranges.{joined}
use Rattle.sample.proofs.texts.push_caller.Goals as goal

pub returns : goal.returns
returns c = joined _ _ _ _ _ _ _ c.in_ok-push_str.ensures.bytes c.in_ok-push_calls.ensures c.in_ok-push_str-2.ensures.bytes

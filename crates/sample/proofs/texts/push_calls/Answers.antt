use Rattle.sample.proofs.Ranges.{next}
use Rattle.sample.specs.Sample.{call_text}
use Rattle.sample.proofs.texts.push_calls.Goals as goal

pub loop-place-preserved : goal.loop-place-preserved
loop-place-preserved c = next call_text c.loop-place.place _ _ _ c.loop-place.invariant c.in_ok-write.ensures.bytes

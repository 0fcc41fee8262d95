use Rattle.sample.proofs.Ranges.{next}
use Rattle.sample.specs.Sample.{function_line}
use Rattle.sample.proofs.texts.push_functions.Goals as goal

pub loop-place-preserved : goal.loop-place-preserved
loop-place-preserved c = next function_line c.loop-place.place _ _ _ c.loop-place.invariant c.in_ok-push_function.ensures

use Rattle.std.proofs.Common.{ℕ, ◌<◌}
use Rattle.std.specs.Prelude.{slice_index}
use Rattle.measurer_index.specs.word_index.Tests.{AreBitsOf}
use Rattle.measurer_index.proofs.word_index.possible.set_somewhere.Given as goal

abbrev pub invariant-loop-mask : goal.invariant-loop-mask
invariant-loop-mask l = (at : ℕ) → at < l.mask-index → AreBitsOf (slice_index l.masks at) l.somewhere

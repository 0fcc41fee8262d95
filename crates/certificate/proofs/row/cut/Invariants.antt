use Rattle.std.proofs.Common.{◌≡◌, false, take}
use Rattle.certificate.specs.Numbers.{has_byte}
use Rattle.certificate.proofs.row.cut.Given as goal

abbrev pub invariant-loop-at : goal.invariant-loop-at
invariant-loop-at l = has_byte l.mark (take l.at l.text) ≡ false

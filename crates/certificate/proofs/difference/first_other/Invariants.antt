use Rattle.std.proofs.Common.{◌≡◌, ◌≤◌, length, take}
use Rattle.certificate.proofs.difference.first_other.Given as goal

abbrev pub invariant-loop-at : goal.invariant-loop-at
invariant-loop-at l = record {
  same : take l.at l.theirs ≡ take l.at l.ours;
  within : l.at ≤ length l.ours;
}

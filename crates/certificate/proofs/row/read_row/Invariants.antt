use Rattle.std.proofs.Common.{◌≡◌, ◌++◌, length}
use Rattle.certificate.specs.Numbers.{AreSmall, numbers_text}
use Rattle.certificate.proofs.row.read_row.Given as goal

abbrev pub invariant-loop-word : goal.invariant-loop-word
invariant-loop-word l = record {
  small : AreSmall l.numbers.items;
  text : l.line ≡ numbers_text l.numbers.items ++ l.rest;
}

abbrev pub decreases-loop-word : goal.decreases-loop-word
decreases-loop-word l = length l.rest

use Rattle.std.proofs.Common.{◌≡◌, ◌↔◌, drop, take}
use Rattle.certificate.specs.Certificates.{RisesWithin}
use Rattle.certificate.proofs.clause_row.read_literals.Given as goal

abbrev pub invariant-loop-number : goal.invariant-loop-number
invariant-loop-number l = record {
  rises : RisesWithin l.variables l.low (drop l.number-index l.numbers) ↔ RisesWithin l.variables 0 l.numbers;
  same : l.literals.items ≡ take l.number-index l.numbers;
}

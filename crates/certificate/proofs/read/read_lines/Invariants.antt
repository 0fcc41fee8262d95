use Rattle.certificate.specs.Reading.{IsLines}
use Rattle.certificate.proofs.read.read_lines.Given as goal

abbrev pub invariant-loop-at : goal.invariant-loop-at
invariant-loop-at l = IsLines l.variables l.text l.at l.lines l.rest

use Rattle.certificate.specs.Reading.{IsClauses}
use Rattle.certificate.proofs.read.read_clauses.Given as goal

abbrev pub invariant-loop-at : goal.invariant-loop-at
invariant-loop-at l = IsClauses l.variables l.text l.at l.clauses l.rest

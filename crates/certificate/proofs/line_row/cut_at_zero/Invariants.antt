use Rattle.std.proofs.Common.{◌≡◌, false, take, pos}
use Rattle.cnf.specs.Clauses.{has_literal}
use Rattle.certificate.proofs.line_row.cut_at_zero.Given as goal

abbrev pub invariant-loop-at : goal.invariant-loop-at
invariant-loop-at l = has_literal (take l.at l.numbers) (pos 0) ≡ false

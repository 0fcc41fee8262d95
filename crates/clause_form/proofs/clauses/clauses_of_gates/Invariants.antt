use Rattle.std.proofs.Common.{◌≡◌}
use Rattle.std.specs.List.{flat_map, range_with_len}
use Rattle.clause_form.specs.Encoding.{wire_clauses}
use Rattle.clause_form.proofs.clauses.clauses_of_gates.Given as goal

abbrev pub invariant-loop-place : goal.invariant-loop-place
invariant-loop-place l = l.clauses ≡ flat_map (wire_clauses l.circuit l.variable) (range_with_len 1 l.place)

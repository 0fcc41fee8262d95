use Rattle.std.proofs.Common.{◌≡◌, ◌++◌, drop, map}
use Rattle.cnf.specs.Dimacs.{text_of_lines, clause_text}
use Rattle.cnf.proofs.dimacs_text.push_dimacs.Given as goal

abbrev pub invariant-loop-clause : goal.invariant-loop-clause
invariant-loop-clause l =
    l.text.items ++ text_of_lines (map clause_text (drop l.clause-index l.clause-items))
    ≡ l.initial.text.items ++ text_of_lines (map clause_text l.clause-items)

use Rattle.std.proofs.Common.{◌≡◌, ◌++◌, drop}
use Rattle.cnf.specs.Dimacs.{clause_text}
use Rattle.cnf.proofs.dimacs_text.push_clause.Given as goal

abbrev pub invariant-loop-literal : goal.invariant-loop-literal
invariant-loop-literal l =
    l.text.items ++ clause_text (drop l.literal-index l.literal-items) ≡ l.initial.text.items ++ clause_text l.literal-items

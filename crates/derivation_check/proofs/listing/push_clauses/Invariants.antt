use Rattle.std.proofs.Common.{◌≡◌, ◌++◌, take}
use Rattle.std.specs.Prelude.{All}
use Rattle.std.specs.List.{flat_map}
use Rattle.cnf.specs.Clauses.{IsLiteral}
use Rattle.derivation_check.proofs.listing.push_clauses.Given as goal

abbrev pub invariant-loop-clause : goal.invariant-loop-clause
invariant-loop-clause l = record {
  items : l.literals.items ≡ l.initial.literals.items ++ flat_map (λ clause. clause) (take l.clause-index l.clauses);
  literals : All IsLiteral l.literals.items;
}

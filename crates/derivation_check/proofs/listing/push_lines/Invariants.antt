use Rattle.std.proofs.Common.{◌≡◌, ◌++◌, take}
use Rattle.std.specs.Prelude.{All}
use Rattle.std.specs.List.{flat_map}
use Rattle.cnf.specs.Clauses.{IsLiteral}
use Rattle.derivation_check.proofs.listing.push_lines.Given as goal

abbrev pub invariant-loop-line : goal.invariant-loop-line
invariant-loop-line l = record {
  items : l.literals.items ≡ l.initial.literals.items ++ flat_map (λ line. line.clause) (take l.line-index l.lines);
  literals : All IsLiteral l.literals.items;
}

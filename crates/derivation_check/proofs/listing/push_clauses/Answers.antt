use Rattle.std.proofs.Common.{List}
use Rattle.std.specs.Prelude.{ℤ}
use Rattle.std.proofs.lemmas.List.Elements.{All-append}
use Rattle.cnf.specs.Clauses.{IsLiteral}
use Rattle.cnf.proofs.ClauseLaws.{literals_of_clause}
use Rattle.derivation_check.proofs.PlacesLaws.{one_more}
use Rattle.derivation_check.proofs.listing.push_clauses.Goals as goal

pub loop-clause-preserved : goal.loop-clause-preserved
loop-clause-preserved c =
    let more = one_more (λ (clause : List ℤ). clause) _ _ _ _ _ c.loop-clause-test.true c.clause-item.is c.loop-clause.invariant.items in
    record {
      items = rw (c.in_ok-extend_from_slice.ensures.items, c.literals.ensures.value) more;
      literals = rw c.in_ok-extend_from_slice.ensures.items (All-append IsLiteral _ _ c.loop-clause.invariant.literals (literals_of_clause 0 _ c.literals.ensures.clause));
    }

use Rattle.std.proofs.Common.{List}
use Rattle.cnf.specs.declared.derivation.DerivationLine.{DerivationLine}
use Rattle.std.proofs.lemmas.List.Elements.{All-append}
use Rattle.cnf.specs.Clauses.{IsLiteral}
use Rattle.cnf.proofs.ClauseLaws.{literals_of_clause}
use Rattle.derivation_check.proofs.PlacesLaws.{one_more}
use Rattle.derivation_check.proofs.listing.push_lines.Goals as goal

pub loop-line-preserved : goal.loop-line-preserved
loop-line-preserved c =
    let more = one_more (λ (line : DerivationLine). line.clause) _ _ _ _ _ c.loop-line-test.true c.line-item.is c.loop-line.invariant.items in
    record {
      items = rw (c.in_ok-extend_from_slice.ensures.items, c.literals.ensures.value) more;
      literals = rw c.in_ok-extend_from_slice.ensures.items (All-append IsLiteral _ _ c.loop-line.invariant.literals (literals_of_clause 0 _ c.literals.ensures.clause));
    }

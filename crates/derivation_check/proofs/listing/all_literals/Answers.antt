use Rattle.std.proofs.Common.{◌≡◌, List, ◌++◌, ◌∙◌, refl}
use Rattle.std.specs.Prelude.{ℤ}
use Rattle.std.specs.List.{flat_map}
use Rattle.cnf.specs.declared.derivation.DerivationLine.{DerivationLine}
use Rattle.derivation_check.proofs.PlacesLaws.{all_have_places}
use Rattle.derivation_check.proofs.listing.all_literals.Goals as goal

pub returns : goal.returns
returns c =
    let clauses : c.push_clauses.new.literals.items ≡ flat_map (λ (clause : List ℤ). clause) c.args.formula.now.clauses =
    c.in_ok-push_clauses.ensures.items ∙ rw (c.new-literals.ensures.items, c.deref.ensures) refl in
    let lines : c.push_lines.new.literals.items ≡ flat_map (λ (clause : List ℤ). clause) c.args.formula.now.clauses ++ flat_map (λ (line : DerivationLine). line.clause) c.args.derivation.now.lines =
    c.in_ok-push_lines.ensures.items ∙ rw (clauses, c.deref-2.ensures) refl in
    all_have_places c.args.formula.now c.args.derivation.now _ _ (c.deref-3.ensures.value ∙ lines) c.in_ok-all.ensures.literals

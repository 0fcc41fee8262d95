use Rattle.std.proofs.Common.{◌≡◌, ◌∙◌, sym, neg_ℤ, Some}
use mathlib.Core.Path.{subst}
use Rattle.std.proofs.lemmas.Int.{to_z-of_z}
use Rattle.cnf.proofs.literal_marks.PlacesLaws.{literal_fits}
use Rattle.cnf.specs.literal_marks.Marks.{marked}
use Rattle.cnf.specs.declared.literal_marks.places.Places.TheVariants.{ByKey}
use Rattle.search.specs.Chains.{IsAdded}
use Rattle.search.specs.Sound.{all_clauses}
use Rattle.search.proofs.ChainLaws.{clause_keys}
use Rattle.search.proofs.chain.resolve_with.Goals as goal

pub add_others-requires-clause-over : goal.add_others-requires-clause-over
add_others-requires-clause-over c =
    let named = sym (rw c.len.ensures at c.in-Some.ensures) in
    rw c.literals.ensures.value
    (clause_keys c.args.formula.now.variables _ (all_clauses c.args.formula.now c.args.learned.now) c.args.number c.in-Some.clause.now c.requires.small c.requires.room c.requires.over named)

pub returns-in_ok-add_others-clause-chain : goal.returns-in_ok-add_others-clause-chain
returns-in_ok-add_others-clause-chain c =
    let pivot_fits = to_z-of_z _ _ c.ranges.pivot in
    let value : c.negation.result ≡ neg_ℤ c.args.pivot = rw pivot_fits at c.negation.ensures.value in
    let neg_fits = to_z-of_z _ _ (literal_fits c.negation.result c.negation.ensures.literal.1) in
    let own = sym (rw c.len.ensures at c.in-Some.ensures) in
    let unmarked = rw pivot_fits at c.unmark.ensures in
    λ n trail clause kept located named falses.
    let same : c.in-Some.clause.now ≡ clause = (let both : Some c.in-Some.clause.now ≡ Some clause = sym own ∙ named in cc) in
    let there = rw (c.literals.ensures.value, neg_fits, value, same) at c.in_ok-add_others.ensures.chain in
    subst (λ set. IsAdded trail set c.args.chain.now (marked ByKey c.add_others.new.marks) c.add_others.new.chain) (λ i y. unmarked y i) (there n trail kept located falses)

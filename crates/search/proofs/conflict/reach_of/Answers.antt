use Rattle.std.proofs.Common.{◌≡◌, ◌⊎◌, ◌+◌, ◌<◌, ◌≤◌, ◌∙◌, ap, arith, get_or, pos, neg_ℤ}
use mathlib.Core.Logic.{inl, inr}
use Rattle.std.specs.Prelude.{slice_index_or}
use Rattle.std.proofs.lemmas.Int.{to_z-of_z}
use Rattle.std.proofs.lemmas.List.{take_more}
use Rattle.std.proofs.lemmas.Option.{get_or_from_slice_get}
use Rattle.cnf.specs.Clauses.{literal_key}
use Rattle.cnf.proofs.literal_marks.PlacesLaws.{literal_fits}
use Rattle.search.proofs.ChainLaws.{conflict_falses, located_at, reach_more}
use Rattle.search.proofs.LookLaws.{has_at}
use Rattle.search.proofs.conflict.reach_of.Goals as goal
use Rattle.search.proofs.conflict.reach_of.Goals.{then-reach-place, else-reach-place}

pub loop-literal-preserved : goal.loop-literal-preserved
loop-literal-preserved c =
    let i = c.loop-literal.literal-index in
    let x = get_or c.args.literals.now i (pos 0) in
    let here = has_at c.args.literals.now i c.loop-literal-test.true in
    let x_fits = to_z-of_z _ _ (literal_fits x (c.requires.over x here).0.1) in
    let value : c.negation.result ≡ neg_ℤ x = rw x_fits at c.negation.ensures.value in
    let neg_fits = to_z-of_z _ _ (literal_fits c.negation.result c.negation.ensures.literal.1) in
    let key : c.literal_key.result ≡ literal_key (neg_ℤ x) = rw neg_fits at c.literal_key.ensures.value ∙ ap literal_key value in
    λ trail located conflict.
    let against = conflict_falses trail c.args.literals.now x conflict here in
    let found = located_at trail c.args.places.now (neg_ℤ x) located against in
    let place : slice_index_or c.args.places.now c.literal_key.result 0 ≡ found.0 = ap (λ k. slice_index_or c.args.places.now k 0) key ∙ get_or_from_slice_get c.args.places.now (literal_key (neg_ℤ x)) found.0 0 found.4 in
    let side : ((found.0 < c.loop-literal.reach) × (c.if-reach-place.reach ≡ c.loop-literal.reach)) ⊎ ((c.loop-literal.reach ≤ found.0) × (c.if-reach-place.reach ≡ found.0 + 1)) =
    elim c.if-reach-place.branch [
      | then-reach-place w ↦ let test = w.if-reach-place.true in let is = w.reach-is in inr (omega (arith, test, place), omega (arith, is, place))
      | else-reach-place w ↦ let test = w.if-reach-place.false in let is = w.reach-is in inl (omega (arith, test, place), is)
    ] in
    rw (take_more c.args.literals.now i (pos 0) c.loop-literal-test.true)
    (reach_more trail c.args.places.now _ x found.0 c.loop-literal.reach c.if-reach-place.reach located against found.4 (c.loop-literal.invariant trail located conflict) side)

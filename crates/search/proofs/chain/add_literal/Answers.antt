use Rattle.std.proofs.Common.{◌≡◌, refl, ◌∙◌, ap, arith}
use Rattle.std.specs.Prelude.{neg_ℤ, slice_index_or}
use Rattle.std.proofs.lemmas.Int.{to_z-of_z}
use Rattle.std.proofs.lemmas.Option.{get_or_from_slice_get}
use Rattle.cnf.specs.Clauses.{literal_key}
use Rattle.cnf.proofs.literal_marks.PlacesLaws.{literal_fits}
use Rattle.search.proofs.ChainLaws.{added_found, added_high, added_low, located_at}
use Rattle.search.proofs.chain.add_literal.Goals as goal

pub returns-in_ok-push-2-clause-chain : goal.returns-in_ok-push-2-clause-chain
returns-in_ok-push-2-clause-chain c =
    let x = c.args.literal in
    let x_fits = to_z-of_z _ _ c.ranges.literal in
    let value : c.negation.result ≡ neg_ℤ x = rw x_fits at c.negation.ensures.value in
    let neg_fits = to_z-of_z _ _ (literal_fits c.negation.result c.negation.ensures.literal.1) in
    let key : c.literal_key.result ≡ literal_key (neg_ℤ x) = rw neg_fits at c.literal_key.ensures.value ∙ ap literal_key value in
    λ n trail kept located against.
    let found = located_at trail c.args.places.now (neg_ℤ x) located against in
    let place : slice_index_or c.args.places.now c.literal_key.result 0 ≡ found.0 = ap (λ k. slice_index_or c.args.places.now k 0) key ∙ get_or_from_slice_get c.args.places.now (literal_key (neg_ℤ x)) found.0 0 found.4 in
    let early = c.if-place-chain.true in
    added_found n trail kept x found.0 found.1 found.2 found.3 _ _ (rw x_fits at c.mark.ensures) c.args.chain.now _ refl refl (omega (arith, early, place)) (rw x_fits at c.in_ok-push-2.ensures.items) refl

pub returns-then-place-chain-2-clause-chain : goal.returns-then-place-chain-2-clause-chain
returns-then-place-chain-2-clause-chain c =
    let x = c.args.literal in
    let x_fits = to_z-of_z _ _ c.ranges.literal in
    let value : c.negation.result ≡ neg_ℤ x = rw x_fits at c.negation.ensures.value in
    let neg_fits = to_z-of_z _ _ (literal_fits c.negation.result c.negation.ensures.literal.1) in
    let key : c.literal_key.result ≡ literal_key (neg_ℤ x) = rw neg_fits at c.literal_key.ensures.value ∙ ap literal_key value in
    λ n trail kept located against.
    let found = located_at trail c.args.places.now (neg_ℤ x) located against in
    let place : slice_index_or c.args.places.now c.literal_key.result 0 ≡ found.0 = ap (λ k. slice_index_or c.args.places.now k 0) key ∙ get_or_from_slice_get c.args.places.now (literal_key (neg_ℤ x)) found.0 0 found.4 in
    let late = c.if-place-chain.false in
    let below = c.if-place-chain-2.true in
    added_low n trail kept x found.0 found.1 found.2 found.3 _ _ (rw x_fits at c.mark.ensures) c.args.chain.now _ refl refl (omega (arith, late, place)) refl place (omega (arith, below, place))

pub returns-else-place-chain-2-clause-chain : goal.returns-else-place-chain-2-clause-chain
returns-else-place-chain-2-clause-chain c =
    let x = c.args.literal in
    let x_fits = to_z-of_z _ _ c.ranges.literal in
    let value : c.negation.result ≡ neg_ℤ x = rw x_fits at c.negation.ensures.value in
    let neg_fits = to_z-of_z _ _ (literal_fits c.negation.result c.negation.ensures.literal.1) in
    let key : c.literal_key.result ≡ literal_key (neg_ℤ x) = rw neg_fits at c.literal_key.ensures.value ∙ ap literal_key value in
    λ n trail kept located against.
    let found = located_at trail c.args.places.now (neg_ℤ x) located against in
    let place : slice_index_or c.args.places.now c.literal_key.result 0 ≡ found.0 = ap (λ k. slice_index_or c.args.places.now k 0) key ∙ get_or_from_slice_get c.args.places.now (literal_key (neg_ℤ x)) found.0 0 found.4 in
    let late = c.if-place-chain.false in
    let above = c.if-place-chain-2.false in
    added_high n trail kept x found.0 found.1 found.2 found.3 _ _ (rw x_fits at c.mark.ensures) c.args.chain.now _ refl refl (omega (arith, late, place)) refl refl (omega (arith, above, place))

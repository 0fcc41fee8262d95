use Rattle.std.proofs.Common.{◌≡◌, ◌∙◌, ◌<◌, ◌++◌, ◌∷◌, ◌||◌, [], ℤ, Bool, ap, arith, get_or, length, neg_ℤ, pos, sym, true, None, Some}
use mathlib.Core.Path.{subst}
use Rattle.std.specs.Prelude.{◌&&◌, not, slice_get}
use Rattle.std.proofs.lemmas.Int.{to_z-of_z}
use Rattle.std.proofs.lemmas.Option.{slice_get-get_or}
use Rattle.cnf.specs.Checks.{numbered}
use Rattle.cnf.specs.Clauses.{has_literal}
use Rattle.cnf.proofs.literal_marks.PlacesLaws.{literal_fits}
use Rattle.cnf.specs.literal_marks.Marks.{marked}
use Rattle.cnf.specs.declared.literal_marks.places.Places.TheVariants.{ByKey}
use Rattle.search.specs.declared.chain.Chain.{Chain}
use Rattle.search.specs.Chains.{IsWider, skips, without}
use Rattle.search.specs.Machine.{IsOver}
use Rattle.search.specs.Sound.{all_clauses}
use Rattle.search.proofs.BackLaws.{literal-over, negated-over, over_at}
use Rattle.search.proofs.ChainLaws.{clause_keys}
use Rattle.search.proofs.MinimizingLaws.{thinned_one}
use Rattle.search.proofs.minimizing.drop_implied.Goals as goal

pub add_others_found-requires : goal.add_others_found-requires
add_others_found-requires c =
    let named = sym (rw c.len.ensures at c.in-Some-clause_before.ensures) in
    let keys = clause_keys c.args.formula.now.variables _ (all_clauses c.args.formula.now c.args.learned.now) c.in-Some.number c.in-Some-clause_before.clause.now c.requires.small c.requires.size c.requires.sound.clauses named in
    record { over = λ x has. (let key = keys x (rw c.literals.ensures.value at has) in (key.0, rw c.unmark.auto.marks key.1)) }

pub returns-in_ok-push-clause-thinned : goal.returns-in_ok-push-clause-thinned
returns-in_ok-push-clause-thinned c =
    let n = c.args.formula.now.variables in
    let trail = c.args.trail.now in
    let place = c.args.place in
    let e = get_or trail place record { literal = pos 0; reason = None } in
    let inside : place < length trail = omega (arith, c.if-place-trail.false) in
    let early : place < c.args.chain.now.start = omega (arith, c.if-place-chain.false) in
    let at : slice_get trail place ≡ Some e = slice_get-get_or trail place _ inside in
    let number = c.in-Some.number in
    let clause = c.in-Some-clause_before.clause.now in
    let told = c.requires.sound.reasons place e number at c.in-Some.is in
    let named : numbered (all_clauses c.args.formula.now c.args.learned.now) number ≡ Some clause = sym (rw c.len.ensures at c.in-Some-clause_before.ensures) in
    let implies = rw named at told in
    let over : IsOver n e.literal = over_at n trail place e c.requires.sound.kept.over at in
    let fits = to_z-of_z _ _ (literal_fits _ (literal-over n e.literal c.requires.small over).1) in
    let value : c.negation-negated.result ≡ neg_ℤ e.literal = rw fits at c.negation-negated.ensures.value in
    let negated_fits = to_z-of_z _ _ (literal_fits _ (literal-over n (neg_ℤ e.literal) c.requires.small (negated-over n e.literal over)).1) in
    let own : marked ByKey c.args.marks.now (neg_ℤ e.literal) ≡ true = sym (rw (value, negated_fits) at c.if-not-is_marked.ensures) in
    let unmarked = rw (value, negated_fits) at c.unmark.ensures in
    let added = c.in_ok-add_others_found.ensures in
    let gives = rw (c.literals.ensures.value, fits) at added.marks in
    let wider = rw (c.literals.ensures.value, fits) at added.wider in
    let pushed = rw (value, negated_fits) at c.in_ok-push.ensures.items in
    let set = marked ByKey c.args.marks.now in
    let left = without set (neg_ℤ e.literal) in
    let next = marked ByKey c.add_others_found.new.marks in
    let same : marked ByKey c.unmark.new.marks ≡ left = λ i y. unmarked y i in
    let others : ℤ → Bool = λ y. has_literal clause y && not (skips (Some e.literal) y) in
    let mid = c.add_others_found.new.chain in
    let after : Chain = record { start = mid.start; found = mid.found; low = mid.low; steps = c.push.new.self; seen = mid.seen } in
    thinned_one n (all_clauses c.args.formula.now c.args.learned.now) trail c.requires.sound.kept place e number clause at c.in-Some.is named implies set next c.args.chain.now after own
    (λ y. gives y ∙ ap (λ b. b || others y) (unmarked y)) early (subst (λ z. IsWider z c.args.chain.now.found.items next mid.found.items others) same wider) added.start added.low
    (pushed ∙ ap (λ xs. xs.items ++ (number, neg_ℤ e.literal) ∷ []) added.steps)

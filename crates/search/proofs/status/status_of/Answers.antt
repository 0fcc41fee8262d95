use Rattle.std.proofs.Common.{pos, sym, ◌≡◌, neg_ℤ, [], ◌∷◌, false, get_or, option_to_list}
use Rattle.std.proofs.lemmas.Int.{to_z-of_z}
use Rattle.cnf.proofs.ClauseLaws.{literals_of_clause}
use Rattle.cnf.proofs.literal_marks.PlacesLaws.{literal_fits}
use Rattle.cnf.specs.literal_marks.Marks.{marked}
use Rattle.cnf.specs.declared.literal_marks.places.Places.TheVariants.{ByKey}
use Rattle.search.specs.Machine.{remaining}
use Rattle.search.proofs.StatusLaws.{empty_conflicts, left_literal, open_left, second_left, true_left, whole_left}
use Rattle.search.proofs.status.status_of.Goals as goal

pub is_false-requires : goal.is_false-requires
is_false-requires c =
    let own = literals_of_clause 0 _ c.literals-literal-items.ensures.clause c.loop-literal.literal-index (pos 0) c.loop-literal-test.true in
    rw (to_z-of_z _ _ (literal_fits _ own.1)) own

pub returns-then-is_some : goal.returns-then-is_some
returns-then-is_some c =
    let own = literals_of_clause 0 _ c.literals-literal-items.ensures.clause c.loop-literal.literal-index (pos 0) c.loop-literal-test.true in
    let free : marked ByKey c.args.values.now (neg_ℤ (get_or c.literals-literal-items.result.now c.loop-literal.literal-index (pos 0))) ≡ false =
    rw (to_z-of_z _ _ (literal_fits _ own.1)) at (sym c.if-not-is_false.ensures) in
    rw (← c.literals-literal-items.ensures.value) (second_left (marked ByKey c.args.values.now) _ _ (pos 0) _ c.loop-literal-test.true free c.loop-literal.invariant.left (sym c.if-is_some.ensures))

pub returns-in-None : goal.returns-in-None
returns-in-None c =
    let left : remaining (marked ByKey c.args.values.now) c.literals-literal-items.result.now ≡ option_to_list c.loop-literal.left = whole_left (marked ByKey c.args.values.now) _ _ _ c.loop-literal-test.false c.loop-literal.invariant.left in
    rw (← c.literals-literal-items.ensures.value) (empty_conflicts (marked ByKey c.args.values.now) _ (rw c.in-None.is at left))

pub returns-then-is_marked : goal.returns-then-is_marked
returns-then-is_marked c =
    let left : remaining (marked ByKey c.args.values.now) c.literals-literal-items.result.now ≡ option_to_list c.loop-literal.left = whole_left (marked ByKey c.args.values.now) _ _ _ c.loop-literal-test.false c.loop-literal.invariant.left in
    let one : remaining (marked ByKey c.args.values.now) c.literals-literal-items.result.now ≡ c.in-Some.literal ∷ [] = rw c.in-Some.is at left in
    let fits = literal_fits _ (left_literal (marked ByKey c.args.values.now) _ _ c.literals-literal-items.ensures.clause one).1 in
    rw (← c.literals-literal-items.ensures.value) (true_left (marked ByKey c.args.values.now) _ _ one (rw (to_z-of_z _ _ fits) at (sym c.if-is_marked.ensures)))

pub returns-else-is_marked : goal.returns-else-is_marked
returns-else-is_marked c =
    let left : remaining (marked ByKey c.args.values.now) c.literals-literal-items.result.now ≡ option_to_list c.loop-literal.left = whole_left (marked ByKey c.args.values.now) _ _ _ c.loop-literal-test.false c.loop-literal.invariant.left in
    let one : remaining (marked ByKey c.args.values.now) c.literals-literal-items.result.now ≡ c.in-Some.literal ∷ [] = rw c.in-Some.is at left in
    let fits = literal_fits _ (left_literal (marked ByKey c.args.values.now) _ _ c.literals-literal-items.ensures.clause one).1 in
    rw (to_z-of_z _ _ fits, ← c.literals-literal-items.ensures.value) (open_left (marked ByKey c.args.values.now) _ _ c.literals-literal-items.ensures.clause one (rw (to_z-of_z _ _ fits) at (sym c.if-is_marked.ensures)))

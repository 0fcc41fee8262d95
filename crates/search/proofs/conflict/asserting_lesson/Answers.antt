use Rattle.std.proofs.Common.{◌≡◌, ◌∙◌, ℕ, ◌-◌, ap, arith, get_or, pos, neg_ℤ, true, None}
use Rattle.std.specs.Prelude.{ℤ}
use Rattle.std.specs.Global.{Vec}
use Rattle.std.proofs.lemmas.Int.{to_z-of_z}
use Rattle.std.proofs.lemmas.Option.{get_or_from_slice_get, slice_get_within}
use Rattle.cnf.specs.Clauses.{has_literal}
use Rattle.cnf.proofs.literal_marks.PlacesLaws.{literal_fits}
use Rattle.cnf.specs.literal_marks.Marks.{marked}
use Rattle.cnf.specs.declared.literal_marks.places.Places.TheVariants.{ByKey}
use Rattle.search.specs.Sound.{all_clauses}
use Rattle.search.proofs.BackLaws.{literal-over, over_at, some_entry}
use Rattle.search.proofs.ChainLaws.{back_begins, clause_keys}
use Rattle.search.proofs.ConflictLaws.{first_falses, first_marks, going_begins, left_free, left_literals, lesson_asserts, marks_gone, others_false}
use Rattle.search.proofs.KeptLaws.{trail_short}
use Rattle.search.proofs.conflict.asserting_lesson.Goals as goal

pub add_others-requires-clause-over : goal.add_others-requires-clause-over
add_others-requires-clause-over c =
    rw c.literals.ensures.value
    (clause_keys c.args.formula.now.variables _ (all_clauses c.args.formula.now c.args.learned.now) c.args.conflict c.args.clause.now c.requires.small c.requires.room c.requires.sound.clauses c.requires.named)

pub go_back-requires-clause-implied : goal.go_back-requires-clause-implied
go_back-requires-clause-implied c =
    let n = c.args.formula.now.variables in
    let trail = c.args.trail.now in
    let clauses = all_clauses c.args.formula.now c.args.learned.now in
    let first = c.args.clause.now in
    let kept = c.requires.sound.kept in
    let added = (rw c.literals.ensures.value at c.in_ok-add_others.ensures.chain) n trail kept c.requires.located (first_falses trail first c.args.reach c.requires.reach) in
    let marks = rw c.literals.ensures.value at c.in_ok-add_others.ensures.marks in
    let is : (x : ℤ) → marked ByKey c.add_others.new.marks x ≡ has_literal first x = λ x. first_marks _ _ _ (c.requires.clear x) (marks x) in
    λ d decided late below. let start = added.start in c.requires.start.2 d decided (omega (arith, late, start)) below

pub go_back-requires-clause-going : goal.go_back-requires-clause-going
go_back-requires-clause-going c =
    let n = c.args.formula.now.variables in
    let trail = c.args.trail.now in
    let clauses = all_clauses c.args.formula.now c.args.learned.now in
    let first = c.args.clause.now in
    let kept = c.requires.sound.kept in
    let added = (rw c.literals.ensures.value at c.in_ok-add_others.ensures.chain) n trail kept c.requires.located (first_falses trail first c.args.reach c.requires.reach) in
    let marks = rw c.literals.ensures.value at c.in_ok-add_others.ensures.marks in
    let is : (x : ℤ) → marked ByKey c.add_others.new.marks x ≡ has_literal first x = λ x. first_marks _ _ _ (c.requires.clear x) (marks x) in
    let inside = c.requires.start.1 in
    going_begins trail first c.args.reach (marked ByKey c.args.marks.now) (marked ByKey c.add_others.new.marks) record { start = c.args.start; found = c.new.result; low = c.args.reach - 1; steps = c.new-2.result; seen = c.new-3.result } c.add_others.new.chain c.requires.reach c.requires.clear is c.new.ensures.items (omega (arith, inside)) inside added

pub offset_bounds-trail-chain : goal.offset_bounds-trail-chain
offset_bounds-trail-chain c =
    let set = marked ByKey c.minimize.new.marks in
    let found = some_entry c.args.trail.now c.minimize.new.chain.low (λ f. set (neg_ℤ f.literal) ≡ true) c.in_ok-minimize.ensures.going.low in
    let within = slice_get_within c.args.trail.now c.minimize.new.chain.low found.0 found.1 in
    let short = trail_short c.args.formula.now.variables c.args.trail.now c.requires.sound.kept in
    let small = c.requires.small in
    record { fits = omega (arith, within, short, small) }

pub bounds-trail-chain : goal.bounds-trail-chain
bounds-trail-chain c =
    let set = marked ByKey c.minimize.new.marks in
    let found = some_entry c.args.trail.now c.minimize.new.chain.low (λ f. set (neg_ℤ f.literal) ≡ true) c.in_ok-minimize.ensures.going.low in
    slice_get_within c.args.trail.now c.minimize.new.chain.low found.0 found.1

pub negation-literal-requires : goal.negation-literal-requires
negation-literal-requires c =
    let n = c.args.formula.now.variables in
    let trail = c.args.trail.now in
    let clauses = all_clauses c.args.formula.now c.args.learned.now in
    let first = c.args.clause.now in
    let kept = c.requires.sound.kept in
    let added = (rw c.literals.ensures.value at c.in_ok-add_others.ensures.chain) n trail kept c.requires.located (first_falses trail first c.args.reach c.requires.reach) in
    let marks = rw c.literals.ensures.value at c.in_ok-add_others.ensures.marks in
    let is : (x : ℤ) → marked ByKey c.add_others.new.marks x ≡ has_literal first x = λ x. first_marks _ _ _ (c.requires.clear x) (marks x) in
    let begun = back_begins clauses trail first c.args.reach (marked ByKey c.add_others.new.marks) c.add_others.new.chain.steps.items c.requires.reach.falses is (ap (λ (v : Vec (ℕ × ℤ)). v.items) added.steps ∙ c.new-2.ensures.items) in
    let set = marked ByKey c.minimize.new.marks in
    let chain = c.minimize.new.chain in
    let back = c.in_ok-minimize.ensures.back first (c.in_ok-go_back.ensures.back first begun) in
    let left = c.in_ok-minimize.ensures.going in
    let found = some_entry trail chain.low (λ f. set (neg_ℤ f.literal) ≡ true) left.low in
    let e = found.0 in
    let at = found.1 in
    let from = c.in_ok-minimize.ensures.start ∙ c.in_ok-go_back.ensures.start ∙ added.start in
    let over = over_at n trail chain.low e kept.over at in
    let fits = to_z-of_z _ _ (literal_fits e.literal (literal-over n e.literal c.requires.small over).1) in
    let read : get_or trail chain.low record { literal = pos 0; reason = None } ≡ e = get_or_from_slice_get trail chain.low e _ at in
    rw (read, fits) (literal-over n e.literal c.requires.small over)

pub landing_of-landing-requires-clause-free : goal.landing_of-landing-requires-clause-free
landing_of-landing-requires-clause-free c =
    let n = c.args.formula.now.variables in
    let trail = c.args.trail.now in
    let clauses = all_clauses c.args.formula.now c.args.learned.now in
    let first = c.args.clause.now in
    let kept = c.requires.sound.kept in
    let added = (rw c.literals.ensures.value at c.in_ok-add_others.ensures.chain) n trail kept c.requires.located (first_falses trail first c.args.reach c.requires.reach) in
    let marks = rw c.literals.ensures.value at c.in_ok-add_others.ensures.marks in
    let is : (x : ℤ) → marked ByKey c.add_others.new.marks x ≡ has_literal first x = λ x. first_marks _ _ _ (c.requires.clear x) (marks x) in
    let begun = back_begins clauses trail first c.args.reach (marked ByKey c.add_others.new.marks) c.add_others.new.chain.steps.items c.requires.reach.falses is (ap (λ (v : Vec (ℕ × ℤ)). v.items) added.steps ∙ c.new-2.ensures.items) in
    let set = marked ByKey c.minimize.new.marks in
    let chain = c.minimize.new.chain in
    let back = c.in_ok-minimize.ensures.back first (c.in_ok-go_back.ensures.back first begun) in
    let left = c.in_ok-minimize.ensures.going in
    let found = some_entry trail chain.low (λ f. set (neg_ℤ f.literal) ≡ true) left.low in
    let e = found.0 in
    let at = found.1 in
    let from = c.in_ok-minimize.ensures.start ∙ c.in_ok-go_back.ensures.start ∙ added.start in
    let over = over_at n trail chain.low e kept.over at in
    let fits = to_z-of_z _ _ (literal_fits e.literal (literal-over n e.literal c.requires.small over).1) in
    let read : get_or trail chain.low record { literal = pos 0; reason = None } ≡ e = get_or_from_slice_get trail chain.low e _ at in
    let value : c.negation-literal.result ≡ neg_ℤ e.literal = rw (read, fits) at c.negation-literal.ensures.value in
    let neg_fits = to_z-of_z _ _ (literal_fits c.negation-literal.result c.negation-literal.ensures.literal.1) in
    rw (neg_fits, value) (left_free n trail kept set chain left clauses first chain.steps.items back e at c.args.start from c.args.start (omega arith))

pub landing_of-landing-requires-clause-falses : goal.landing_of-landing-requires-clause-falses
landing_of-landing-requires-clause-falses c =
    let n = c.args.formula.now.variables in
    let trail = c.args.trail.now in
    let clauses = all_clauses c.args.formula.now c.args.learned.now in
    let first = c.args.clause.now in
    let kept = c.requires.sound.kept in
    let added = (rw c.literals.ensures.value at c.in_ok-add_others.ensures.chain) n trail kept c.requires.located (first_falses trail first c.args.reach c.requires.reach) in
    let marks = rw c.literals.ensures.value at c.in_ok-add_others.ensures.marks in
    let is : (x : ℤ) → marked ByKey c.add_others.new.marks x ≡ has_literal first x = λ x. first_marks _ _ _ (c.requires.clear x) (marks x) in
    let begun = back_begins clauses trail first c.args.reach (marked ByKey c.add_others.new.marks) c.add_others.new.chain.steps.items c.requires.reach.falses is (ap (λ (v : Vec (ℕ × ℤ)). v.items) added.steps ∙ c.new-2.ensures.items) in
    let set = marked ByKey c.minimize.new.marks in
    let chain = c.minimize.new.chain in
    let back = c.in_ok-minimize.ensures.back first (c.in_ok-go_back.ensures.back first begun) in
    let left = c.in_ok-minimize.ensures.going in
    let found = some_entry trail chain.low (λ f. set (neg_ℤ f.literal) ≡ true) left.low in
    let e = found.0 in
    let at = found.1 in
    let from = c.in_ok-minimize.ensures.start ∙ c.in_ok-go_back.ensures.start ∙ added.start in
    let over = over_at n trail chain.low e kept.over at in
    let fits = to_z-of_z _ _ (literal_fits e.literal (literal-over n e.literal c.requires.small over).1) in
    let read : get_or trail chain.low record { literal = pos 0; reason = None } ≡ e = get_or_from_slice_get trail chain.low e _ at in
    let value : c.negation-literal.result ≡ neg_ℤ e.literal = rw (read, fits) at c.negation-literal.ensures.value in
    let neg_fits = to_z-of_z _ _ (literal_fits c.negation-literal.result c.negation-literal.ensures.literal.1) in
    rw (neg_fits, value) (others_false n trail kept set chain left clauses first chain.steps.items back e at c.args.start from)

pub new-requires-4 : goal.new-requires-4
new-requires-4 c =
    let n = c.args.formula.now.variables in
    let trail = c.args.trail.now in
    let clauses = all_clauses c.args.formula.now c.args.learned.now in
    let first = c.args.clause.now in
    let kept = c.requires.sound.kept in
    let added = (rw c.literals.ensures.value at c.in_ok-add_others.ensures.chain) n trail kept c.requires.located (first_falses trail first c.args.reach c.requires.reach) in
    let marks = rw c.literals.ensures.value at c.in_ok-add_others.ensures.marks in
    let is : (x : ℤ) → marked ByKey c.add_others.new.marks x ≡ has_literal first x = λ x. first_marks _ _ _ (c.requires.clear x) (marks x) in
    let begun = back_begins clauses trail first c.args.reach (marked ByKey c.add_others.new.marks) c.add_others.new.chain.steps.items c.requires.reach.falses is (ap (λ (v : Vec (ℕ × ℤ)). v.items) added.steps ∙ c.new-2.ensures.items) in
    let set = marked ByKey c.minimize.new.marks in
    let chain = c.minimize.new.chain in
    let back = c.in_ok-minimize.ensures.back first (c.in_ok-go_back.ensures.back first begun) in
    let left = c.in_ok-minimize.ensures.going in
    let found = some_entry trail chain.low (λ f. set (neg_ℤ f.literal) ≡ true) left.low in
    let e = found.0 in
    let at = found.1 in
    let from = c.in_ok-minimize.ensures.start ∙ c.in_ok-go_back.ensures.start ∙ added.start in
    let over = over_at n trail chain.low e kept.over at in
    let fits = to_z-of_z _ _ (literal_fits e.literal (literal-over n e.literal c.requires.small over).1) in
    let read : get_or trail chain.low record { literal = pos 0; reason = None } ≡ e = get_or_from_slice_get trail chain.low e _ at in
    let value : c.negation-literal.result ≡ neg_ℤ e.literal = rw (read, fits) at c.negation-literal.ensures.value in
    let neg_fits = to_z-of_z _ _ (literal_fits c.negation-literal.result c.negation-literal.ensures.literal.1) in
    let pushed = rw (neg_fits, value) at c.in_ok-push.ensures.items in
    rw (c.deref.ensures.value, pushed) (left_literals n trail kept set chain left clauses first chain.steps.items back e at c.args.start from c.requires.small)

pub returns-clause-lesson : goal.returns-clause-lesson
returns-clause-lesson c =
    let n = c.args.formula.now.variables in
    let trail = c.args.trail.now in
    let clauses = all_clauses c.args.formula.now c.args.learned.now in
    let first = c.args.clause.now in
    let kept = c.requires.sound.kept in
    let added = (rw c.literals.ensures.value at c.in_ok-add_others.ensures.chain) n trail kept c.requires.located (first_falses trail first c.args.reach c.requires.reach) in
    let marks = rw c.literals.ensures.value at c.in_ok-add_others.ensures.marks in
    let is : (x : ℤ) → marked ByKey c.add_others.new.marks x ≡ has_literal first x = λ x. first_marks _ _ _ (c.requires.clear x) (marks x) in
    let begun = back_begins clauses trail first c.args.reach (marked ByKey c.add_others.new.marks) c.add_others.new.chain.steps.items c.requires.reach.falses is (ap (λ (v : Vec (ℕ × ℤ)). v.items) added.steps ∙ c.new-2.ensures.items) in
    let set = marked ByKey c.minimize.new.marks in
    let chain = c.minimize.new.chain in
    let back = c.in_ok-minimize.ensures.back first (c.in_ok-go_back.ensures.back first begun) in
    let left = c.in_ok-minimize.ensures.going in
    let found = some_entry trail chain.low (λ f. set (neg_ℤ f.literal) ≡ true) left.low in
    let e = found.0 in
    let at = found.1 in
    let from = c.in_ok-minimize.ensures.start ∙ c.in_ok-go_back.ensures.start ∙ added.start in
    let over = over_at n trail chain.low e kept.over at in
    let fits = to_z-of_z _ _ (literal_fits e.literal (literal-over n e.literal c.requires.small over).1) in
    let read : get_or trail chain.low record { literal = pos 0; reason = None } ≡ e = get_or_from_slice_get trail chain.low e _ at in
    let value : c.negation-literal.result ≡ neg_ℤ e.literal = rw (read, fits) at c.negation-literal.ensures.value in
    let neg_fits = to_z-of_z _ _ (literal_fits c.negation-literal.result c.negation-literal.ensures.literal.1) in
    let pushed = rw (neg_fits, value) at c.in_ok-push.ensures.items in
    let has = rw (c.deref.ensures.value, pushed) at c.in_ok-clause.ensures.literals in
    let lands = rw (neg_fits, value) at c.landing_of-landing.ensures in
    rw c.fitted.ensures (lesson_asserts n trail kept set chain left clauses first chain.steps.items back e at c.args.start from c.args.conflict c.in_ok-clause.clause c.landing_of-landing.result c.requires.named c.in_ok-clause.ensures.clause has lands)

pub returns-clause-clear : goal.returns-clause-clear
returns-clause-clear c =
    let n = c.args.formula.now.variables in
    let trail = c.args.trail.now in
    let clauses = all_clauses c.args.formula.now c.args.learned.now in
    let first = c.args.clause.now in
    let kept = c.requires.sound.kept in
    let added = (rw c.literals.ensures.value at c.in_ok-add_others.ensures.chain) n trail kept c.requires.located (first_falses trail first c.args.reach c.requires.reach) in
    let marks = rw c.literals.ensures.value at c.in_ok-add_others.ensures.marks in
    let is : (x : ℤ) → marked ByKey c.add_others.new.marks x ≡ has_literal first x = λ x. first_marks _ _ _ (c.requires.clear x) (marks x) in
    let begun = back_begins clauses trail first c.args.reach (marked ByKey c.add_others.new.marks) c.add_others.new.chain.steps.items c.requires.reach.falses is (ap (λ (v : Vec (ℕ × ℤ)). v.items) added.steps ∙ c.new-2.ensures.items) in
    let set = marked ByKey c.minimize.new.marks in
    let chain = c.minimize.new.chain in
    let back = c.in_ok-minimize.ensures.back first (c.in_ok-go_back.ensures.back first begun) in
    let left = c.in_ok-minimize.ensures.going in
    let found = some_entry trail chain.low (λ f. set (neg_ℤ f.literal) ≡ true) left.low in
    let e = found.0 in
    let at = found.1 in
    let from = c.in_ok-minimize.ensures.start ∙ c.in_ok-go_back.ensures.start ∙ added.start in
    let over = over_at n trail chain.low e kept.over at in
    let fits = to_z-of_z _ _ (literal_fits e.literal (literal-over n e.literal c.requires.small over).1) in
    let read : get_or trail chain.low record { literal = pos 0; reason = None } ≡ e = get_or_from_slice_get trail chain.low e _ at in
    let value : c.negation-literal.result ≡ neg_ℤ e.literal = rw (read, fits) at c.negation-literal.ensures.value in
    let neg_fits = to_z-of_z _ _ (literal_fits c.negation-literal.result c.negation-literal.ensures.literal.1) in
    let pushed = rw (neg_fits, value) at c.in_ok-push.ensures.items in
    let has = rw (c.deref.ensures.value, pushed) at c.in_ok-clause.ensures.literals in
    λ x. (rw c.literals-2.ensures.value at c.unmark_all.ensures) x ∙ marks_gone n trail kept set chain left clauses first chain.steps.items back e at c.args.start from c.in_ok-clause.clause has x

use Rattle.std.proofs.Common.{◌≡◌, ◌+◌, ◌-◌, ◌<◌, length, sym, get_or, pos, neg_ℤ, true, false, None, Some, Option, ℕ, arith}
use Rattle.std.specs.Prelude.{slice_get}
use Rattle.std.proofs.lemmas.Int.{to_z-of_z}
use Rattle.std.proofs.lemmas.Option.{slice_get-get_or, slice_get_within}
use Rattle.cnf.proofs.literal_marks.PlacesLaws.{literal_fits}
use Rattle.cnf.specs.literal_marks.Marks.{marked}
use Rattle.cnf.specs.declared.literal_marks.places.Places.TheVariants.{ByKey}
use Rattle.search.specs.declared.trail.Entry.{Entry}
use Rattle.search.proofs.BackLaws.{literal-over, negated-over, over_at, some_entry}
use Rattle.search.proofs.LandingLaws.{IsLandingSo, landing_decided, landing_implied, landing_other}
use Rattle.search.proofs.landing.landing_of.Goals as goal
use Rattle.search.proofs.landing.landing_of.Goals.{in-None, in-Some}

some_apart : {number : ℕ} (reason : Option ℕ) → reason ≡ Some number → reason ≡ None → ⊥
some_apart reason some none = absurd cc

pub negation-negated-requires : goal.negation-negated-requires
negation-negated-requires c =
    let n = c.args.variables in
    let at = c.args.place - 1 - c.loop-back.back in
    let inside : at < length c.args.trail.now = let found = some_entry c.args.trail.now c.args.place (λ e. e.reason ≡ None) c.requires.decided in let below = slice_get_within c.args.trail.now c.args.place found.0 found.1 in omega (arith, below, c.loop-back-test.true) in
    let e : Entry = get_or c.args.trail.now at record { literal = pos 0; reason = None } in
    let here : slice_get c.args.trail.now at ≡ Some e = slice_get-get_or c.args.trail.now at _ inside in
    let over = over_at n c.args.trail.now at e c.requires.kept.over here in
    let fits = literal_fits e.literal (literal-over n e.literal c.requires.small over).1 in
    rw (to_z-of_z _ _ fits) (literal-over n e.literal c.requires.small over)

pub returns-then-is_marked : goal.returns-then-is_marked
returns-then-is_marked c =
    let n = c.args.variables in
    let at = c.args.place - 1 - c.loop-back.back in
    let inside : at < length c.args.trail.now = let found = some_entry c.args.trail.now c.args.place (λ e. e.reason ≡ None) c.requires.decided in let below = slice_get_within c.args.trail.now c.args.place found.0 found.1 in omega (arith, below, c.loop-back-test.true) in
    let e : Entry = get_or c.args.trail.now at record { literal = pos 0; reason = None } in
    let here : slice_get c.args.trail.now at ≡ Some e = slice_get-get_or c.args.trail.now at _ inside in
    let over = over_at n c.args.trail.now at e c.requires.kept.over here in
    let fits = literal_fits e.literal (literal-over n e.literal c.requires.small over).1 in
    let value : c.negation-negated.result ≡ neg_ℤ e.literal = rw (to_z-of_z _ _ fits) at c.negation-negated.ensures.value in
    let negated = literal_fits (neg_ℤ e.literal) (literal-over n (neg_ℤ e.literal) c.requires.small (negated-over n e.literal over)).1 in
    let set = marked ByKey c.args.marks.now in
    let front : c.args.place - c.loop-back.back ≡ at + 1 = omega (arith, c.loop-back-test.true) in
    let so : IsLandingSo c.args.trail.now set c.args.literal c.args.place (at + 1) c.loop-back.cut = rw (front, to_z-of_z _ _ c.ranges.literal) at c.loop-back.invariant.so in
    let own : set (neg_ℤ e.literal) ≡ true = sym (rw (value, to_z-of_z _ _ negated) at c.if-is_marked.ensures) in
    rw (value, to_z-of_z _ _ negated, to_z-of_z _ _ c.ranges.literal) (landing_other n c.args.trail.now set c.args.literal c.args.place at c.loop-back.cut e c.requires.kept here so c.requires.free own)

pub loop-back-preserved : goal.loop-back-preserved
loop-back-preserved c =
    let n = c.args.variables in
    let at = c.args.place - 1 - c.loop-back.back in
    let inside : at < length c.args.trail.now = let found = some_entry c.args.trail.now c.args.place (λ e. e.reason ≡ None) c.requires.decided in let below = slice_get_within c.args.trail.now c.args.place found.0 found.1 in omega (arith, below, c.loop-back-test.true) in
    let e : Entry = get_or c.args.trail.now at record { literal = pos 0; reason = None } in
    let here : slice_get c.args.trail.now at ≡ Some e = slice_get-get_or c.args.trail.now at _ inside in
    let over = over_at n c.args.trail.now at e c.requires.kept.over here in
    let fits = literal_fits e.literal (literal-over n e.literal c.requires.small over).1 in
    let value : c.negation-negated.result ≡ neg_ℤ e.literal = rw (to_z-of_z _ _ fits) at c.negation-negated.ensures.value in
    let negated = literal_fits (neg_ℤ e.literal) (literal-over n (neg_ℤ e.literal) c.requires.small (negated-over n e.literal over)).1 in
    let set = marked ByKey c.args.marks.now in
    let front : c.args.place - c.loop-back.back ≡ at + 1 = omega (arith, c.loop-back-test.true) in
    let so : IsLandingSo c.args.trail.now set c.args.literal c.args.place (at + 1) c.loop-back.cut = rw (front, to_z-of_z _ _ c.ranges.literal) at c.loop-back.invariant.so in
    let free : set (neg_ℤ e.literal) ≡ false = sym (rw (value, to_z-of_z _ _ negated) at c.if-is_marked.ensures) in
    let next : c.args.place - (c.loop-back.back + 1) ≡ at = omega (arith, c.loop-back-test.true) in
    rw (to_z-of_z _ _ c.ranges.literal, next) record {
      so = elim c.match-entry.branch [
        | in-None w ↦ rw w.cut-is (landing_decided n c.args.trail.now set c.args.literal c.args.place at c.loop-back.cut e c.requires.kept here so free w.in-None.is)
        | in-Some w ↦ rw w.cut-is (landing_implied n c.args.trail.now set c.args.literal c.args.place at c.loop-back.cut e c.requires.kept here so free (some_apart _ w.in-Some.is))
      ];
    }

use Rattle.std.proofs.Common.{◌≡◌, sym, refl, get_or, pos, neg_ℤ, true, false, None, Some}
use Rattle.std.specs.Prelude.{slice_get}
use Rattle.std.proofs.lemmas.Int.{to_z-of_z}
use Rattle.std.proofs.lemmas.Option.{slice_get-get_or}
use Rattle.cnf.proofs.literal_marks.PlacesLaws.{literal_fits}
use Rattle.cnf.specs.literal_marks.Marks.{marked}
use Rattle.cnf.specs.declared.literal_marks.places.Places.TheVariants.{ByKey}
use Rattle.search.specs.declared.trail.Entry.{Entry}
use Rattle.search.specs.Machine.{IsOver}
use Rattle.search.specs.Sound.{all_clauses}
use Rattle.search.proofs.BackLaws.{back_by_reason, back_over, literal-over, negated-over, over_at}
use Rattle.search.proofs.ChainLaws.{going_resolved, others_of}
use Rattle.search.proofs.VisitLaws.{opened}
use Rattle.search.proofs.chain.take_back.Goals as goal

pub returns-then-not-is_marked-clause-back : goal.returns-then-not-is_marked-clause-back
returns-then-not-is_marked-clause-back c =
    let n = c.args.formula.now.variables in
    let e = get_or c.args.trail.now c.args.place record { literal = pos 0; reason = None } in
    let at : slice_get c.args.trail.now c.args.place ≡ Some e = slice_get-get_or c.args.trail.now c.args.place _ c.requires.place in
    let own : IsOver n e.literal = over_at n c.args.trail.now c.args.place e c.requires.sound.kept.over at in
    let fits = literal_fits _ (literal-over n e.literal c.requires.small own).1 in
    let value : c.negation-negated.result ≡ neg_ℤ e.literal = rw (to_z-of_z _ _ fits) at c.negation-negated.ensures.value in
    let negated_fits = literal_fits _ (literal-over n (neg_ℤ e.literal) c.requires.small (negated-over n e.literal own)).1 in
    let none : marked ByKey c.args.marks.now (neg_ℤ e.literal) ≡ false = sym (rw (value, to_z-of_z _ _ negated_fits) at c.if-not-is_marked.ensures) in
    λ first b. back_over (all_clauses c.args.formula.now c.args.learned.now) c.args.trail.now first c.args.place e _ _ at none b

pub unreachable-requires : goal.unreachable-requires
unreachable-requires c =
    let e : Entry = get_or c.args.trail.now c.args.place record { literal = pos 0; reason = None } in
    let at : slice_get c.args.trail.now c.args.place ≡ Some e = slice_get-get_or c.args.trail.now c.args.place _ c.requires.place in
    c.requires.implied (rw at c.in-None.is)

pub returns-clause-start : goal.returns-clause-start
returns-clause-start c =
    let n = c.args.formula.now.variables in
    let e = get_or c.args.trail.now c.args.place record { literal = pos 0; reason = None } in
    let at : slice_get c.args.trail.now c.args.place ≡ Some e = slice_get-get_or c.args.trail.now c.args.place _ c.requires.place in
    let own : IsOver n e.literal = over_at n c.args.trail.now c.args.place e c.requires.sound.kept.over at in
    let fits = literal_fits _ (literal-over n e.literal c.requires.small own).1 in
    let value : c.negation-negated.result ≡ neg_ℤ e.literal = rw (to_z-of_z _ _ fits) at c.negation-negated.ensures.value in
    let negated_fits = literal_fits _ (literal-over n (neg_ℤ e.literal) c.requires.small (negated-over n e.literal own)).1 in
    let found : marked ByKey c.args.marks.now (neg_ℤ e.literal) ≡ true = sym (rw (value, to_z-of_z _ _ negated_fits) at c.if-not-is_marked.ensures) in
    let told = c.requires.sound.reasons c.args.place e c.in-Some.number at c.in-Some.is in
    let clause = opened _ _ told in
    let added = rw (value, to_z-of_z _ _ negated_fits) at c.in_ok-resolve_with-in-Some.ensures.chain in
    let adds = added n c.args.trail.now clause.0 c.requires.sound.kept c.requires.located clause.1 (others_of c.args.trail.now c.args.place e.literal clause.0 clause.2) in
    adds.start

pub returns-clause-back : goal.returns-clause-back
returns-clause-back c =
    let n = c.args.formula.now.variables in
    let e = get_or c.args.trail.now c.args.place record { literal = pos 0; reason = None } in
    let at : slice_get c.args.trail.now c.args.place ≡ Some e = slice_get-get_or c.args.trail.now c.args.place _ c.requires.place in
    let own : IsOver n e.literal = over_at n c.args.trail.now c.args.place e c.requires.sound.kept.over at in
    let fits = literal_fits _ (literal-over n e.literal c.requires.small own).1 in
    let value : c.negation-negated.result ≡ neg_ℤ e.literal = rw (to_z-of_z _ _ fits) at c.negation-negated.ensures.value in
    let negated_fits = literal_fits _ (literal-over n (neg_ℤ e.literal) c.requires.small (negated-over n e.literal own)).1 in
    let found : marked ByKey c.args.marks.now (neg_ℤ e.literal) ≡ true = sym (rw (value, to_z-of_z _ _ negated_fits) at c.if-not-is_marked.ensures) in
    let told = c.requires.sound.reasons c.args.place e c.in-Some.number at c.in-Some.is in
    let clause = opened _ _ told in
    let added = rw (value, to_z-of_z _ _ negated_fits) at c.in_ok-resolve_with-in-Some.ensures.chain in
    let adds = added n c.args.trail.now clause.0 c.requires.sound.kept c.requires.located clause.1 (others_of c.args.trail.now c.args.place e.literal clause.0 clause.2) in
    let gives = rw (value, to_z-of_z _ _ negated_fits) at c.in_ok-resolve_with-in-Some.ensures.marks in
    let pushed = rw (value, to_z-of_z _ _ negated_fits) at c.in_ok-push-in-Some.ensures.items in
    λ first b.
    rw (pushed, adds.steps)
    (back_by_reason (all_clauses c.args.formula.now c.args.learned.now) c.args.trail.now first c.args.place e c.in-Some.number _ _ _ at found c.in-Some.is told gives b)

pub returns-clause-going : goal.returns-clause-going
returns-clause-going c =
    let n = c.args.formula.now.variables in
    let e = get_or c.args.trail.now c.args.place record { literal = pos 0; reason = None } in
    let at : slice_get c.args.trail.now c.args.place ≡ Some e = slice_get-get_or c.args.trail.now c.args.place _ c.requires.place in
    let own : IsOver n e.literal = over_at n c.args.trail.now c.args.place e c.requires.sound.kept.over at in
    let fits = literal_fits _ (literal-over n e.literal c.requires.small own).1 in
    let value : c.negation-negated.result ≡ neg_ℤ e.literal = rw (to_z-of_z _ _ fits) at c.negation-negated.ensures.value in
    let negated_fits = literal_fits _ (literal-over n (neg_ℤ e.literal) c.requires.small (negated-over n e.literal own)).1 in
    let found : marked ByKey c.args.marks.now (neg_ℤ e.literal) ≡ true = sym (rw (value, to_z-of_z _ _ negated_fits) at c.if-not-is_marked.ensures) in
    let told = c.requires.sound.reasons c.args.place e c.in-Some.number at c.in-Some.is in
    let clause = opened _ _ told in
    let added = rw (value, to_z-of_z _ _ negated_fits) at c.in_ok-resolve_with-in-Some.ensures.chain in
    let adds = added n c.args.trail.now clause.0 c.requires.sound.kept c.requires.located clause.1 (others_of c.args.trail.now c.args.place e.literal clause.0 clause.2) in
    let gives = rw (value, to_z-of_z _ _ negated_fits) at c.in_ok-resolve_with-in-Some.ensures.marks in
    λ late low g.
    going_resolved n c.args.trail.now c.requires.sound.kept c.args.place e at _ _ c.args.chain.now late low g clause.0 c.resolve_with.new.chain _ (gives clause.0 clause.1) adds refl refl refl

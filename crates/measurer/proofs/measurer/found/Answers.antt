use Rattle.std.proofs.Common.{refl, sym, subst, ◌∙◌}
use Rattle.measurer_hits.specs.hits.Hits.{AreHits, path_in}
use Rattle.measurer.specs.Known.{HasHits}
use Rattle.measurer.proofs.KnownHits.{all_along}
use Rattle.measurer.proofs.measurer.found.Goals as goal

pub returns-in-Some-clause-hits : goal.returns-in-Some-clause-hits
returns-in-Some-clause-hits c =
    let counted = sym c.is_counted.ensures ∙ c.if-not-is_counted.false in
    let has : HasHits c.args.plan.now (path_in c.args.run.now) c.in-Some.path.now.hits.items = c.in-Some.ensures c.args.plan.now c.requires.known in
    subst (AreHits c.args.plan.now c.args.ends c.args.run.now) (sym (c.in_ok-from_slice.ensures.items ∙ c.deref.ensures.value)) (has c.args.ends c.args.run.now refl counted)

pub returns-clause-hits : goal.returns-clause-hits
returns-clause-hits c =
    let counted = sym c.is_counted.ensures ∙ c.if-not-is_counted.false in
    record {
      rise = c.in_ok-hits.ensures.rises;
      exact = λ n. (
        λ h. (c.in_ok-gather.ensures c.args.ends counted n).0 ((c.in_ok-hits.ensures.same n).0 h),
        λ h. (c.in_ok-hits.ensures.same n).1 ((c.in_ok-gather.ensures c.args.ends counted n).1 h),
      );
    }

pub returns-clause-known : goal.returns-clause-known
returns-clause-known c =
    let counted = sym c.is_counted.ensures ∙ c.if-not-is_counted.false in
    c.keep-kept.ensures c.args.plan.now c.requires.known
    (subst (HasHits c.args.plan.now (path_in c.args.run.now)) (sym c.deref-2.ensures.value) (all_along c.args.plan.now c.args.ends c.args.run.now c.in_ok-hits.hits.items counted (returns-clause-hits c)))

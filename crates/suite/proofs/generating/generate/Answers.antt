use Rattle.std.proofs.Common.{◌≡◌, length, subst, sym}
use Rattle.std.proofs.lemmas.Result.{err_from_is_err_and}
use Rattle.suite.specs.Progress.{AreSmall}
use Rattle.suite.specs.Seeking.{AreAnsweredOf, Seeking}
use Rattle.suite.proofs.Generation.{all_generated, too_large}
use Rattle.suite.proofs.Short.{undecided_short}
use Rattle.suite.proofs.generating.generate.Goals as goal

pub returns-in_err-test_sizes-clause-refused : goal.returns-in_err-test_sizes-clause-refused
returns-in_err-test_sizes-clause-refused g c =
    let x = c.args.given.now in
    let e = x.planned.entry in
    let p = err_from_is_err_and c.from_residual-in_err-test_sizes.result c.from_residual-in_err-test_sizes.ensures.1 in
    rw (p.1, p.2) (too_large e.graph.now e.function.now x.planned.predicates x.planned.plan e.number x.bounds x.ends c.in_ok-unwound.unwound c.in_ok-unwound.ensures.accepted c.in_err-test_sizes.field-0.0 c.in_err-test_sizes.ensures.refused)

pub all_answered-requires : goal.all_answered-requires
all_answered-requires g c = subst (λ (s : Seeking). AreSmall s.goal.given.now.planned.plan s.pairs) (sym c.in_ok-sought.ensures) c.in_ok-test_sizes.ensures.small

pub returns-in-Ok-clause-generated : goal.returns-in-Ok-clause-generated
returns-in-Ok-clause-generated g c =
    let x = c.args.given.now in
    let e = x.planned.entry in
    let made = c.in-Ok.made in
    let before = g.W.Watch.seen c.args.watch.now in
    let after = g.W.Watch.seen c.all_answered.new.watch in
    let count = subst (λ (s : Seeking). length made.answers ≡ length s.goal.given.now.planned.plan.goals) c.in_ok-sought.ensures c.in-Ok.ensures.count in
    let answered = subst (λ (s : Seeking). AreAnsweredOf s.goal.given.now c.args.budget made before after) c.in_ok-sought.ensures c.in-Ok.ensures.answered in
    all_generated e.graph.now e.function.now x.planned.predicates x.planned.plan e.number x.bounds x.ends c.in_ok-unwound.unwound c.in_ok-unwound.ensures.accepted c.args.budget made before after c.in_ok-test_sizes.ensures.small count answered

pub returns-in-Ok-clause-enough : goal.returns-in-Ok-clause-enough
returns-in-Ok-clause-enough g c =
    let x = c.args.given.now in
    let e = x.planned.entry in
    let all = returns-in-Ok-clause-generated g c in
    undecided_short e.graph.now e.function.now x.planned.predicates x.planned.plan x.bounds x.ends c.args.budget c.in-Ok.made all.0 all.1

use Rattle.std.proofs.Common.{◌≡◌, ◌∙◌, ◌+◌, ◌-◌, ◌<◌, ℕ, List, [], ◌∷◌, Some, ap, length, length-append, subst, sym, arith}
use Rattle.std.specs.Prelude.{slice_get}
use Rattle.suite_problem.specs.declared.given.Given.{Given}
use Rattle.suite_problem.specs.declared.goal.Goal.{Goal}
use Rattle.goals.specs.declared.answer.Answer.{Answer}
use Rattle.measurer.specs.Measurers.{IsMadeFor}
use Rattle.suite.specs.Progress.{AnswersMore, IsNext, so_far}
use Rattle.suite.specs.Seeking.{IsGoalOf}
use Rattle.suite_problem.specs.declared.generated.Generated.{Generated}
use Rattle.suite.proofs.Answering.{all_begin, all_more, answers_kept, next_more}
use Rattle.suite.proofs.Firsts.{there_at}
use Rattle.suite.proofs.RoundLaws.{same_after, same_as, same_given, same_turned}
use Rattle.suite.proofs.generating.all_answered.Goals as goal

pub loop-place-init : goal.loop-place-init
loop-place-init g c =
    let a = c.args.sought.now in
    let x = a.goal.given.now in
    let e = x.planned.entry in
    let filled = c.fill_first.new.sought in
    let early = c.try_all.new.sought in
    let late = c.try_all-2.new.sought in
    let same = same_after a early late (same_after a filled early (same_as a filled c.fill_first.ensures) c.try_all.ensures) c.try_all-2.ensures in
    let given = ap (λ (y : Goal). y.given.now) c.goal.ensures ∙ same_given a late same in
    let made = c.in_ok-making.making in
    record {
      same = same;
      plan = subst (λ (y : Given). IsMadeFor y.planned.plan made.measurer) given c.in_ok-making.ensures.plan;
      count = ap (λ (m : Generated). length m.answers) c.in_ok-making.ensures.nothing;
      answered = all_begin e.graph.now e.function.now x.planned.predicates x.planned.plan x.bounds x.ends c.args.budget (so_far made) (g.W.Watch.seen c.args.watch.now) c.in_ok-making.ensures.nothing;
    }

pub loop-place-preserved : goal.loop-place-preserved
loop-place-preserved g c =
    let a = c.args.sought.now in
    let x = a.goal.given.now in
    let e = x.planned.entry in
    let goals = x.planned.plan.goals in
    let before_turn = c.loop-place.sought in
    let turned = c.turn_to.new.self in
    let after_turn = same_after a before_turn turned c.loop-place.invariant.same (same_turned before_turn turned (c.loop-place.place + 1) c.turn_to.ensures) in
    let same = same_after a turned c.next_answer.new.sought after_turn (same_as turned c.next_answer.new.sought c.in_ok-answer.ensures.same) in
    let given : turned.goal.given.now ≡ x = same_given a turned after_turn in
    let filled = c.fill_first.new.sought in
    let early = c.try_all.new.sought in
    let late = c.try_all-2.new.sought in
    let late_same = same_after a early late (same_after a filled early (same_as a filled c.fill_first.ensures) c.try_all.ensures) c.try_all-2.ensures in
    let many = c.goal_count-place-end.ensures ∙ ap (λ (y : Given). length y.planned.plan.goals) (same_given a late late_same) in
    let old = so_far c.loop-place.making in
    let mid = so_far c.next_answer.new.making in
    let answer = c.in_ok-answer.answer in
    let first = g.W.Watch.seen c.args.watch.now in
    let before = g.W.Watch.seen c.loop-place.watch in
    let after = g.W.Watch.seen c.next_answer.new.watch in
    let count = c.loop-place.invariant.count in
    let test = c.loop-place-test.true in
    let within : length old.answers < length goals = omega (arith, count, test, many) in
    let own = there_at goals (length old.answers) within in
    let number : turned.goal.number ≡ length old.answers + 1 = c.turn_to.ensures.number_is ∙ ap (λ k. k + 1) (sym count) in
    let index : length old.answers + 1 - 1 ≡ length old.answers = omega arith in
    let here : slice_get turned.goal.given.now.planned.plan.goals (length old.answers + 1 - 1) ≡ Some own.0 =
    subst (λ (y : Given). slice_get y.planned.plan.goals (length old.answers + 1 - 1) ≡ Some own.0) (sym given) (ap (slice_get goals) index ∙ own.1) in
    let is : IsGoalOf turned.goal own.0 = subst (λ (n : ℕ). slice_get turned.goal.given.now.planned.plan.goals (n - 1) ≡ Some own.0) (sym number) here in
    let Next : Given → ℕ → Type 0 = λ y n. IsNext y.planned.entry.graph.now y.planned.entry.function.now y.planned.predicates y.planned.plan y.bounds y.ends c.args.budget n own.0 old mid before after answer in
    let next : Next x (length old.answers + 1) = subst (Next x) number (subst (λ (y : Given). Next y turned.goal.number) given (c.in_ok-answer.ensures.next own.0 is)) in
    let kept = answers_kept e.graph.now e.function.now x.planned.predicates x.planned.plan x.bounds x.ends c.args.budget (length old.answers + 1) own.0 old mid before after answer next in
    let New : List Answer → Generated = λ xs. record { answers = xs; inputs = mid.inputs; taken = mid.taken; hits = mid.hits } in
    record {
      same = same;
      plan = subst (λ (y : Given). IsMadeFor y.planned.plan c.next_answer.new.making.measurer) given c.in_ok-answer.ensures.plan;
      count =
          ap length c.in_ok-push.ensures.ok ∙ length-append c.next_answer.new.making.answers (answer ∷ [])
          ∙ ap (λ (xs : List Answer). length xs + 1) kept ∙ ap (λ n. n + 1) count;
      answered =
          all_more e.graph.now e.function.now x.planned.predicates x.planned.plan x.bounds x.ends c.args.budget old (New c.push.new.self) first before after c.loop-place.invariant.answered
          (λ made_for shown h.
          let more = next_more e.graph.now e.function.now x.planned.predicates x.planned.plan x.bounds x.ends c.args.budget old made_for shown h own.0 own.1 mid before after answer next in
          subst (λ (xs : List Answer). AnswersMore e.graph.now e.function.now x.planned.predicates x.planned.plan x.bounds x.ends c.args.budget (New xs) shown before after) (sym c.in_ok-push.ensures.ok) more);
    }

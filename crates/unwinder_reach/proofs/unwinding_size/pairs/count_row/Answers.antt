use Rattle.std.proofs.Common.{◌≡◌, ℕ, ◌+◌, ◌<◌, nat_eq, cond, take, length, get_or, ap, ◌∙◌, arith}
use Rattle.std.specs.Prelude.{count_by}
use Rattle.unwinder_reach.specs.declared.reached.step.Step.{Step}
use Rattle.unwinder_reach.specs.unwinding_size.Capped.{capped}
use Rattle.unwinder_reach.proofs.unwinding_size.SumLaws.{count_more}
use Rattle.unwinder_reach.proofs.unwinding_size.pairs.count_row.Goals as goal

pub loop-step-preserved : goal.loop-step-preserved
loop-step-preserved c = (
  c.count_step.ensures.length ∙ c.loop-step.invariant.0,
  λ k n within own.
      let before : ℕ = count_by (λ (s : Step). nat_eq s.to k) (take c.loop-step.step-index c.args.row.now) in
      let long = c.loop-step.invariant.0 in
      let inside : k < length c.loop-step.arrivals.items = omega arith in
      let more = count_more (λ (s : Step). nat_eq s.to k) c.args.row.now c.loop-step.step-index (record { edge = 0; to = 0 }) c.loop-step-test.true in
      let all : (n + before) + cond (nat_eq (get_or c.args.row.now c.loop-step.step-index (record { edge = 0; to = 0 })).to k) 1 0 ≡ n + count_by (λ (s : Step). nat_eq s.to k) (take (c.loop-step.step-index + 1) c.args.row.now) =
      omega (arith, more) in
      c.count_step.ensures.each k (n + before) inside (c.loop-step.invariant.1 k n within own) ∙ ap capped all,
)

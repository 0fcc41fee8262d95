-- What a whole generation comes to.
use Rattle.std.proofs.Common.{◌≡◌, ℕ, ◌<◌, ◌≤◌, inr, Option, List, length, subst}
use Rattle.c_meaning.specs.declared.ends.Ends.{Ends}
use Rattle.cfa.specs.declared.parts.Function.{Function}
use Rattle.cfa.specs.declared.parts.GraphParts.{GraphParts}
use Rattle.cfa.specs.declared.state.Predicates.{Predicates}
use Rattle.fq_core.specs.declared.refusal.Fault.{Fault}
use Rattle.fq_core.specs.declared.refusal.Fault.TheVariants as fault
use Rattle.goal_formula.specs.Sizes.{goal_size}
use Rattle.goals.specs.declared.plan.Plan.{Plan}
use Rattle.unwinder_reach.specs.declared.reached.bounds.Bounds.{Bounds}
use Rattle.unwinder.specs.Unwinding.{IsUnwound}
use Rattle.unwinder.specs.declared.unwound.Unwound.{Unwound}
use Rattle.suite.specs.Generated.{IsGenerateFault, IsGenerated, Shown, seen_also}
use Rattle.suite.specs.Progress.{AllAnswered, AreSmall, IsSizeFault}
use Rattle.suite_problem.specs.declared.generated.Generated.{Generated}

module _ (parts : GraphParts) (f : Function) (p : Predicates) (plan : Plan) (entry : ℕ) (bounds : Bounds) (ends : Ends) (u : Unwound) (h : IsUnwound parts p f entry bounds ends u) where
  -- a goal that is too large over the unwinding
  pub too_large : (x : Fault) → IsSizeFault plan u.pairs x → IsGenerateFault parts f p plan bounds ends x
  too_large (fault.Refused r) (is, large) = inr (
    is,
    record {
      pairs = h.pairs;
      steps = h.steps;
      reached = h.reached;
      few_pairs = h.few_pairs;
      small = h.small;
      place = large.place;
      goal = large.goal;
      there = large.there;
      large = subst (λ n. 8388608 < goal_size plan large.goal n) h.pair_count large.large;
    },
  )
  too_large fault.Memory is = tt

  pub all_generated : (budget : ℕ) (made : Generated) (before after : Option (List Shown)) → AreSmall plan u.pairs → length made.answers ≡ length plan.goals
      → AllAnswered parts f p plan bounds ends budget made before after → (shown : List Shown) × IsGenerated parts f p plan bounds ends budget made shown × (after ≡ seen_also before shown)
  all_generated budget made before after small count it = (
    it.shown,
    record {
      limits = record {
        pairs = h.pairs;
        steps = h.steps;
        reached = h.reached;
        few_pairs = h.few_pairs;
        small = h.small;
        goals = λ place goal there. subst (λ n. goal_size plan goal n ≤ 8388608) h.pair_count (small place goal there);
      };
      answer_count = count;
      made_for = it.made_for;
      answered = it.answered;
    },
    it.seen,
  )

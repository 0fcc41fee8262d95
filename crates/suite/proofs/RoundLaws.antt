-- One goal after another of the same.
use Rattle.std.proofs.Common.{◌≡◌, ◌∙◌, ◌+◌, ◌-◌, ◌<◌, ℕ, ap, length, subst, sym, arith}
use Rattle.suite_problem.specs.declared.given.Given.{Given}
use Rattle.suite.specs.Progress.{AreSmall}
use Rattle.suite.specs.Seeking.{CanTurn, IsOfSame, IsTurned, Seeking}

pub same_as : (a b : Seeking) → b ≡ a → IsOfSame a b
same_as a b is = record { given = ap (λ (s : Seeking). s.goal.given) is; pairs = ap (λ (s : Seeking). s.pairs) is }

pub same_turned : (a b : Seeking) (number : ℕ) → IsTurned a number b → IsOfSame a b
same_turned a b number is = record { given = is.given; pairs = is.pairs }

pub same_after : (a b c : Seeking) → IsOfSame a b → IsOfSame b c → IsOfSame a c
same_after a b c first then = record { given = then.given ∙ first.given; pairs = then.pairs ∙ first.pairs }

pub same_given : (a b : Seeking) → IsOfSame a b → b.goal.given.now ≡ a.goal.given.now
same_given a b is = ap (λ g. g.now) is.given

pub small_still : (a b : Seeking) → IsOfSame a b → AreSmall a.goal.given.now.planned.plan a.pairs → AreSmall b.goal.given.now.planned.plan b.pairs
small_still a b is small =
    let by_pairs = subst (λ (n : ℕ). AreSmall a.goal.given.now.planned.plan n) (sym is.pairs) small in
    subst (λ (g : Given). AreSmall g.planned.plan b.pairs) (sym (same_given a b is)) by_pairs

-- there is a goal at a place, and it is small
pub can_turn : (a b : Seeking) (place : ℕ) → IsOfSame a b → AreSmall a.goal.given.now.planned.plan a.pairs → place < length a.goal.given.now.planned.plan.goals → CanTurn b (place + 1)
can_turn a b place is small within =
    let here : place < length b.goal.given.now.planned.plan.goals = subst (λ (g : Given). place < length g.planned.plan.goals) (sym (same_given a b is)) within in
    record {
      some = omega arith;
      there = omega (arith, here);
      small = λ form at. small_still a b is small (place + 1 - 1) form at;
    }

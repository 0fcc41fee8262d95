use Rattle.std.proofs.Common.{ℕ, ◌-◌, ◌<◌, ◌≤◌}
use Rattle.search.specs.Watching.{IsDecidedAt}
use Rattle.search.proofs.conflict.last_decision.Given as goal

abbrev pub invariant-loop-back : goal.invariant-loop-back
invariant-loop-back l = (d : ℕ) → IsDecidedAt l.trail d → l.reach - l.back ≤ d → d < l.reach → ⊥

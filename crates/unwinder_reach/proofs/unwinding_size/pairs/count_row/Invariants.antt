use Rattle.std.proofs.Common.{◌≡◌, ℕ, ◌+◌, ◌<◌, nat_eq, take, length, get_or}
use Rattle.std.specs.Prelude.{count_by}
use Rattle.unwinder_reach.specs.declared.reached.step.Step.{Step}
use Rattle.unwinder_reach.specs.unwinding_size.Capped.{capped}
use Rattle.unwinder_reach.proofs.unwinding_size.pairs.count_row.Given as goal

abbrev pub invariant-loop-step : goal.invariant-loop-step
invariant-loop-step l =
    (length l.arrivals.items ≡ length l.fn.arrivals.items)
    × ((k n : ℕ) → k < length l.fn.arrivals.items → get_or l.fn.arrivals.items k 0 ≡ capped n → get_or l.arrivals.items k 0 ≡ capped (n + count_by (λ (s : Step). nat_eq s.to k) (take l.step-index l.row)))

use Rattle.std.proofs.Common.{◌≡◌, ℕ, ◌<◌, nat_eq, take, length, get_or}
use Rattle.std.specs.Prelude.{sum_by, count_by}
use Rattle.unwinder_reach.specs.declared.reached.step.Step.{Step}
use Rattle.unwinder_reach.specs.unwinding_size.Capped.{capped}
use Rattle.unwinder_reach.proofs.unwinding_size.pairs.arrivals.Given as goal

abbrev pub invariant-loop-row : goal.invariant-loop-row
invariant-loop-row l =
    (length l.table.items ≡ length l.reached.pairs)
    × ((k : ℕ) → k < length l.reached.pairs → get_or l.table.items k 0 ≡ capped (sum_by (λ row. count_by (λ (s : Step). nat_eq s.to k) row) (take l.row-index l.row-items)))

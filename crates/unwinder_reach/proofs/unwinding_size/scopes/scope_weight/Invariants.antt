use Rattle.std.proofs.Common.{◌≡◌, take}
use Rattle.std.specs.Prelude.{sum_by, slice_get}
use Rattle.unwinder_reach.specs.unwinding_size.Capped.{capped}
use Rattle.unwinder_reach.specs.unwinding_size.Sizes.{meaning_weight}
use Rattle.unwinder_reach.proofs.unwinding_size.scopes.scope_weight.Given as goal

abbrev pub invariant-loop-row : goal.invariant-loop-row
invariant-loop-row l = l.total ≡ capped (sum_by (λ row. meaning_weight (slice_get row l.scope)) (take l.row-index l.row-items))

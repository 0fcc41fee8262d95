use Rattle.std.proofs.Common.{◌≡◌, ℕ, ◌<◌, get_or}
use Rattle.std.specs.Prelude.{vec_len}
use Rattle.unwinder_reach.specs.unwinding_size.Capped.{capped}
use Rattle.unwinder_reach.specs.unwinding_size.Sizes.{scope_weight}
use Rattle.unwinder_reach.proofs.unwinding_size.scopes.scope_weights.Given as goal

abbrev pub invariant-loop-scope : goal.invariant-loop-scope
invariant-loop-scope l = (vec_len l.table ≡ l.scope) × ((k : ℕ) → k < l.scope → get_or l.table.items k 0 ≡ capped (scope_weight l.predicates k))

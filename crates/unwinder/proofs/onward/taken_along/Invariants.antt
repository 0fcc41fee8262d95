use Rattle.std.proofs.Common.{◌≡◌, ℕ, ◌<◌, Some}
use Rattle.std.specs.Prelude.{slice_get}
use Rattle.sym_expr.specs.declared.sym_steps.state.Way.{Way}
use Rattle.unwinder.proofs.onward.taken_along.Given as goal

abbrev pub invariant-loop-i : goal.invariant-loop-i
invariant-loop-i l = (k : ℕ) (way : Way) → k < l.i → slice_get l.ways k ≡ Some way → way.edge ≡ l.edge → ⊥

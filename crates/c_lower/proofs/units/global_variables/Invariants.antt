use Rattle.std.proofs.Common.{◌≡◌, ◌≤◌, map, length, drop}
use Rattle.c_typed_trees.specs.declared.unit.Global.{Global}
use Rattle.c_lower.proofs.units.global_variables.Given as goal

abbrev pub invariant-loop-i : goal.invariant-loop-i
invariant-loop-i l = record { within : l.i ≤ length l.globals; chain : l.chain ≡ map (λ (g : Global). g.variable) (drop l.i l.globals) }

abbrev pub decreases-loop-i : goal.decreases-loop-i
decreases-loop-i l = l.i

use Rattle.std.proofs.Common.{◌≡◌, map, take}
use Rattle.std.specs.List.{flat_map}
use Rattle.c_typed_trees.specs.declared.unit.Global.{Global}
use Rattle.c_lower.proofs.units.global_cells.Given as goal

abbrev pub invariant-loop-global : goal.invariant-loop-global
invariant-loop-global l = l.cells ≡ flat_map (λ (g : Global). map (λ value. (g.variable.kind, value)) g.first) (take l.global-index l.globals)

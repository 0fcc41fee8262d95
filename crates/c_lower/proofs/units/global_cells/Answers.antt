use Rattle.std.proofs.Common.{◌++◌, ◌∙◌, map, ap}
use Rattle.c_typed_trees.specs.declared.unit.Global.{Global}
use Rattle.c_lower.proofs.UnitLaws.{cells_more}
use Rattle.c_lower.proofs.units.global_cells.Goals as goal

pub loop-global-preserved : goal.loop-global-preserved
loop-global-preserved c =
    cells_more (λ (g : Global). map (λ value. (g.variable.kind, value)) g.first) c.args.globals.now c.loop-global.global-index c.global-item.result c.loop-global.cells c.cells_of.new.cells c.loop-global-test.true c.global-item.is c.loop-global.invariant
    (c.in_ok-cells_of.ensures ∙ ap (λ first. c.loop-global.cells ++ map (λ value. (c.global-item.result.variable.kind, value)) first) c.deref.ensures)

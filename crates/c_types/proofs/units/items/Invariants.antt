use Rattle.std.proofs.Common.{drop}
use Rattle.c_types.proofs.UnitLaws.{Left}
use Rattle.c_types.proofs.units.items.Given as goal

abbrev pub invariant-loop-tree : goal.invariant-loop-tree
invariant-loop-tree l = Left l.program l.trees l.initial.typer (drop l.tree-index l.trees) l.parts l.typer

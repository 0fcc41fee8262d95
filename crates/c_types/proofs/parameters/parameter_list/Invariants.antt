use Rattle.std.proofs.Common.{drop}
use Rattle.c_types.proofs.ParameterLaws.{Left}
use Rattle.c_types.proofs.parameters.parameter_list.Given as goal

abbrev pub invariant-loop-tree : goal.invariant-loop-tree
invariant-loop-tree l = Left l.defined l.trees l.initial.typer (drop l.tree-index l.trees) l.cell l.lent l.variables l.typer

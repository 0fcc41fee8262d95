use Rattle.std.proofs.Common.{◌≡◌, ◌++◌}
use Rattle.c_types.proofs.scoped.row_of.Given as goal

abbrev pub invariant-loop-variable : goal.invariant-loop-variable
invariant-loop-variable l = l.row ++ l.variable-iterator ≡ l.variables

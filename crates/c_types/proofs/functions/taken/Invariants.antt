use Rattle.std.proofs.Common.{◌≡◌, ◌++◌, map, drop}
use Rattle.c_types.specs.Functions.{taken}
use Rattle.c_types.proofs.functions.taken.Given as goal

abbrev pub invariant-loop-variable : goal.invariant-loop-variable
invariant-loop-variable l = l.list ++ map taken (drop l.variable-index l.variables) ≡ map taken l.variables

use Rattle.std.proofs.Common.{take}
use Rattle.least_input.specs.Parts.{IsDescent}
use Rattle.least_input.proofs.lowest.lower_all.Given as goal

abbrev pub invariant-loop-variable : goal.invariant-loop-variable
invariant-loop-variable l = IsDescent l.fn.descent.formula l.budget (take l.variable-index l.variables) l.descent

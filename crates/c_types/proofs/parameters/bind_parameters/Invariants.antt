use Rattle.std.proofs.Common.{◌≡◌, drop}
use Rattle.c_type_rules.specs.Rule.{after}
use Rattle.c_types.specs.Functions.{bind_parameters}
use Rattle.c_types.proofs.parameters.bind_parameters.Given as goal

abbrev pub invariant-loop-variable : goal.invariant-loop-variable
invariant-loop-variable l = after (bind_parameters (drop l.variable-index l.variables)) l.typer ≡ after (bind_parameters l.variables) l.initial.typer

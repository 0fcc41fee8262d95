use Rattle.std.proofs.Common.{sym, ap, ◌∙◌, ◌+◌, drop}
use Rattle.c_type_rules.specs.Rule.{after}
use Rattle.c_types.specs.Functions.{bind_parameters}
use Rattle.c_types.proofs.ParameterLaws.{bound_end, bound_more}
use Rattle.c_types.proofs.parameters.bind_parameters.Goals as goal

pub loop-variable-preserved : goal.loop-variable-preserved
loop-variable-preserved c =
    ap (after (bind_parameters (drop (c.loop-variable.variable-index + 1) c.args.variables.now))) c.in_ok-bind_variable.ensures
    ∙ sym (bound_more c.args.variables.now c.loop-variable.variable-index c.loop-variable.typer c.variable-item.result c.loop-variable-test.true c.variable-item.is)
    ∙ c.loop-variable.invariant

pub returns : goal.returns
returns c = sym (bound_end c.args.variables.now c.loop-variable.variable-index c.loop-variable.typer c.loop-variable-test.false) ∙ c.loop-variable.invariant

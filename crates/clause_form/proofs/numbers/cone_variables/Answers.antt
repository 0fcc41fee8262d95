use Rattle.std.proofs.Common.{◌≤◌, ◌^◌, length, ◌∙◌, arith}
use Rattle.clause_form.proofs.ConeLaws.{behind_first, root_variable, variable_in_cone, variables}
use Rattle.clause_form.proofs.ClauseLaws.{few_variables}
use Rattle.clause_form.proofs.numbers.cone_variables.Goals as goal

pub returns : goal.returns
returns c =
    let marked = c.in_ok-made.ensures.marked ∙ behind_first c.deref.result.now c.in_ok-marks.marks.items c.deref.ensures.value in
    let numbers = c.in_ok-made.ensures.numbers in
    let made = c.in_ok-made.made in
    let are = variables c.args.circuit.now c.args.root c.in_ok-marks.marks.items made.variable made.count c.in_ok-marks.ensures marked numbers in
    let few : made.count ≤ length c.args.circuit.now = few_variables _ _ _ are in
    let small : made.count ≤ 2 ^ 30 = omega (arith, c.requires.few) in
    record {
      variables = are;
      cone = variable_in_cone c.args.circuit.now c.args.root c.in_ok-marks.marks.items made.variable made.count c.in_ok-marks.ensures marked;
      root = root_variable c.args.circuit.now c.args.root c.in_ok-marks.marks.items made.variable made.count c.in_ok-marks.ensures marked numbers small;
      few = few;
    }

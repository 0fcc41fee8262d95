use Rattle.std.proofs.Common.{◌∙◌}
use Rattle.cfa.specs.declared.parts.Variable.{Variable}
use Rattle.c_lower.proofs.UnitLaws.{none_more, one_more}
use Rattle.c_lower.proofs.units.array_lengths.Goals as goal
use Rattle.c_lower.proofs.units.array_lengths.Goals.{in-None, in-Some+in_ok-push-in-Some}

pub loop-parameter-preserved : goal.loop-parameter-preserved
loop-parameter-preserved c =
    let h : Variable → _ = λ v. v.length in
    elim c.match-parameter.branch [
      | in-None w ↦ w.lengths-is ∙ none_more h c.args.parameters.now c.loop-parameter.parameter-index c.parameter-item.result c.loop-parameter.lengths c.loop-parameter-test.true c.parameter-item.is c.loop-parameter.invariant w.in-None.is
      | in-Some+in_ok-push-in-Some w ↦
          w.lengths-is ∙ one_more h c.args.parameters.now c.loop-parameter.parameter-index c.parameter-item.result c.loop-parameter.lengths c.loop-parameter-test.true c.parameter-item.is c.loop-parameter.invariant _ w.push.new.self w.in-Some.is w.in_ok-push-in-Some.ensures.ok
    ]

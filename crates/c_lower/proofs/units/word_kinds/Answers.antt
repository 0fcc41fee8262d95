use Rattle.std.proofs.Common.{◌∙◌}
use Rattle.c_lower_rules.specs.graph_of.GraphOf.{word_kind}
use Rattle.c_lower.proofs.UnitLaws.{none_more, one_more, word_at, no_word}
use Rattle.c_lower.proofs.units.word_kinds.Goals as goal
use Rattle.c_lower.proofs.units.word_kinds.Goals.{in-None+in_ok-push-in-None, in-Some}

pub loop-parameter-preserved : goal.loop-parameter-preserved
loop-parameter-preserved c =
    let v = c.parameter-item.result in
    elim c.match-parameter.branch [
      | in-None+in_ok-push-in-None w ↦
          w.kinds-is ∙ one_more word_kind c.args.parameters.now c.loop-parameter.parameter-index v c.loop-parameter.kinds c.loop-parameter-test.true c.parameter-item.is c.loop-parameter.invariant v.kind w.push.new.self (word_at v w.in-None.is) w.in_ok-push-in-None.ensures.ok
      | in-Some w ↦ w.kinds-is ∙ none_more word_kind c.args.parameters.now c.loop-parameter.parameter-index v c.loop-parameter.kinds c.loop-parameter-test.true c.parameter-item.is c.loop-parameter.invariant (no_word v _ w.in-Some.is)
    ]

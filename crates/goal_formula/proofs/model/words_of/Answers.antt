use Rattle.std.proofs.Common.{false, sym, subst, ◌<◌, ◌^◌}
use Rattle.goal_formula.specs.Bits.{assignment}
use Rattle.goal_formula.proofs.InputWorlds.{number_few}
use Rattle.goal_formula.proofs.Models.{long_value, row_few, words_pushed}
use Rattle.goal_formula.proofs.model.words_of.Goals as goal

pub number_of-pattern-requires : goal.number_of-pattern-requires
number_of-pattern-requires c = row_few c.args.kinds.now c.args.rows.now c.loop-at.at c.index-rows-at.result c.deref.result.now c.requires.rows c.requires.kinds c.loop-at-test.true c.index-rows-at.is c.deref.ensures

pub convert-requires-clause-operand : goal.convert-requires-clause-operand
convert-requires-clause-operand c =
    let few = row_few c.args.kinds.now c.args.rows.now c.loop-at.at c.index-rows-at.result c.deref.result.now c.requires.rows c.requires.kinds c.loop-at-test.true c.index-rows-at.is c.deref.ensures in
    long_value c.number_of-pattern.result (subst (λ n. n < 2 ^ 64) (sym c.number_of-pattern.ensures.value) (number_few (assignment c.args.model.now) c.deref.result.now 64 few))

pub loop-at-preserved : goal.loop-at-preserved
loop-at-preserved c =
    words_pushed (assignment c.args.model.now) c.args.kinds.now c.args.rows.now c.loop-at.at c.loop-at.words c.push.new.self (record { width = 0; signed = false }) c.index-rows-at.result c.deref.result.now c.number_of-pattern.result c.convert.result
    c.loop-at-test.true c.requires.rows c.requires.kinds c.index-rows-at.is c.deref.ensures c.number_of-pattern.ensures.value c.convert.ensures.value c.loop-at.invariant c.in_ok-push.ensures.ok

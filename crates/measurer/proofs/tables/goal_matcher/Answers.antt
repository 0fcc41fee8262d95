use Rattle.std.proofs.Common.{sym, ap, subst}
use Rattle.patterns.specs.Letters.{form}
use Rattle.measurer.specs.Openings.{IsOpening}
use Rattle.measurer.proofs.WordOpenings.{goal_opening}
use Rattle.measurer.proofs.tables.goal_matcher.Goals as goal

pub matcher_of-requires : goal.matcher_of-requires
matcher_of-requires c =
    subst (IsOpening c.opening_of-opening.result c.args.first) (sym (ap form c.in_ok-pattern.ensures))
    (goal_opening c.args.goal.now c.args.first c.word.result.now c.opening_of-opening.result c.pattern_is_of_word.ensures c.word.ensures c.opening_of-opening.ensures)

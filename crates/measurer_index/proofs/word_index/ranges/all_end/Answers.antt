use Rattle.std.proofs.Common.{◌∙◌, sym, eqb-true}
use Rattle.measurer_index.proofs.word_index.Keys.{ended_is}
use Rattle.measurer_index.proofs.word_index.ranges.all_end.Goals as goal

pub returns-else-group : goal.returns-else-group
returns-else-group c ends group = ended_is c.args.goals.now c.args.order.now c.args.group group c.if-group.false (sym c.key_at.ensures ∙ eqb-true _ 0 ends)

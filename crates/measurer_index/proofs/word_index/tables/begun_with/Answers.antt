use Rattle.std.proofs.Common.{ap, sym, ◌∙◌}
use Rattle.std.specs.Option.{option_copied}
use Rattle.measurer_index.proofs.word_index.Begun.{none_begun}
use Rattle.measurer_index.proofs.word_index.tables.begun_with.Goals as goal

pub returns-in-Some : goal.returns-in-Some
returns-in-Some c goals are = are.at c.args.number c.in-Some.group.now (sym c.get.ensures ∙ ap option_copied c.in-Some.is)

pub returns-in-None : goal.returns-in-None
returns-in-None c goals are = none_begun goals c.args.order.now c.args.absents c.args.edges c.args.groups.now c.args.number (sym c.get.ensures ∙ ap option_copied c.in-None.is) are

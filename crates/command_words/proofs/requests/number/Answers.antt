use Rattle.std.proofs.Common.{sym, ◌∙◌}
use Rattle.command_words.proofs.Numbers.{number_in-unread}
use Rattle.command_words.proofs.requests.number.Goals as goal

pub returns-in_default : goal.returns-in_default
returns-in_default c =
    number_in-unread c.args.least c.args.most c.args.text.now c.in_default.field-0 c.ranges.most.fits (sym c.is_numeral.ensures ∙ c.if-not-is_numeral.false)
    c.in_default.ensures.value.0

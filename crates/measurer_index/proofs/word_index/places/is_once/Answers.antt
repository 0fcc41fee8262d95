use Rattle.std.proofs.Common.{◌∙◌, sym, ap}
use Rattle.std.specs.Option.{option_copied}
use Rattle.measurer_index.proofs.word_index.places.is_once.Goals as goal

pub returns-then-not-last : goal.returns-then-not-last
returns-then-not-last c = λ ends. (c.if-not-last.true, (c.in-Some.group.now, (sym c.get.ensures ∙ ap option_copied c.in-Some.is, c.all_end.ensures ends)))

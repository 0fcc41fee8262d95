use Rattle.std.proofs.Common.{sym, subst}
use Rattle.measurer_index.specs.gap_words.Parts.{IsFirstStartOrNone}
use Rattle.measurer_index.proofs.gap_words.parts.last_start.Goals as goal

pub returns-then-last : goal.returns-then-last
returns-then-last c = subst (λ l. IsFirstStartOrNone c.args.path.now l c.args.part.now c.args.start c.start_to_last.result) (sym c.if-last.true) c.start_to_last.ensures

pub returns-else-last : goal.returns-else-last
returns-else-last c = subst (λ l. IsFirstStartOrNone c.args.path.now l c.args.part.now c.args.start c.first_start.result) (sym c.if-last.false) c.first_start.ensures

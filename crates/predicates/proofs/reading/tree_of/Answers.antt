use Rattle.predicates.proofs.ReadTexts.{expression_refused}
use Rattle.predicates.proofs.reading.tree_of.Goals as goal

pub returns-in_default : goal.returns-in_default
returns-in_default c = rw c.in_default.is at c.in_ok-tokens.ensures

pub returns-in-Err-Refused : goal.returns-in-Err-Refused
returns-in-Err-Refused c =
    expression_refused c.args.text.now c.in-Some.tokens.items _ c.in-Err-Refused.field-0-0 (rw c.in-Some.is at c.in_ok-tokens.ensures)
    (rw c.as_slice.ensures.value at c.in-Err-Refused.ensures.refused) c.in-Err-Refused.field-0-is

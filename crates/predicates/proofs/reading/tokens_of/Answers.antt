use Rattle.predicates.proofs.ReadTexts.{source_refused}
use Rattle.predicates.proofs.reading.tokens_of.Goals as goal

pub returns-in-Err-Refused : goal.returns-in-Err-Refused
returns-in-Err-Refused c =
    source_refused c.args.text.now c.in_ok-source_with.field-0 _ c.in-Err-Refused.field-0-0 c.in_ok-source_with.ensures c.in-Err-Refused.ensures
    c.in-Err-Refused.field-0-is

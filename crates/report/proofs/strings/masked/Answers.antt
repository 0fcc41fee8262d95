use Rattle.report.proofs.JsonTexts.{masked_more}
use Rattle.report.proofs.strings.masked.Goals as goal

pub loop-byte-preserved : goal.loop-byte-preserved
loop-byte-preserved c =
    masked_more _ _ _ _ _ _ _ c.loop-byte-test.true c.masked_char.ensures c.in_ok-push.ensures.bytes c.loop-byte.invariant

use Rattle.command.proofs.ReadsLaws.{unread_failed, unread_past}
use Rattle.command.proofs.sources.read.Goals as goal

pub returns-in-Err-TooLong-clause-unread : goal.returns-in-Err-TooLong-clause-unread
returns-in-Err-TooLong-clause-unread g c =
    let named = rw (c.in_ok-name.ensures, c.as_bytes.ensures.value) at c.file_refusal.ensures in
    let long = rw c.in-Err-TooLong.field-0-is at c.in-Err-TooLong.ensures.too_long in
    let received = rw c.in-Err-TooLong.field-0-is at c.in-Err-TooLong.ensures.too_long_received in
    unread_past _ _ _ _ named (record { long = long; received = received })

pub returns-in-Err-Failed-clause-unread : goal.returns-in-Err-Failed-clause-unread
returns-in-Err-Failed-clause-unread g c =
    let named = rw (c.in_ok-name.ensures, c.as_bytes.ensures.value) at c.file_refusal-in-Err-Failed.ensures in
    let last = rw c.in-Err-Failed.field-0-is at c.in-Err-Failed.ensures.failed_name in
    let rose = rw c.in-Err-Failed.field-0-is at c.in-Err-Failed.ensures.failed in
    unread_failed _ _ _ _ named (record { last = last; rose = rose })

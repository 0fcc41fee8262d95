use Rattle.command.proofs.Ended.{ends_refused, ends_reply}
use Rattle.command.proofs.StatusLaws.{refusal_coded}
use Rattle.command.proofs.command.serve.Goals as goal

pub refuse-requires : goal.refuse-requires
refuse-requires g c =
    let given = rw c.in-Err-Refused.field-0-is at c.in-Err-Refused.ensures in
    refusal_coded c.refused_by_these_codes.ensures _ _ _ c.in-Err-Refused.refusal given.0

pub returns-in-Ok : goal.returns-in-Ok
returns-in-Ok g c =
    let given = c.in-Ok.ensures in
    ends_reply _ c.in-Ok.reply _ _ _ _ given.0 given.1 given.2 c.write_reply.ensures

pub returns-in-Err-Refused : goal.returns-in-Err-Refused
returns-in-Err-Refused g c =
    let given = rw (c.in-Err-Refused.field-0-is, ← c.sources_of.ensures) at c.in-Err-Refused.ensures in
    ends_refused g.O.Sink c.args.out.now _ _ _ _ _ _ given.0 given.1 c.refuse.ensures

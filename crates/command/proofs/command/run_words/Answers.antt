use Rattle.std.proofs.Common.{[], refl}
use Rattle.command_words.specs.Reading.{texts}
use Rattle.command.specs.Due.{IsDue}
use Rattle.command.specs.Reads.{reads}
use Rattle.command.proofs.DueLaws.{due_nowhere}
use Rattle.command.proofs.Ended.{due_asked, due_usage, ends_refused}
use Rattle.command.proofs.RangeLaws.{in_range}
use Rattle.command.proofs.command.run_words.Goals as goal

pub serve-requires : goal.serve-requires
serve-requires g c = in_range _ (texts c.args.words.now) c.in-Ok.ensures.ok

pub refuse-requires : goal.refuse-requires
refuse-requires g c = rw c.nowhere.ensures refl

pub returns-in-Ok : goal.returns-in-Ok
returns-in-Ok g c = due_asked _ (texts c.args.words.now) _ c.in-Ok.ensures.ok _ _ _ _ c.serve.ensures

pub returns-in-Err-Usage : goal.returns-in-Err-Usage
returns-in-Err-Usage g c =
    let none = c.request.ensures.usage (rw c.in-Err-Usage.field-0-is at c.in-Err-Usage.is) in
    let r = reads g.F.Files c.args.files.now c.args.files.now in
    ends_refused g.O.Sink c.args.out.now (IsDue r (texts c.args.words.now)) [] _ _ _ _
    (due_nowhere [] 2 _ (IsDue r (texts c.args.words.now)) c.nowhere.ensures (due_usage r (texts c.args.words.now) none)) refl c.refuse.ensures

-- What a call answers of what is due.
use Rattle.std.specs.Prelude.{List, [], Some, Result, Ok, Err}
use Rattle.fq_core.specs.declared.refusal.Fault.{Fault}
use Rattle.fq_core.specs.declared.refusal.Fault.TheVariants as fault
use Rattle.command_words.specs.Reading.{Text}
use Rattle.suite.specs.Generated.{Shown}
use Rattle.command.specs.declared.reply.Reply.{Reply}
use Rattle.command.specs.declared.reply.Reply.TheVariants.{Answer, OtherFormula}
use Rattle.command.specs.declared.status.Status.TheVariants as status
use Rattle.command.specs.Refusal.{said_by}
use Rattle.command.specs.Said.{Said, status_with}
use Rattle.command.specs.Watched.{IsShown, IsShownNone, Watched}

-- what a reply says, where the watch is shown this
abbrev pub said_in : Reply → List Shown → Said
said_in (Answer text left_open) shown = record { status = Some (status_with left_open); out = text.items; err = []; shown = shown }
said_in (OtherFormula line) shown = record { status = Some status.CertificateRejected; out = []; err = line.items; shown = shown }

-- a reply is due, and the watch was shown what it says
abbrev pub IsReply : (Said → Type 0) → Watched → Reply → Type 0
IsReply due w reply = (shown : List Shown) × due (said_in reply shown) × IsShown shown w

-- A reply or a refusal that is due, where nothing is shown; want of memory is free.
abbrev pub Tells : (Said → Type 0) → List Text → Result Reply Fault → Type 0
Tells due names (Ok reply) = due (said_in reply [])
Tells due names (Err (fault.Refused refusal)) = due (said_by names refusal)
Tells due names (Err fault.Memory) = Unit {0}

-- A reply that is due, and the watch was shown what it says; or a refusal that is due, and the watch was shown nothing. Want
-- of memory is free.
abbrev pub Gives : (Said → Type 0) → List Text → Watched → Result Reply Fault → Type 0
Gives due names w (Ok reply) = IsReply due w reply
Gives due names w (Err (fault.Refused refusal)) = due (said_by names refusal) × IsShownNone w
Gives due names w (Err fault.Memory) = Unit {0}

-- What the call of a command answers: what is due of it.
use Rattle.std.specs.Prelude.{Result}
use Rattle.fq_core.specs.declared.refusal.Fault.{Fault}
use Rattle.command_words.specs.Request.{Asked}
use Rattle.command.specs.declared.reply.Reply.{Reply}
use Rattle.command.specs.Asked.{sources_of}
use Rattle.command.specs.Due.{IsDueOf}
use Rattle.command.specs.Reads.{Reads}
use Rattle.command.specs.Replies.{Gives, Tells}
use Rattle.command.specs.Watched.{Watched}

-- it is due of what is asked, and a watch is shown what it says
abbrev pub IsGiven : Reads → Watched → Asked → Result Reply Fault → Type 0
IsGiven r w asked result = Gives (IsDueOf r asked) (sources_of asked) w result

-- it is due of what is asked, where nothing is shown
abbrev pub IsTold : Reads → Asked → Result Reply Fault → Type 0
IsTold r asked result = Tells (IsDueOf r asked) (sources_of asked) result

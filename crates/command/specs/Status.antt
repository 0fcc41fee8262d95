-- The exit status of each way in which a run ends.
use Rattle.std.specs.Prelude.{ℕ}
use Rattle.command.specs.declared.status.Status.{Status}
use Rattle.command.specs.declared.status.Status.TheVariants.{Done, DoneOpen, Usage, SourceRefused, QueryRefused, InputRefused, Limit, ReadFault, WriteFault, Memory, CertificateRejected}

abbrev pub exit_status : Status → ℕ
exit_status Done = 0
exit_status DoneOpen = 1
exit_status Usage = 2
exit_status SourceRefused = 3
exit_status QueryRefused = 4
exit_status InputRefused = 5
exit_status Limit = 6
exit_status ReadFault = 7
exit_status WriteFault = 8
exit_status Memory = 9
exit_status CertificateRejected = 10

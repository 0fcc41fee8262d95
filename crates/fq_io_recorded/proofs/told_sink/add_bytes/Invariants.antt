use Rattle.std.proofs.Common.{◌≡◌, ◌++◌, take}
use Rattle.fq_io_recorded.specs.Told.{bytes_of}
use Rattle.fq_io_recorded.proofs.told_sink.add_bytes.Given as goal

abbrev pub invariant-loop-byte : goal.invariant-loop-byte
invariant-loop-byte l = bytes_of l.took.items ≡ bytes_of l.initial.took.items ++ take l.byte-index l.bytes

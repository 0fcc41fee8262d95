-- A sink that tells what another one took.
use Rattle.std.specs.Prelude.{ℕ, List}
use Rattle.fq_io_recorded.specs.declared.told_sink.ToldSink.{ToldSink}
use Rattle.fq_io_recorded.specs.Told.{bytes_of}

-- the sink that takes the bytes
abbrev pub behind : {S : Type 0} → ToldSink S → S
behind sink = sink.sink

-- the bytes that it took since the other was put before it
abbrev pub told : {S : Type 0} → ToldSink S → List ℕ
told sink = bytes_of sink.took.items

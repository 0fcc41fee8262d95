use Rattle.std.proofs.Common.{◌≡◌, ◌++◌, drop, map, string_bytes}
use Rattle.report.specs.Json.{masked}
use Rattle.report.proofs.strings.masked.Given as goal

abbrev pub invariant-loop-byte : goal.invariant-loop-byte
invariant-loop-byte l =
    string_bytes l.text ++ map masked (drop l.byte-index l.bytes) ≡ map masked l.bytes

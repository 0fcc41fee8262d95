use Rattle.std.proofs.Common.{◌≡◌, ◌+◌, ◌≤◌, take}
use Rattle.c_lex.specs.Places.{after_bytes}
use Rattle.c_lex.proofs.position.after_bytes.Given as goal

abbrev pub invariant-loop-byte : goal.invariant-loop-byte
invariant-loop-byte l = record {
  so_far : l.position ≡ after_bytes l.fn.from (take l.byte-index l.bytes);
  line : l.position.line ≤ l.fn.from.line + l.byte-index;
  column : l.position.column ≤ l.fn.from.column + l.byte-index;
}

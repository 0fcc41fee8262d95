use Rattle.std.proofs.Common.{◌≡◌, drop}
use Rattle.c_lex.specs.Scans.{header_length}
use Rattle.c_lex.proofs.Loops.{shifted}
use Rattle.c_lex.proofs.form.header_length.Given as goal

abbrev pub invariant-loop-i : goal.invariant-loop-i
invariant-loop-i l = header_length l.text ≡ shifted l.i (header_length (drop l.i l.text))

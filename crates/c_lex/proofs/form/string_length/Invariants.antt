use Rattle.std.proofs.Common.{◌≡◌, drop}
use Rattle.std.specs.Prelude.{false}
use Rattle.c_lex.specs.Scans.{string_length}
use Rattle.c_lex.proofs.Loops.{shifted}
use Rattle.c_lex.proofs.form.string_length.Given as goal

abbrev pub invariant-loop-i : goal.invariant-loop-i
invariant-loop-i l = string_length false l.text ≡ shifted l.i (string_length l.escaped (drop l.i l.text))

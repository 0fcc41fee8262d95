use Rattle.std.proofs.Common.{◌≡◌, drop}
use Rattle.c_lex.specs.Pieces.{closing}
use Rattle.c_lex.proofs.Loops.{shifted}
use Rattle.c_lex.proofs.piece.closing.Given as goal

abbrev pub invariant-loop-i : goal.invariant-loop-i
invariant-loop-i l = closing l.text ≡ shifted l.i (closing (drop l.i l.text))

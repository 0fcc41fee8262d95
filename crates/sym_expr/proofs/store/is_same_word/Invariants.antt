use Rattle.std.proofs.Common.{◌≡◌, take}
use Rattle.sym_expr.proofs.store.is_same_word.Given as goal

abbrev pub invariant-loop-i : goal.invariant-loop-i
invariant-loop-i l = take l.i l.a ≡ take l.i l.b

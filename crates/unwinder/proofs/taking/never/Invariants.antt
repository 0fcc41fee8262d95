use Rattle.std.proofs.Common.{◌≡◌, length}
use Rattle.std.specs.Prelude.{All}
use Rattle.circuit.specs.declared.lit.Lit.{Lit}
use Rattle.unwinder.proofs.taking.never.Given as goal

abbrev pub invariant-loop-i : goal.invariant-loop-i
invariant-loop-i l = (length l.literals ≡ l._i) × All (λ (q : Lit). q.wire ≡ 0) l.literals

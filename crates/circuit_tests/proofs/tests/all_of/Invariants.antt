use Rattle.std.proofs.Common.{◌≡◌, ◌+◌, ◌≤◌, take}
use Rattle.std.specs.List.{list_all}
use Rattle.circuit.specs.Truth.{World, Extends}
use Rattle.circuit_tests.proofs.tests.all_of.Given as goal

abbrev pub invariant-loop-bit : goal.invariant-loop-bit
invariant-loop-bit g l = record {
  older : Extends g.T.Truth.is_bit g.T.Truth.holds l.fn.truth l.truth;
  grown : g.T.Truth.grows_to l.fn.truth l.truth;
  bit : g.T.Truth.is_bit l.truth l.all;
  value : (w : World) → g.T.Truth.holds l.truth l.all w ≡ list_all (λ b. g.T.Truth.holds l.fn.truth b w) (take l.bit-index l.bits);
  used : g.T.Truth.wires l.truth ≤ g.T.Truth.wires l.fn.truth + l.bit-index;
}

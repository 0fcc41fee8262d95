use Rattle.std.proofs.Common.{◌≡◌}
use Rattle.circuit.specs.Wires.{input_count}
use Rattle.search_lemmas_tests.proofs.tests.chain.Given as goal

abbrev pub invariant-loop-at : goal.invariant-loop-at
invariant-loop-at g l = input_count l.circuit ≡ 32

use Rattle.std.specs.Prelude.{All}
use Rattle.circuit.specs.Wires.{IsWire}
use Rattle.test_expressions.proofs.stores.free_store.Given as goal

abbrev pub invariant-loop : goal.invariant-loop
invariant-loop l = All (All (IsWire l.circuit)) l.words

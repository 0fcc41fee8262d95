use Rattle.std.proofs.Common.{◌+◌, ◌*◌, ◌≤◌, length, arith}
use Rattle.circuit.specs.Truth.{extends_again}
use Rattle.circuit.specs.Wires.{IsWire, lit_holds}
use Rattle.automata_tests.proofs.tests.runs.guarded.Goals as goal

pub loop-step-preserved : goal.loop-step-preserved
loop-step-preserved c = record {
  older = extends_again {is_bit = IsWire} {holds = lit_holds} c.loop-step.invariant.older c.in_ok-advance.ensures.older;
  reach = c.in_ok-advance.ensures.reach;
  used = omega (arith, c.in_ok-advance.ensures.used, c.loop-step.invariant.used, c.requires.few);
}

use Rattle.std.proofs.Common.{false}
use Rattle.automata.specs.Standing.{IsReach}
use Rattle.automata_tests.proofs.tests.runs.hits.Given as goal

abbrev pub invariant-loop-step : goal.invariant-loop-step
invariant-loop-step l = IsReach (λ t b. Unit {0}) (λ t b w. b) false l.truth l.nfa l.reach

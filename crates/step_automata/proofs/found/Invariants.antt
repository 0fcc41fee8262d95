use Rattle.std.proofs.Common.{false}
use Rattle.automata.specs.Standing.{IsReach}
use Rattle.step_automata.proofs.found.Given as goal

abbrev pub invariant-loop-place : goal.invariant-loop-place
invariant-loop-place l = IsReach (λ t b. Unit {0}) (λ t b w. b) false l.truth l.automaton l.reach

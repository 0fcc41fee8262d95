use Rattle.std.proofs.Common.{false, Bool}
use Rattle.circuit.specs.declared.plain.Plain.{Plain}
use Rattle.patterns.specs.Paths.{step_of}
use Rattle.automata.specs.Standing.{IsReach, Stands}
use Rattle.measurer_hits.proofs.run_match.Recorded.{steps_to}
use Rattle.measurer_hits.proofs.run_match.matching.taken.Given as goal

abbrev pub invariant-loop-at : goal.invariant-loop-at
invariant-loop-at l =
    IsReach {T = Plain} {B = Bool} (λ t b. Unit {0}) (λ t b w. b) false l.truth l.automaton l.reach
    × Stands {T = Plain} {B = Bool} (λ t b w. b) l.truth l.automaton l.reach (λ w. steps_to (step_of l.path) l.at)

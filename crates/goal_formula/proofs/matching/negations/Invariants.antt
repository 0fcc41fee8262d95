use Rattle.std.proofs.Common.{◌≡◌, map, take}
use Rattle.circuit.specs.Sharing.{inverse}
use Rattle.goal_formula.proofs.matching.negations.Given as goal

abbrev pub invariant-loop-literal : goal.invariant-loop-literal
invariant-loop-literal l = record { same : l.circuit ≡ l.initial.circuit; made : l.made.items ≡ map inverse (take l.literal-index l.literals) }

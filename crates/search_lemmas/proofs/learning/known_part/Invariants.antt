use Rattle.std.proofs.Common.{ℕ, List, Option}
use Rattle.circuit.specs.declared.lit.Gate.{Gate}
use Rattle.search_lemmas.specs.Holding.{IsKnown}
use Rattle.search_lemmas.specs.Known.{AllKnown}
use Rattle.search_lemmas.proofs.learning.known_part.Given as goal

abbrev pub invariant-loop-step : goal.invariant-loop-step
invariant-loop-step l = (gates : List Gate) (wires : List (Option ℕ)) → AllKnown gates wires l.refutation l.marks → IsKnown gates wires l.clause

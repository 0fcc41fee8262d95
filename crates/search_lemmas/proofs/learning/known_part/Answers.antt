use Rattle.std.proofs.Common.{sym, subst}
use Rattle.search_lemmas.specs.Holding.{IsKnown}
use Rattle.search_lemmas.proofs.learning.known_part.Goals as goal

pub loop-step-init : goal.loop-step-init
loop-step-init c = λ gates wires known. subst (IsKnown gates wires) (sym c.in_ok-clause.ensures) (c.in-Some.ensures gates wires known)

pub loop-step-preserved : goal.loop-step-preserved
loop-step-preserved c = λ gates wires known. c.in_ok-clause-2.ensures gates wires (c.loop-step.invariant gates wires known) (c.marked_clause-antecedent.ensures gates wires known)

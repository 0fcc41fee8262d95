use Rattle.cfa.specs.Graph.{FunctionFits}
use Rattle.cfa.proofs.Eaches.{EachBelow}
use Rattle.cfa.proofs.rest.functions_fit.Given as goal

abbrev pub invariant-loop-i : goal.invariant-loop-i
invariant-loop-i l = EachBelow l.parts.functions l.i (FunctionFits l.parts)

use Rattle.sym_expr.proofs.ElementLemmas.{SelectedSoFar}
use Rattle.sym_expr.proofs.elements.selection.Given as goal

abbrev pub invariant-loop-k : goal.invariant-loop-k
invariant-loop-k l = SelectedSoFar l.initial.circuit l.circuit l.elements l.index l.selected l.k

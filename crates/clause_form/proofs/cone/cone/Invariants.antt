use Rattle.clause_form.specs.Parts.{IsMarkedFrom}
use Rattle.clause_form.proofs.cone.cone.Given as goal

abbrev pub invariant-loop-place : goal.invariant-loop-place
invariant-loop-place l = IsMarkedFrom l.circuit l.fn.root l.place l.marks.items

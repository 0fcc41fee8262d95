use Rattle.std.proofs.Common.{◌≡◌, Some}
use Rattle.std.specs.Prelude.{slice_get}
use Rattle.cfa.specs.declared.parts.Function.{Function}
use Rattle.unwinder.specs.Progress.{Unwinds}
use Rattle.unwinder.proofs.unwinding.all_taken.Given as goal

abbrev pub invariant-loop-place : goal.invariant-loop-place
invariant-loop-place l = (f : Function) → slice_get l.fn.graph.functions l.fn.entry ≡ Some f → Unwinds l.fn.graph l.fn.predicates f l.fn.entry l.fn.bounds l.fn.ends l.fn.reached.pairs l.fn.reached.steps l.fn.circuit l.place l.circuit l.entries.items l.agenda.items

use Rattle.std.proofs.Common.{[], ◌≡◌, Some}
use Rattle.std.specs.Prelude.{slice_get}
use Rattle.std.proofs.lemmas.Result.{IfErr-weaker, IfOk-weaker}
use Rattle.cfa.proofs.Exits.{given}
use Rattle.cfa.specs.declared.parts.Function.{Function}
use Rattle.fq_core.specs.declared.refusal.Fault.{Fault}
use Rattle.unwinder.specs.Unwinding.{IsUnwindFault, IsUnwound}
use Rattle.unwinder.specs.declared.unwound.Unwound.{Unwound}
use Rattle.suite.specs.Seeking.{CannotUnwind, IsUnwindingOf}
use Rattle.suite.proofs.sought.unwinding.Goals as goal

pub unwind-requires-clause-entry : goal.unwind-requires-clause-entry
unwind-requires-clause-entry c =
    let e = c.args.given.now.planned.entry in
    given (λ (f : Function). f.arrays ≡ []) (slice_get e.graph.now.functions e.number) e.function.now e.there e.startable

pub returns-clause-accepted : goal.returns-clause-accepted
returns-clause-accepted c =
    let g = c.args.given.now in
    let e = g.planned.entry in
    IfOk-weaker c.unwind.result (λ (u : Unwound). (f : Function) → slice_get e.graph.now.functions e.number ≡ Some f → IsUnwound e.graph.now g.planned.predicates f e.number g.bounds g.ends u) (IsUnwindingOf g)
    (λ u h. h e.function.now e.there) c.unwind.ensures.accepted

pub returns-clause-refused : goal.returns-clause-refused
returns-clause-refused c =
    let g = c.args.given.now in
    let e = g.planned.entry in
    IfErr-weaker c.unwind.result (λ (x : Fault). (f : Function) → slice_get e.graph.now.functions e.number ≡ Some f → IsUnwindFault e.graph.now g.planned.predicates g.bounds f x) (CannotUnwind g)
    (λ x h. h e.function.now e.there) c.unwind.ensures.refused

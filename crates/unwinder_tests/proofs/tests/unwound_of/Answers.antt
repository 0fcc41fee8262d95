use Rattle.std.proofs.Common.{◌≡◌, [], Some}
use Rattle.std.specs.Prelude.{slice_get}
use Rattle.std.proofs.lemmas.Result.{IfOk-weaker}
use Rattle.cfa.proofs.Exits.{taken}
use Rattle.cfa.specs.Each.{Each}
use Rattle.cfa.specs.declared.parts.Function.{Function}
use Rattle.cfa.specs.declared.state.Predicates.{Predicates as GivenPredicates}
use Rattle.unwinder.specs.Unwinding.{IsEntry, IsUnwound}
use Rattle.unwinder.specs.declared.unwound.Unwound.{Unwound}
use Rattle.unwinder_tests.proofs.tests.unwound_of.Goals as goal

pub returns : goal.returns
returns c =
    let parts = c.args.graph.now in
    let given = c.args.predicates.now in
    let there = taken (λ (f : Function). f.arrays ≡ []) (slice_get parts.functions c.args.entry) c.requires.entry in
    let Is = λ (u : Unwound). (f : Function) → slice_get parts.functions c.args.entry ≡ Some f → IsUnwound parts given f c.args.entry c.args.bounds c.args.ends u in
    let Fit = λ (u : Unwound). Each u.entries (λ k e. (p : GivenPredicates) × IsEntry p u.circuit e) in
    IfOk-weaker c.unwind.result Is Fit (λ u is i e at. (given, (is there.0 there.1).entries i e at)) c.unwind.ensures.accepted

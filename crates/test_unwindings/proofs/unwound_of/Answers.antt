use Rattle.std.proofs.Common.{◌≡◌, [], Some, sym, ap, subst, ◌∙◌}
use Rattle.std.specs.Prelude.{slice_get}
use Rattle.std.specs.Option.{IsSomeAnd}
use Rattle.std.proofs.lemmas.Result.{IfOk-weaker}
use Rattle.cfa.proofs.Exits.{given, taken}
use Rattle.cfa.specs.declared.parts.Function.{Function}
use Rattle.unwinder.specs.Unwinding.{IsUnwound}
use Rattle.unwinder.specs.declared.unwound.Unwound.{Unwound}
use Rattle.test_unwindings.proofs.unwound_of.Goals as goal

pub returns : goal.returns
returns c =
    let parts = c.args.graph.now in
    let predicates = c.args.predicates.now in
    let there = taken (λ (f : Function). f.arrays ≡ []) (slice_get parts.functions c.args.entry) c.requires.entry in
    let Is = λ (u : Unwound). (f : Function) → slice_get parts.functions c.args.entry ≡ Some f → IsUnwound parts predicates f c.args.entry c.args.bounds c.args.ends u in
    let Own = λ (u : Unwound). IsSomeAnd (slice_get parts.functions u.entry) (λ (f : Function). IsUnwound parts predicates f u.entry u.bounds u.ends u) in
    IfOk-weaker c.unwind.result Is Own (λ u is.
    let it = is there.0 there.1 in
    given (λ (f : Function). IsUnwound parts predicates f u.entry u.bounds u.ends u) (slice_get parts.functions u.entry) there.0
    (ap (slice_get parts.functions) it.given_entry ∙ there.1)
    (subst (λ e. IsUnwound parts predicates there.0 e u.bounds u.ends u) (sym it.given_entry)
    (subst (λ b. IsUnwound parts predicates there.0 c.args.entry b u.ends u) (sym it.given_bounds)
    (subst (λ e. IsUnwound parts predicates there.0 c.args.entry c.args.bounds e u) (sym it.given_ends) it)))) c.unwind.ensures.accepted

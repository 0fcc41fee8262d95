use Rattle.std.proofs.Common.{◌≡◌, List, [], sym, subst}
use Rattle.std.specs.Prelude.{slice_get}
use Rattle.c_values.specs.declared.kinds.Kind.{Kind}
use Rattle.cfa.proofs.Exits.{given}
use Rattle.cfa.specs.declared.parts.Function.{Function}
use Rattle.cfa.specs.declared.state.Predicates.{Predicates}
use Rattle.c_meaning.specs.declared.ends.Ends.TheVariants as counted
use Rattle.unwinder.specs.Unwinding.{IsUnwound}
use Rattle.bounds_check.specs.Leaving.{no_predicates}
use Rattle.bounds_check.specs.Parts.{CanSay, SaysOpen}
use Rattle.bounds_check.proofs.Exactness.{can_say, exact}
use Rattle.bounds_check.proofs.sufficing.leaving_formula.Goals as goal

pub unwind-requires-clause-entry : goal.unwind-requires-clause-entry
unwind-requires-clause-entry c =
    let e = c.args.bounded.now.entry in
    given (λ (f : Function). f.arrays ≡ []) (slice_get e.graph.now.functions e.number) e.function.now e.there e.startable

pub open_formula-requires : goal.open_formula-requires
open_formula-requires c =
    let b = c.args.bounded.now in
    let e = b.entry in
    let u = c.in_ok-unwound.unwound in
    let none : ◌≡◌ {A = Predicates} (record { texts = c.new.result; meanings = c.new-2.result }) no_predicates = λ i. record { texts = c.new.ensures i; meanings = c.new-2.ensures i } in
    let Unwound-of : Predicates → Type 0 = λ p. IsUnwound e.graph.now p e.function.now e.number b.bounds counted.Any u in
    subst (λ (ks : List Kind). CanSay ks u) (sym c.deref.ensures)
    (can_say e.graph.now e.function.now e.number b.bounds u c.well_formed-2.ensures e.there (subst Unwound-of none (c.in_ok-unwound.ensures.accepted e.function.now e.there)))

pub returns-in-Ok-clause-exact : goal.returns-in-Ok-clause-exact
returns-in-Ok-clause-exact c =
    let b = c.args.bounded.now in
    let e = b.entry in
    let u = c.in_ok-unwound.unwound in
    let none : ◌≡◌ {A = Predicates} (record { texts = c.new.result; meanings = c.new-2.result }) no_predicates = λ i. record { texts = c.new.ensures i; meanings = c.new-2.ensures i } in
    let Unwound-of : Predicates → Type 0 = λ p. IsUnwound e.graph.now p e.function.now e.number b.bounds counted.Any u in
    exact e.graph.now e.function.now e.number b.bounds u c.well_formed-2.ensures e.there (subst Unwound-of none (c.in_ok-unwound.ensures.accepted e.function.now e.there)) c.in-Ok.formula
    (subst (λ (ks : List Kind). SaysOpen u.circuit u.entries ks u.bounds.answers c.in-Ok.formula) c.deref.ensures c.in-Ok.ensures)

pub returns-in-Ok-clause-limits : goal.returns-in-Ok-clause-limits
returns-in-Ok-clause-limits c =
    let b = c.args.bounded.now in
    let e = b.entry in
    let none : ◌≡◌ {A = Predicates} (record { texts = c.new.result; meanings = c.new-2.result }) no_predicates = λ i. record { texts = c.new.ensures i; meanings = c.new-2.ensures i } in
    let Unwound-of : Predicates → Type 0 = λ p. IsUnwound e.graph.now p e.function.now e.number b.bounds counted.Any c.in_ok-unwound.unwound in
    let it = subst Unwound-of none (c.in_ok-unwound.ensures.accepted e.function.now e.there) in
    record { pairs = it.pairs; steps = it.steps; reached = it.reached; few_pairs = it.few_pairs; small = it.small }

use Rattle.std.proofs.Common.{◌≡◌, List, [], ℕ, All, Option, length, sym, ap, subst, ◌∙◌}
use Rattle.std.specs.Prelude.{slice_get}
use Rattle.std.specs.Option.{IsSomeAnd}
use Rattle.std.proofs.lemmas.Slice.Zip.{AllZip-long}
use Rattle.c_meaning.specs.Starts.{start_of}
use Rattle.c_values.specs.Kind.{IsKind, IsValue}
use Rattle.c_values.specs.declared.kinds.Kind.{Kind}
use Rattle.suite.specs.candidates.Row.{IsCandidate}
use Rattle.cfa.proofs.Exits.{given}
use Rattle.cfa.specs.declared.parts.Function.{Function}
use Rattle.path_runner.specs.Paths.{path_of}
use Rattle.unwinder.proofs.Made.{parameter_kinds}
use Rattle.suite.specs.Standing.{IsPooledOf}
use Rattle.suite.proofs.PoolLaws.{pooled, tried}
use Rattle.suite.proofs.Trimming.{values}
use Rattle.suite.proofs.pool.Pool.try_next.Goals as goal

pub input-requires : goal.input-requires
input-requires c =
    let e = c.args.given.now.planned.entry in
    subst (All IsKind) (sym c.as_slice-kinds.ensures) (parameter_kinds e.graph.now e.number e.function.now c.well_formed-2.ensures e.there)

pub trace_run-requires-clause-start : goal.trace_run-requires-clause-start
trace_run-requires-clause-start c =
    let e = c.args.given.now.planned.entry in
    let words = c.in_ok-input.input.words in
    let Starts : Function → Type 0 = λ f. (length words ≡ length f.parameters) × (f.arrays ≡ []) in
    given Starts (slice_get e.graph.now.functions e.number) e.function.now e.there
    (AllZip-long IsValue c.as_slice-kinds.result.now words c.in_ok-input.ensures.words ∙ ap (λ (ks : List Kind). length ks) c.as_slice-kinds.ensures, e.startable)

pub add-requires-clause-made : goal.add-requires-clause-made
add-requires-clause-made c = λ numbers hits.
    let g = c.args.given.now in
    let e = g.planned.entry in
    let parts = e.graph.now in
    let f = e.function.now in
    let p = g.planned.predicates in
    let x = c.in_ok-input.input in
    let path = c.in_ok-path.path in
    let candidate : IsCandidate f.parameters g.bounds.answers x = subst (λ (ks : List Kind). IsCandidate ks g.bounds.answers x) c.as_slice-kinds.ensures c.in_ok-input.ensures in
    let Here : Function → Type 0 = λ h. path ≡ path_of parts x p c.args.limit (start_of parts h x.words) in
    let is : Here f = subst (λ (o : Option Function). IsSomeAnd o Here) e.there c.in_ok-path.ensures.path in
    let proper = c.in_ok-is_proper.ensures c.if-not-branch.false in
    let own = tried parts c.well_formed-2.ensures f p g.planned.plan g.bounds g.ends g.bounds.answers c.args.limit x path candidate is proper.0 proper.1 in
    let one = pooled parts c.well_formed-2.ensures f p g.planned.plan g.bounds g.ends x path numbers own hits in
    let answers : values path.taken ≡ c.in_ok-answers.answers = sym (c.in_ok-answers.ensures ∙ ap values c.as_slice.ensures) in
    subst (λ (vs : List ℕ). IsPooledOf g (record { words = x.words; answers = vs }) numbers) answers one

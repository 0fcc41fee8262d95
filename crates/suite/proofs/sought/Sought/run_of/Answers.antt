use Rattle.std.proofs.Common.{◌≡◌, ◌∙◌, Option, ap, subst, sym}
use Rattle.std.specs.Prelude.{IfOk, slice_get}
use Rattle.std.specs.Option.{IsSomeAnd}
use Rattle.std.proofs.lemmas.Result.{IfOk-weaker}
use Rattle.c_meaning.specs.Starts.{start_of}
use Rattle.cfa.specs.declared.parts.Function.{Function}
use Rattle.path_runner.specs.Paths.{path_of}
use Rattle.path_runner.specs.declared.path.PathRecord.{PathRecord}
use Rattle.suite.specs.Seeking.{HasRun, IsRecordOf, Seeking}
use Rattle.suite.proofs.Models.{replayed}
use Rattle.suite.proofs.sought.Sought.run_of.Goals as goal

pub returns : goal.returns
returns c =
    let g = c.self.inside.goal.given.now in
    let e = g.planned.entry in
    let x = c.args.input.now in
    let u = c.self.inside.unwound in
    let Here : PathRecord → Function → Type 0 = λ path f. path ≡ path_of e.graph.now x g.planned.predicates c.len-limit.result (start_of e.graph.now f x.words) in
    let Is : PathRecord → Type 0 = λ path. IsSomeAnd (slice_get e.graph.now.functions e.number) (Here path) in
    let has : HasRun g x = subst (λ (s : Seeking). HasRun s.goal.given.now x) (sym c.self.view_is) c.requires in
    let gives : (path : PathRecord) → Is path → IsRecordOf g x path = λ path is run is_run.
    let here : Here path e.function.now = subst (λ (o : Option Function). IsSomeAnd o (Here path)) e.there is in
    replayed e.graph.now g.planned.predicates e.function.now g.bounds g.ends u.circuit u.entries x run path c.self.invariant.unwound.lists has is_run
    (here ∙ ap (λ n. path_of e.graph.now x g.planned.predicates n (start_of e.graph.now e.function.now x.words)) c.len-limit.ensures) in
    subst (λ (s : Seeking). IfOk c.trace_run.result (IsRecordOf s.goal.given.now x)) c.self.view_is (IfOk-weaker c.trace_run.result Is (IsRecordOf g x) gives c.trace_run.ensures.path)

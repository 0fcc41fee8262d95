-- The inputs of a pool: what was run, counts and is within the bounds, with the answers alone that the run reads.
use Rattle.std.proofs.Common.{◌≡◌, ℕ, zero, suc, ◌-◌, List, [], ◌∷◌, Some, None, Option, sym, ap, subst, ◌∙◌, arith, All}
use Rattle.std.specs.Prelude.{IfSome, IsTrue, slice_get}
use Rattle.std.specs.List.{AllZip}
use Rattle.std.proofs.lemmas.Option.{same_Some}
use Rattle.c_meaning.specs.Runs.{Run, edges_in}
use Rattle.c_meaning.specs.Starts.{start_of}
use Rattle.c_meaning.specs.declared.input.Input.{Input}
use Rattle.c_values.specs.Kind.{IsValue}
use Rattle.c_values.specs.declared.kinds.Kind.{Kind}
use Rattle.suite.specs.candidates.Row.{IsCandidate}
use Rattle.suite.specs.candidates.Within.{AreEdgesWithin}
use Rattle.cfa.proofs.Exits.{taken}
use Rattle.cfa.specs.Graph.{IsGraph}
use Rattle.cfa.specs.declared.parts.Function.{Function}
use Rattle.cfa.specs.declared.parts.GraphParts.{GraphParts}
use Rattle.cfa.specs.declared.state.Predicates.{Predicates}
use Rattle.c_meaning.specs.declared.ends.Ends.{Ends}
use Rattle.goals.specs.GoalForm.{GoalForm}
use Rattle.goals.specs.declared.plan.Plan.{Plan}
use Rattle.measurer_hits.specs.hits.Hits.{AreHits, Hits}
use Rattle.measurer.specs.Firsts.{first_hit, has_number}
use Rattle.measurer.specs.Measurers.{hits_of}
use Rattle.path_runner.proofs.Records.{paths_counted}
use Rattle.path_runner.specs.Counted.{counts_end}
use Rattle.path_runner.specs.Paths.{path_of, record_of}
use Rattle.path_runner.specs.declared.path.PathRecord.{PathRecord}
use Rattle.unwinder_reach.specs.declared.reached.bounds.Bounds.{Bounds}
use Rattle.suite.specs.Made.{IsMade, IsMadeFor}
use Rattle.suite.specs.Pool.{IsPool, IsPooled}
use Rattle.suite.specs.declared.pool.Pool.{Pool}
use Rattle.suite.proofs.Firsts.{contains_any, found}
use Rattle.suite.proofs.Trimming.{answers_fit, trimmed_record, trimmed_run, values}

-- two elements at one place
pub zip_at : {X Y : Type 0} (Q : X → Y → Type 0) (xs : List X) (ys : List Y) (k : ℕ) (x : X) (y : Y) → AllZip Q xs ys → slice_get xs k ≡ Some x → slice_get ys k ≡ Some y → Q x y
zip_at Q [] ys k x y h a b = absurd cc
zip_at Q (z ∷ xs) [] k x y h a b = absurd cc
zip_at Q (z ∷ xs) (w ∷ ys) zero x y h a b =
    let one : z ≡ x = cc in
    let other : w ≡ y = cc in
    subst (λ v. Q x v) other (subst (λ v. Q v w) one h.0)
zip_at Q (z ∷ xs) (w ∷ ys) (suc k) x y h a b = zip_at Q xs ys k x y h.1 a b

module _ (parts : GraphParts) (graph : IsGraph parts) (f : Function) (p : Predicates) (plan : Plan) (bounds : Bounds) (ends : Ends) where
  -- what was tried, with the answers alone that its run reads
  abbrev pub with_taken : Input → PathRecord → Input
  with_taken x path = record { words = x.words; answers = values path.taken }

  pub record IsTried (x : Input) (path : PathRecord) : Type 0 where
    pub run : Run
    pub recorded : path ≡ record_of parts x p run
    pub made : IsMade parts f p bounds ends (with_taken x path) run
    pub same : record_of parts (with_taken x path) p run ≡ path

  pub tried : (most limit : ℕ) (x : Input) (path : PathRecord) → IsCandidate f.parameters most x → path ≡ path_of parts x p limit (start_of parts f x.words) → IsTrue (counts_end ends path.end) → AreEdgesWithin parts bounds f path.edges → IsTried x path
  tried most limit x path candidate is counted within =
      let it = paths_counted parts f x p limit ends (subst (λ (q : PathRecord). IsTrue (counts_end ends q.end)) is counted) in
      let run = it.0 in
      let recorded : path ≡ record_of parts x p run = is ∙ it.2 in
      let same = trimmed_record parts graph f p ends x run it.1 in
      let inside : AreEdgesWithin parts bounds f (edges_in run) = subst (AreEdgesWithin parts bounds f) (ap (λ (q : PathRecord). q.edges) recorded) within in
      let made : IsMade parts f p bounds ends (with_taken x (record_of parts x p run)) run = record {
        is_run = trimmed_run parts graph f p ends x run it.1;
        within = inside;
        answers = ap (λ (q : PathRecord). values q.taken) same;
        answers_fit = subst (λ (q : PathRecord). All (λ (a : Kind × ℕ). IsValue a.0 a.1) q.taken) (sym same) (answers_fit parts graph x run.moves);
        words_fit = candidate.words;
      } in
      record {
        run = run;
        recorded = recorded;
        made = subst (λ (q : PathRecord). IsMade parts f p bounds ends (with_taken x q) run) (sym recorded) made;
        same = subst (λ (q : PathRecord). record_of parts (with_taken x q) p run ≡ path) (sym recorded) (same ∙ sym recorded);
      }

  pub pooled : (x : Input) (path : PathRecord) (numbers : List ℕ) → IsTried x path → AreHits plan ends path numbers → IsPooled parts f p plan bounds ends (with_taken x path) numbers
  pooled x path numbers it hits = record {
    run = it.run;
    made = it.made;
    hits = subst (λ (q : PathRecord). AreHits plan ends q numbers) (sym it.same) hits;
  }

-- the first input of a pool that hits a goal was made for it
pub first_made : (parts : GraphParts) (f : Function) (p : Predicates) (plan : Plan) (bounds : Bounds) (ends : Ends) (pool : Pool) (goal number : ℕ) (input : Input) (g : GoalForm)
    → IsPool parts f p plan bounds ends pool → first_hit (hits_of pool.measurer) goal ≡ Some number → slice_get pool.inputs (number - 1) ≡ Some input → slice_get plan.goals (goal - 1) ≡ Some g → IsMadeFor parts f p plan bounds ends g input
first_made parts f p plan bounds ends pool goal number input g is first at there =
    let it = found (has_number goal) 1 number (hits_of pool.measurer) first in
    let one = zip_at (IsPooled parts f p plan bounds ends) pool.inputs (hits_of pool.measurer) (number - 1) input it.goals is.inputs at it.here in
    let hit = (one.hits.exact goal).0 (contains_any it.goals goal it.passes) in
    let path = record_of parts input p one.run in
    let own = taken (λ (h : GoalForm). Hits plan ends h path) (slice_get plan.goals hit.place) hit.hits in
    let numbered = hit.is in
    let place : goal - 1 ≡ hit.place = omega (arith, numbered) in
    let same : own.0 ≡ g = same_Some own.0 g (sym own.1 ∙ ap (slice_get plan.goals) (sym place) ∙ there) in
    record { run = one.run; made = one.made; hits = subst (λ (h : GoalForm). Hits plan ends h path) same own.2 }

pub some_weaker : {X : Type 0} (o : Option X) (P Q : X → Type 0) → ((x : X) → P x → Q x) → IfSome o P → IfSome o Q
some_weaker None P Q f h = tt
some_weaker (Some x) P Q f h = f x h

-- Laws of listing runs.
use Rattle.std.proofs.Common.{◌≡◌, ℕ, ◌+◌, ◌<◌, ◌≤◌, List, [], ◌∷◌, ◌++◌, length, map, take, get_or, refl, sym, ap, ◌∙◌, arith}
use Rattle.std.proofs.lemmas.Bool.{le-ltb, lt-ltb}
use Rattle.std.proofs.lemmas.List.{map-append, take-map}
use Rattle.std.proofs.lemmas.List.Sums.{sum_by-append, sum_by-cons, sum_by-take-le}
use Rattle.fq_core.specs.declared.refusal.Refusal.{Refusal}
use Rattle.cfa.specs.declared.parts.GraphParts.{GraphParts}
use Rattle.c_meaning.specs.declared.input.Input.{Input}
use Rattle.path_runner.specs.declared.path.PathRecord.{PathRecord}
use Rattle.command.specs.RunList.{edges_in, ending, most_listed, too_many, unless_many}
use Rattle.command.specs.Refusal.{said_by}
use Rattle.command.specs.Runs.{EntryFunction, no_predicates, run_of, runs_of}
use Rattle.command.specs.Said.{answered}
use Rattle.command.proofs.MeasureLaws.{runs_more}

-- ---- what is answered, and the refusal

pub said_limit : (names : List (List ℕ)) → said_by names too_many ≡ said_by [] too_many
unfolding said_by
said_limit names = refl

module _ (runs : List PathRecord) (text : List ℕ) where
  pub refused_many : (x : Refusal) (names : List (List ℕ)) → (x ≡ too_many) × (most_listed < edges_in runs) → said_by names x ≡ unless_many runs text
  refused_many x names why = ap (λ (y : Refusal). said_by names y) why.0 ∙ said_limit names ∙ sym (rw (lt-ltb most_listed (edges_in runs) why.1) refl)

  pub answered_few : edges_in runs ≤ most_listed → answered text ≡ unless_many runs text
  answered_few few = sym (rw (le-ltb most_listed (edges_in runs) few) refl)

-- ---- the runs of the first inputs

module _ (graph : GraphParts) (entry : EntryFunction) (steps : ℕ) (inputs : List Input) where
  abbrev runs_at : List Input → List PathRecord
  runs_at given = runs_of graph entry.function no_predicates steps given

  edges_up_to : (n : ℕ) → edges_in (runs_at (take n inputs)) ≤ edges_in (runs_at inputs)
  edges_up_to n =
      rw (sym (take-map (run_of graph entry.function no_predicates steps) n inputs))
      (sum_by-take-le (λ (run : PathRecord). length run.edges) (runs_at inputs) n)

  -- too many edges are in the runs of the first inputs
  pub many_in : (n : ℕ) → most_listed < edges_in (runs_at (take n inputs)) → most_listed < edges_in (runs_at inputs)
  many_in n many = let up = edges_up_to n in omega (arith, many, up)

  module _ (i : ℕ) (d : Input) (within : i < length inputs) (run : PathRecord) (is : run ≡ run_of graph entry.function no_predicates steps (get_or inputs i d)) where
    -- the runs with that of the next input
    more : runs_at (take (i + 1) inputs) ≡ runs_at (take i inputs) ++ run ∷ []
    more = runs_more graph entry.function no_predicates steps inputs i d within ∙ ap (λ (r : PathRecord). runs_at (take i inputs) ++ r ∷ []) (sym is)

    pub edges_more : edges_in (runs_at (take (i + 1) inputs)) ≡ edges_in (runs_at (take i inputs)) + length run.edges
    edges_more =
        let joined = sum_by-append (λ (r : PathRecord). length r.edges) (runs_at (take i inputs)) (run ∷ []) in
        let last = sum_by-cons (λ (r : PathRecord). length r.edges) run [] in
        ap edges_in more ∙ omega (arith, joined, last)

    pub endings_more : map ending (runs_at (take (i + 1) inputs)) ≡ map ending (runs_at (take i inputs)) ++ (run.end, run.edges) ∷ []
    endings_more = ap (map ending) more ∙ map-append ending (runs_at (take i inputs)) (run ∷ [])

-- The least input of a goal has words of 64 bits alone: with the low 64 bits of its words, an input has the same run, and is lower.
use Rattle.std.proofs.Common.{◌≡◌, ◌⊎◌, ℕ, ◌%◌, ◌^◌, List, [], ◌∷◌, ◌++◌, All, map, Some, refl, sym, ap, subst, ◌∙◌, inl, inr, ⊎_elim, arith}
use Rattle.std.specs.Prelude.{slice_get}
use Rattle.std.specs.List.{list_all}
use Rattle.std.proofs.Math.Nat.{mod-eq_of_lt}
use Rattle.std.proofs.lemmas.Bool.{cases_lt}
use Rattle.std.proofs.lemmas.List.{length-map}
use Rattle.std.proofs.lemmas.List.Elements.{All-cons, All-head, All-nil, All-tail}
use Rattle.bit_words.proofs.Results.{from_machine}
use Rattle.c_meaning.specs.Runs.{IsRun, Run}
use Rattle.c_meaning.specs.Starts.{fitted, fitted_words}
use Rattle.c_meaning.specs.declared.ends.Ends.{Ends}
use Rattle.c_meaning.specs.declared.input.Input.{Input}
use Rattle.c_values.proofs.Fitting.{and_left, and_right}
use Rattle.c_values.specs.Kind.{IsValue, is_kind}
use Rattle.c_values.specs.declared.kinds.Kind.{Kind}
use Rattle.cfa.specs.Graph.{IsGraph}
use Rattle.cfa.specs.declared.parts.Function.{Function}
use Rattle.cfa.specs.declared.parts.GraphParts.{GraphParts}
use Rattle.cfa.specs.declared.state.Predicates.{Predicates}
use Rattle.goal_formula_laws.specs.formula_laws.Orders.{IsBefore}
use Rattle.goals.specs.GoalForm.{GoalForm}
use Rattle.goals.specs.declared.plan.Plan.{Plan}
use Rattle.measurer_hits.specs.hits.Hits.{Hits}
use Rattle.measurer_hits.specs.hits.Inputs.{InputHitsWithin}
use Rattle.path_runner.specs.Paths.{record_of}
use Rattle.path_runner.specs.declared.path.PathRecord.{PathRecord}
use Rattle.unwinder_reach.specs.declared.reached.bounds.Bounds.{Bounds}
use Rattle.suite.proofs.Trimming.{answers_fit, reworded, reworded_record, reworded_run, values}
use Rattle.trace_file.proofs.SameRuns.{AreKinds, own_kinds, value_small}
use Rattle.unwinder.specs.Lists.{IsInputFor}
use Rattle.least_input.specs.Least.{IsLeast}
use Rattle.command_laws.proofs.printed_laws.Numbers.{IsSmall}

-- the low 64 bits
abbrev low : ℕ → ℕ
low n = n % 2 ^ 64

fitted_low : (words : List ℕ) (kinds : List Kind) → AreKinds kinds → fitted_words (map low words) kinds ≡ fitted_words words kinds
fitted_low [] kinds own = refl
fitted_low (word ∷ words) [] own = refl
fitted_low (word ∷ words) (kind ∷ kinds) own =
    let here : fitted kind (low word) ≡ fitted kind word = sym (from_machine kind word word 0 0 (and_left (is_kind kind) (list_all is_kind kinds) own) refl) in
    let rest = fitted_low words kinds (and_right (is_kind kind) (list_all is_kind kinds) own) in
    λ i. here i ∷ rest i

-- words are all of 64 bits, or with their low bits they come before
small_or_lower : (words a b : List ℕ) → All IsSmall words ⊎ IsBefore (map low words ++ a) (words ++ b)
small_or_lower [] a b = inl (All-nil IsSmall)
small_or_lower (word ∷ words) a b =
    ⊎_elim
    (λ less. by_rest less (mod-eq_of_lt less) (small_or_lower words a b))
    (λ more. inr (inl (omega (arith, more))))
    (cases_lt word (2 ^ 64))
  where
    by_rest : IsSmall word → low word ≡ word → (All IsSmall words ⊎ IsBefore (map low words ++ a) (words ++ b)) → All IsSmall (word ∷ words) ⊎ IsBefore (map low (word ∷ words) ++ a) ((word ∷ words) ++ b)
    by_rest less same (inl all) = inl (All-cons IsSmall word words less all)
    by_rest less same (inr before) = inr (inr (same, before))

module _ (parts : GraphParts) (graph : IsGraph parts) (f : Function) (own : AreKinds f.parameters) (p : Predicates) (ends : Ends) (x : Input) (r : Run) (h : IsRun parts f x ends r) where
  alike : fitted_words (map low x.words) f.parameters ≡ fitted_words x.words f.parameters
  alike = fitted_low x.words f.parameters own

  -- the input with the low bits of its words, and the answers that its run takes
  abbrev lowered : Input
  lowered = reworded parts graph f p ends x r h (map low x.words) alike

  lowered_run : IsRun parts f lowered ends r
  lowered_run = reworded_run parts graph f p ends x r h (map low x.words) alike

  lowered_record : record_of parts lowered p r ≡ record_of parts x p r
  lowered_record = reworded_record parts graph f p ends x r h (map low x.words) alike

  abbrev IsAnswer : Kind × ℕ → Type 0
  IsAnswer answer = IsValue answer.0 answer.1

  small_answers : (taken : List (Kind × ℕ)) → All IsAnswer taken → All IsSmall (values taken)
  small_answers [] fit = All-nil IsSmall
  small_answers (answer ∷ taken) fit =
      All-cons IsSmall answer.1 (values taken) (value_small answer.0 answer.1 (All-head IsAnswer answer taken fit)) (small_answers taken (All-tail IsAnswer answer taken fit))

  lowered_for : IsInputFor f x → IsInputFor f lowered
  lowered_for given = record {
    start = (length-map x.words low ∙ given.start.0, given.start.1);
    answers = small_answers (record_of parts x p r).taken (answers_fit parts graph x r.moves);
  }

-- the words of a least input are of 64 bits
pub least_words : (parts : GraphParts) (graph : IsGraph parts) (k : ℕ) (f : Function) (p : Predicates) (plan : Plan) (bounds : Bounds) (ends : Ends) (goal : GoalForm) (input : Input)
    → slice_get parts.functions k ≡ Some f → IsLeast parts f p plan bounds ends goal input → All IsSmall input.words
least_words parts graph k f p plan bounds ends goal input there least =
    let own = own_kinds parts k f graph there in
    let hit = least.hits in
    let other = lowered parts graph f own p ends input hit.run hit.is_run in
    let given = lowered_for parts graph f own p ends input hit.run hit.is_run least.given in
    let hits : InputHitsWithin parts f p plan ends bounds.turns bounds.frames bounds.answers goal other = record {
      run = hit.run;
      is_run = lowered_run parts graph f own p ends input hit.run hit.is_run;
      within = hit.within;
      hits = subst (λ (path : PathRecord). Hits plan ends goal path) (sym (lowered_record parts graph f own p ends input hit.run hit.is_run)) hit.hits;
    } in
    ⊎_elim (λ small. small) (λ lower. absurd (least.least other given hits lower)) (small_or_lower input.words _ _)

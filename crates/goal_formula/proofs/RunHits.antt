-- The entries that hold in the world of an input hit a goal exactly where its run within the bounds does.
use Rattle.std.proofs.Common.{◌≡◌, ℕ, suc, ◌↔◌, Bool, true, false, cond, List, [], ◌∷◌, map, Option, Some, None, refl, sym, ap, subst, ◌∙◌}
use Rattle.std.specs.Prelude.{IsTrue, slice_get}
use Rattle.std.specs.List.{AllZip, filter, list_any}
use Rattle.std.proofs.lemmas.Option.{same_Some}
use Rattle.c_meaning.proofs.Longest.{one_longest, runs_within}
use Rattle.c_meaning.proofs.RunLaws.{runs_by_ends}
use Rattle.c_meaning.specs.Pairs.{IsLongestWithin}
use Rattle.c_meaning.specs.Runs.{Run, counts, last_in}
use Rattle.c_meaning.specs.Steps.{next}
use Rattle.c_meaning.specs.declared.ends.Ends.{Ends}
use Rattle.c_meaning.specs.declared.input.Input.{Input}
use Rattle.cfa.specs.declared.parts.Function.{Function}
use Rattle.cfa.specs.declared.parts.GraphParts.{GraphParts}
use Rattle.cfa.specs.declared.state.Predicates.{Predicates}
use Rattle.circuit.specs.Truth.{World}
use Rattle.circuit.specs.Wires.{lit_holds}
use Rattle.circuit.specs.declared.lit.Gate.{Gate}
use Rattle.automata.specs.Standing.{HasMatch}
use Rattle.goals.specs.GoalForm.{GoalForm}
use Rattle.goals.specs.declared.plan.PassingPattern.{PassingPattern}
use Rattle.goals.specs.declared.plan.Plan.{Plan}
use Rattle.measurer_hits.specs.hits.Hits as hits
use Rattle.measurer_hits.specs.hits.Hits.{Hits, path_in}
use Rattle.measurer_hits.specs.hits.Inputs.{InputHitsWithin}
use Rattle.unwinder.specs.input_words.Worlds.{world_of}
use Rattle.path_runner.proofs.Records.{ends_counted}
use Rattle.path_runner.specs.Paths.{record_of}
use Rattle.patterns.specs.Letters.{form}
use Rattle.patterns.specs.Match.{Form, Step}
use Rattle.patterns.specs.Segments.{HasSegment}
use Rattle.patterns.specs.declared.letter.Letter.{Letter}
use Rattle.unwinder_reach.specs.declared.reached.bounds.Bounds.{Bounds}
use Rattle.unwinder.specs.Lists.{IsInputFor, ListsRuns, Tells, entries_in, reached_in}
use Rattle.unwinder.specs.declared.unwound.Entry.{Entry}
use Rattle.unwinder.specs.Unwinding.{StartsFirst}
use Rattle.goal_formula.specs.Hitting.{EntriesHit, FirstHolds, MeetsPassing}
use Rattle.goal_formula.specs.Steps.{steps_in}
use Rattle.goal_formula.proofs.Paths.{segments}
use Rattle.goal_formula.proofs.Told.{end_told, reached_step, run_same, run_size, steps_told}

-- what a filter keeps first passes its test, and is an element
first_kept : {X : Type 0} (test : X → Bool) (xs : List X) (x : X) → slice_get (filter test xs) 0 ≡ Some x → (k : ℕ) × (slice_get xs k ≡ Some x) × (test x ≡ true)
first_kept test [] x e = absurd cc
first_kept {X} test (y ∷ xs) x e = by (test y) refl (first_kept test xs x) e
  where
    by : (b : Bool) → test y ≡ b → (slice_get (filter test xs) 0 ≡ Some x → (k : ℕ) × (slice_get xs k ≡ Some x) × (test x ≡ true)) → slice_get (cond b (y ∷ filter test xs) (filter test xs)) 0 ≡ Some x → (k : ℕ) × (slice_get (y ∷ xs) k ≡ Some x) × (test x ≡ true)
    by true is rest h = let same : y ≡ x = same_Some y x h in (0, h, ap test (sym same) ∙ is)
    by false is rest h = let r = rest h in (suc r.0, r.1, r.2)

module _ (parts : GraphParts) (predicates : Predicates) (f : Function) (bounds : Bounds) (ends : Ends) (plan : Plan) (goal : GoalForm) (gates : List Gate) (entries : List Entry) (input : Input)
    (lists : ListsRuns parts predicates f bounds ends gates entries) (given : IsInputFor f input) where
  abbrev w : World
  w = world_of f.parameters bounds.answers input

  abbrev held : List Entry
  held = entries_in gates entries w

  abbrev run : Run
  run = (lists input given).0

  longest : IsLongestWithin bounds.turns bounds.frames bounds.answers parts f input run
  longest = (lists input given).1

  told : AllZip (Tells parts predicates ends gates w input) held (reached_in run)
  told = (lists input given).2

  -- ---- the first entry

  first_of : (es : List Entry) → AllZip (Tells parts predicates ends gates w input) es (reached_in run) → (e : Entry) × (slice_get es 0 ≡ Some e) × (e.edge ≡ None)
  first_of [] h = absurd h
  first_of (e ∷ es) h = (e, refl, h.0.edge)

  pub first_holds : StartsFirst entries → FirstHolds gates entries w
  first_holds starts e there =
      let first = first_of held told in
      let kept = first_kept (λ (x : Entry). lit_holds gates x.guard w) entries first.0 first.1 in
      let zero_place : kept.0 ≡ 0 = starts kept.0 first.0 kept.1 first.2 in
      let same : first.0 ≡ e = same_Some first.0 e (sym kept.1 ∙ ap (slice_get entries) zero_place ∙ there) in
      ap (λ (x : Entry). lit_holds gates x.guard w) (sym same) ∙ kept.2

  -- ---- matches

  steps_are : steps_in gates entries w ≡ map (reached_step parts predicates) (reached_in run)
  steps_are = steps_told parts predicates ends gates w input held (reached_in run) told

  same_segments : (pattern : Form Letter) (first last : Bool) → HasMatch pattern first last (steps_in gates entries w) ↔ HasSegment first last pattern (path_in (record_of parts input predicates run))
  same_segments pattern first last =
      subst (λ (steps : List (Step Letter)). HasMatch pattern first last steps ↔ HasSegment first last pattern (path_in (record_of parts input predicates run))) (sym steps_are)
      (segments pattern (map (reached_step parts predicates) (reached_in run)) (path_in (record_of parts input predicates run)) (run_size parts predicates input run) (run_same parts predicates input run) first last)

  meets : (passing : Option PassingPattern) → MeetsPassing passing (steps_in gates entries w) ↔ hits.MeetsPassing passing (path_in (record_of parts input predicates run))
  meets None = (λ h. tt, λ h. tt)
  meets (Some p) = same_segments (form p.pattern) p.first p.last

  -- ---- ends

  ends_are : list_any (λ (e : Entry). lit_holds gates e.ended w) held ≡ counts ends (next parts input (last_in run))
  ends_are = end_told parts predicates ends gates w input held None run.first run.moves told longest.begins.moves

  -- ---- both ways

  pub hits_run : EntriesHit plan (form goal.pattern) gates entries w → InputHitsWithin parts f predicates plan ends bounds.turns bounds.frames bounds.answers goal input
  hits_run h =
      let counted : IsTrue (counts ends (next parts input (last_in run))) = sym ends_are ∙ h.counted in
      record {
        run = run;
        is_run = runs_by_ends parts f input ends run longest.begins counted;
        within = longest.within;
        hits = record {
          counted = ends_counted ends (next parts input (last_in run)) ∙ counted;
          goal_matches = (same_segments (form goal.pattern) plan.first plan.last).0 h.goal_matches;
          passing_matches = (meets plan.passing).0 h.passing_matches;
        };
      }

  pub run_hits : InputHitsWithin parts f predicates plan ends bounds.turns bounds.frames bounds.answers goal input → EntriesHit plan (form goal.pattern) gates entries w
  run_hits h =
      let other : IsLongestWithin bounds.turns bounds.frames bounds.answers parts f input h.run = (runs_within bounds.turns bounds.frames bounds.answers parts f input ends h.run h.is_run).0 h.within in
      let same : h.run ≡ run = one_longest bounds.turns bounds.frames bounds.answers parts f input h.run run other longest in
      let it : Hits plan ends goal (record_of parts input predicates run) = subst (λ (r : Run). Hits plan ends goal (record_of parts input predicates r)) same h.hits in
      record {
        counted = ends_are ∙ sym (ends_counted ends (next parts input (last_in run))) ∙ it.counted;
        goal_matches = (same_segments (form goal.pattern) plan.first plan.last).1 it.goal_matches;
        passing_matches = (meets plan.passing).1 it.passing_matches;
      }

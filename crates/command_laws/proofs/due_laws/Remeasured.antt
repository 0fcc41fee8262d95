-- What `measure` says of the inputs that `generate` made.
use Rattle.std.proofs.Common.{◌≡◌, ℕ, zero, suc, ◌+◌, ◌<◌, Bool, true, false, List, [], ◌∷◌, length, map, Option, Some, None, refl, sym, ap, subst, ◌∙◌, arith}
use Rattle.std.specs.Prelude.{◌-◌, slice_get}
use Rattle.std.specs.List.{AllZip, position_from}
use Rattle.std.specs.Option.{IsSomeAnd, option_map_or}
use Rattle.std.proofs.lemmas.Option.{slice_get_within}
use Rattle.c_meaning.specs.Runs.{IsRun, Run}
use Rattle.c_meaning.specs.Starts.{start_of}
use Rattle.c_meaning.specs.declared.ends.Ends.{Ends}
use Rattle.c_meaning.specs.declared.input.Input.{Input}
use Rattle.cfa.proofs.Eaches.{element_at}
use Rattle.cfa.specs.declared.parts.Function.{Function}
use Rattle.cfa.specs.declared.parts.GraphParts.{GraphParts}
use Rattle.cfa.specs.declared.state.Predicates.{Predicates}
use Rattle.goals.specs.GoalForm.{GoalForm}
use Rattle.goals.specs.declared.answer.Answer.{Answer}
use Rattle.goals.specs.declared.answer.Answer.TheVariants as answer
use Rattle.goals.specs.declared.plan.Plan.{Plan}
use Rattle.measurer_hits.specs.hits.Hits.{AreHits, Hits, HitsNumber}
use Rattle.measurer_hits.specs.hits.Laws.{OneListOfHits}
use Rattle.measurer.specs.Firsts.{has_number}
use Rattle.path_runner.specs.Laws.{RecordedRuns}
use Rattle.path_runner.specs.Paths.{path_of, record_of}
use Rattle.path_runner.specs.declared.path.PathRecord.{PathRecord}
use Rattle.unwinder_reach.specs.declared.reached.bounds.Bounds.{Bounds}
use Rattle.suite.proofs.Firsts.{any_contains, contains_any}
use Rattle.suite.specs.Generated.{IsAnswer, IsGenerated, IsMeasuredInput, Shown}
use Rattle.suite.specs.Made.{IsMade}
use Rattle.suite_problem.specs.declared.generated.Generated.{Generated}
use Rattle.unwinder.specs.Lists.{IsInputFor}
use Rattle.command.specs.Measure.{AreAllHits, answer_of}
use Rattle.command.specs.Runs.{run_of, runs_of}
use Rattle.command_laws.specs.made_laws.Laws.{MadeRunsAreShort}
use Rattle.command_laws.proofs.due_laws.Agreement.{entry_there, given, no_arrays}
use Rattle.command_laws.specs.due_laws.Remeasured.{EndWithin, IsMeasuredAlike, MadeInputsAreMeasured, MadeInputsAreMeasuredWhole}

-- ---- the first list that has a number

first_at : (test : List ℕ → Bool) (first place : ℕ) (lists : List (List ℕ)) (numbers : List ℕ) → slice_get lists place ≡ Some numbers → test numbers ≡ true
    → ((k : ℕ) (others : List ℕ) → k < place → slice_get lists k ≡ Some others → test others ≡ false) → position_from test first lists ≡ Some (first + place)
first_at test first place [] numbers there passes before = absurd (cc)
first_at test first zero (list ∷ lists) numbers there passes before =
    let same : list ≡ numbers = cc in
    let here : test list ≡ true = ap test same ∙ passes in
    let number : first ≡ first + 0 = omega arith in
    rw here (ap Some number)
first_at test first (suc place) (list ∷ lists) numbers there passes before =
    let here = before 0 list (omega arith) refl in
    let rest = first_at test (first + 1) place lists numbers there passes (λ k others less is. before (suc k) others (omega (arith, less)) is) in
    let number : first + 1 + place ≡ first + suc place = omega arith in
    rw here (rest ∙ ap Some number)

none_at_all : (test : List ℕ → Bool) (first : ℕ) (lists : List (List ℕ)) → ((k : ℕ) (others : List ℕ) → slice_get lists k ≡ Some others → test others ≡ false) → position_from test first lists ≡ None
none_at_all test first [] fails = refl
none_at_all test first (list ∷ lists) fails = rw (fails 0 list refl) (none_at_all test (first + 1) lists (λ k others is. fails (suc k) others is))

no_answer : (a : Answer) → (let x : Option Answer = Some a in let y : Option Answer = None in x ≡ y) → ⊥
no_answer a e = absurd (cc)

same_list : (a b : List ℕ) → (let x : Option (List ℕ) = Some a in let y : Option (List ℕ) = Some b in x ≡ y) → a ≡ b
same_list a b e = cc

-- ---- a generation, whose inputs are measured

module _ (recorded : RecordedRuns) (one_list : OneListOfHits) (graph : GraphParts) (f : Function) (p : Predicates) (plan : Plan) (bounds : Bounds) (ends : Ends) (budget : ℕ) (made : Generated) (shown : List Shown)
    (steps : ℕ) (generated : IsGenerated graph f p plan bounds ends budget made shown) (enough : EndWithin graph f ends steps made.inputs) where
  abbrev Path : Input → PathRecord
  Path input = path_of graph input p steps (start_of graph f input.words)

  -- the path of a made input is that of each of its runs
  is_path : (place : ℕ) (input : Input) (run : Run) → slice_get made.inputs place ≡ Some input → IsRun graph f input ends run → Path input ≡ record_of graph input p run
  is_path place input run there is = (recorded graph f input p steps ends run is (enough place input run there is)).0

  -- a made input, the numbers that were listed of it, which are those of the goals that its path hits
  record Listed (place : ℕ) (input : Input) : Type 0 where
    numbers : List ℕ
    listed : slice_get made.hits place ≡ Some numbers
    exact : AreHits plan ends (Path input) numbers

  listed_of : (place : ℕ) (input : Input) → slice_get made.inputs place ≡ Some input → Listed place input
  listed_of place input there =
      let measured = generated.answered.inputs place input there in
      record {
        numbers = measured.numbers;
        listed = measured.listed;
        exact = subst (λ (run : PathRecord). AreHits plan ends run measured.numbers) (sym (is_path place input measured.run there measured.is_made.is_run)) measured.hits;
      }

  -- the made inputs are inputs of the function
  abbrev AreGiven : Type 0
  AreGiven = (input : Input) (run : Run) → IsMade graph f p bounds ends input run → IsInputFor f input

  -- ---- a goal and a made input

  module _ (place : ℕ) (goal : GoalForm) (there : slice_get plan.goals place ≡ Some goal) where
    abbrev HitsIt : PathRecord → Type 0
    HitsIt run = Hits plan ends goal run

    number_of_hit : (run : PathRecord) → HitsIt run → HitsNumber plan ends run (place + 1)
    number_of_hit run hits =
        let P : GoalForm → Type 0 = λ g. Hits plan ends g run in
        record { place = place; is = omega arith; hits = subst (λ (o : Option GoalForm). IsSomeAnd o P) (sym there) hits }

    hit_of_number : (run : PathRecord) → HitsNumber plan ends run (place + 1) → HitsIt run
    hit_of_number run h =
        let P : GoalForm → Type 0 = λ g. Hits plan ends g run in
        let is = h.is in
        let same : h.place ≡ place = omega (arith, is) in
        subst (λ (o : Option GoalForm). IsSomeAnd o P) (ap (slice_get plan.goals) same ∙ there) h.hits

    -- where the number isn't listed of an input, or it is
    module _ (at : ℕ) (input : Input) (numbers : List ℕ) (input_is : slice_get made.inputs at ≡ Some input) (listed : slice_get made.hits at ≡ Some numbers) where
      exact : AreHits plan ends (Path input) numbers
      exact =
          let own = listed_of at input input_is in
          subst (λ (ns : List ℕ). AreHits plan ends (Path input) ns) (same_list own.numbers numbers (sym own.listed ∙ listed)) own.exact

      has_it : (run : Run) → IsRun graph f input ends run → HitsIt (record_of graph input p run) → has_number (place + 1) numbers ≡ true
      has_it run is hits =
          let mine : HitsIt (Path input) = subst HitsIt (sym (is_path at input run input_is is)) hits in
          any_contains numbers (place + 1) ((exact.exact (place + 1)).1 (number_of_hit (Path input) mine))

      -- the run that was measured of it
      abbrev measured : IsMeasuredInput graph f p plan bounds ends made at input
      measured = generated.answered.inputs at input input_is

      lacks_it : (HitsIt (record_of graph input p measured.run) → ⊥) → has_number (place + 1) numbers ≡ false
      lacks_it none = by (has_number (place + 1) numbers) refl
        where
          by : (b : Bool) → has_number (place + 1) numbers ≡ b → has_number (place + 1) numbers ≡ false
          by false is = is
          by true is =
              let hits = hit_of_number (Path input) ((exact.exact (place + 1)).0 (contains_any numbers (place + 1) is)) in
              absurd (none (subst HitsIt (is_path at input measured.run input_is measured.is_made.is_run) hits))

    -- the input beside a list
    input_at : (at : ℕ) (numbers : List ℕ) → slice_get made.hits at ≡ Some numbers → (input : Input) × (slice_get made.inputs at ≡ Some input)
    input_at at numbers listed =
        let within = slice_get_within made.hits at numbers listed in
        let count = generated.answered.hits_count in
        element_at made.inputs at (omega (arith, within, count))

    -- ---- its answer

    covered_alike : (covering : ℕ) → IsAnswer graph f p plan bounds ends made.inputs generated.made_for (place + 1) goal (answer.Covered covering) → answer_of made.hits (place + 1) ≡ answer.Covered covering
    covered_alike covering is =
        let own = listed_of (covering - 1) is.input is.input_is in
        let has = has_it (covering - 1) is.input own.numbers is.input_is own.listed is.hits.run is.hits.is_run is.hits.hits in
        let some = is.some in
        let found = first_at (has_number (place + 1)) 1 (covering - 1) made.hits own.numbers own.listed has (λ k others less listed.
        let it = input_at k others listed in
        let run = measured k it.0 others it.1 listed in
        lacks_it k it.0 others it.1 listed (λ hits. is.first k it.0 (omega (arith, less, some)) it.1 (record { run = run.run; is_run = run.is_made.is_run; hits = hits }))) in
        let number : 1 + (covering - 1) ≡ covering = omega (arith, some) in
        ap (λ (o : Option ℕ). option_map_or answer.Covered o answer.Missed) (found ∙ ap Some number)

    refuted_alike : AreGiven → IsAnswer graph f p plan bounds ends made.inputs generated.made_for (place + 1) goal answer.Refuted → answer_of made.hits (place + 1) ≡ answer.Missed
    refuted_alike are none =
        ap (λ (o : Option ℕ). option_map_or answer.Covered o answer.Missed) (none_at_all (has_number (place + 1)) 1 made.hits (λ k others listed.
        let it = input_at k others listed in
        let run = measured k it.0 others it.1 listed in
        lacks_it k it.0 others it.1 listed (λ hits. none it.0 (are it.0 run.run run.is_made) (record { run = run.run; is_run = run.is_made.is_run; within = run.is_made.within; hits = hits }))))

    said_alike : AreGiven → (said : Option Answer) → slice_get made.answers place ≡ said → IsMeasuredAlike said (answer_of made.hits (place + 1))
    said_alike are None is =
        let within = slice_get_within plan.goals place goal there in
        let count = generated.answer_count in
        let some = element_at made.answers place (omega (arith, within, count)) in
        no_answer some.0 (sym some.1 ∙ is)
    said_alike are (Some (answer.Covered covering)) is = covered_alike covering (generated.answered.answers place goal (answer.Covered covering) there is)
    said_alike are (Some answer.Missed) is = generated.answered.answers place goal answer.Missed there is
    said_alike are (Some answer.Refuted) is = refuted_alike are (generated.answered.answers place goal answer.Refuted there is)
    said_alike are (Some answer.Undecided) is = tt

  -- ---- the lists

  same_hits : (inputs : List Input) (hits theirs : List (List ℕ)) → AllZip (AreHits plan ends) (map Path inputs) hits → length theirs ≡ length inputs
      → ((place : ℕ) (input : Input) → slice_get inputs place ≡ Some input → (numbers : List ℕ) × (slice_get theirs place ≡ Some numbers) × AreHits plan ends (Path input) numbers) → hits ≡ theirs
  same_hits [] [] [] zip count each = refl
  same_hits [] [] (t ∷ theirs) zip count each = absurd (omega (arith, count))
  same_hits [] (h ∷ hits) theirs zip count each = absurd zip
  same_hits (i ∷ inputs) [] theirs zip count each = absurd zip
  same_hits (i ∷ inputs) (h ∷ hits) [] zip count each = absurd (omega (arith, count))
  same_hits (i ∷ inputs) (h ∷ hits) (t ∷ theirs) zip count each =
      let own = each 0 i refl in
      let first : h ≡ t = one_list plan ends (Path i) h own.0 zip.0 own.2 ∙ sym (same_list t own.0 own.1) in
      let rest = same_hits inputs hits theirs zip.1 (omega (arith, count)) (λ place input is. each (suc place) input is) in
      cc

  measured_hits : (hits : List (List ℕ)) → AreAllHits plan ends (runs_of graph f p steps made.inputs) hits → hits ≡ made.hits
  unfolding run_of
  measured_hits hits are =
      same_hits made.inputs hits made.hits are generated.answered.hits_count (λ place input there. let own = listed_of place input there in (own.numbers, own.listed, own.exact))

pub made_inputs_are_measured : RecordedRuns → OneListOfHits → MadeInputsAreMeasured
made_inputs_are_measured recorded one_list graph name entry p plan bounds ends budget made shown steps hits entry_is generated enough are =
    let f = entry.function in
    let arrays = no_arrays graph name entry entry_is in
    let same = measured_hits recorded one_list graph f p plan bounds ends budget made shown steps generated enough hits are in (
      same,
      λ place goal there.
          let alike = said_alike recorded one_list graph f p plan bounds ends budget made shown steps generated enough place goal there (λ input run made_one. given graph entry p plan bounds ends goal arrays input run made_one)
          (slice_get made.answers place) refl in
          subst (λ (lists : List (List ℕ)). IsMeasuredAlike (slice_get made.answers place) (answer_of lists (place + 1))) (sym same) alike,
    )

-- the runs of inputs that were made are short
pub made_inputs_are_measured_whole : MadeRunsAreShort → RecordedRuns → OneListOfHits → MadeInputsAreMeasuredWhole
made_inputs_are_measured_whole short recorded one_list graph name entry p plan bounds ends budget made shown steps hits g entry_is generated enough are =
    let own = entry_there graph name entry entry_is in
    let arrays = no_arrays graph name entry entry_is in
    let within : EndWithin graph entry.function ends steps made.inputs =
    λ place input run there is.
    let less = short graph entry.number entry.function p plan bounds ends budget made shown g own arrays generated place input run there is in
    omega (arith, less, enough) in
    made_inputs_are_measured recorded one_list graph name entry p plan bounds ends budget made shown steps hits entry_is generated within are

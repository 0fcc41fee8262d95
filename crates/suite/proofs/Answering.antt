-- One goal more is answered.
use Rattle.std.proofs.Common.{◌≡◌, ℕ, suc, ◌+◌, ◌-◌, ◌<◌, ◌≤◌, inl, inr, true, false, List, [], ◌∷◌, ◌++◌, map, take, length, Some, None, Option, refl, sym, ap, subst, ◌∙◌, arith, length-append, append-nil, append_assoc}
use Rattle.std.specs.Prelude.{slice_get}
use Rattle.std.specs.List.{Contains}
use Rattle.std.proofs.lemmas.List.{map-append}
use Rattle.std.proofs.lemmas.Option.{same_Some, slice_get_within}
use Rattle.c_meaning.proofs.RunLaws.{one_run}
use Rattle.c_meaning.proofs.Slices.{slice_get_front, slice_get_kept, slice_get_last, slice_get_push}
use Rattle.c_meaning.specs.Runs.{Run}
use Rattle.c_meaning.specs.declared.ends.Ends.{Ends}
use Rattle.c_meaning.specs.declared.input.Input.{Input}
use Rattle.c_values.specs.declared.kinds.Kind.{Kind}
use Rattle.cfa.proofs.Exits.{given, taken}
use Rattle.cfa.specs.declared.parts.Function.{Function}
use Rattle.cfa.specs.declared.parts.GraphParts.{GraphParts}
use Rattle.cfa.specs.declared.state.Predicates.{Predicates}
use Rattle.goals.specs.GoalForm.{GoalForm}
use Rattle.goals.specs.declared.answer.Answer.{Answer}
use Rattle.goals.specs.declared.answer.Answer.TheVariants.{Covered, Missed, Refuted, Undecided}
use Rattle.goals.specs.declared.plan.Plan.{Plan}
use Rattle.measurer_hits.specs.hits.Hits.{Hits, HitsNumber}
use Rattle.measurer_hits.specs.hits.Inputs.{InputHits, InputHitsWithin}
use Rattle.measurer.specs.Firsts.{first_hit, has_number}
use Rattle.path_runner.specs.Paths.{record_of}
use Rattle.unwinder_reach.specs.declared.reached.bounds.Bounds.{Bounds}
use Rattle.suite.specs.Generated.{AreAnswered, IsAnswer, IsCovered, IsMeasuredInput, IsShown, NoEarlierHits, Shown, seen_also, undecided_from}
use Rattle.suite.specs.Progress.{AddsInput, AllAnswered, AnswersMore, IsNext, Tried, nothing}
use Rattle.suite_problem.specs.declared.generated.Generated.{Generated}
use Rattle.suite.proofs.Firsts.{any_contains, contains_any, found, missing, none_at, rises_further, there_at}

-- ---- undecided goals

undecided_push : (n : ℕ) (answers : List Answer) (a : Answer) → undecided_from n (answers ++ a ∷ []) ≡ undecided_from n answers ++ undecided_from (n + length answers) (a ∷ [])
undecided_push n [] a = let e : n + 0 ≡ n = omega arith in ap (λ k. undecided_from k (a ∷ [])) (sym e)
undecided_push n (Covered i ∷ answers) a = let e : n + 1 + length answers ≡ n + suc (length answers) = omega arith in undecided_push (n + 1) answers a ∙ ap (λ k. undecided_from (n + 1) answers ++ undecided_from k (a ∷ [])) e
undecided_push n (Missed ∷ answers) a = let e : n + 1 + length answers ≡ n + suc (length answers) = omega arith in undecided_push (n + 1) answers a ∙ ap (λ k. undecided_from (n + 1) answers ++ undecided_from k (a ∷ [])) e
undecided_push n (Refuted ∷ answers) a = let e : n + 1 + length answers ≡ n + suc (length answers) = omega arith in undecided_push (n + 1) answers a ∙ ap (λ k. undecided_from (n + 1) answers ++ undecided_from k (a ∷ [])) e
undecided_push n (Undecided ∷ answers) a = let e : n + 1 + length answers ≡ n + suc (length answers) = omega arith in ap (λ ns. n ∷ ns) (undecided_push (n + 1) answers a ∙ ap (λ k. undecided_from (n + 1) answers ++ undecided_from k (a ∷ [])) e)

module _ (parts : GraphParts) (f : Function) (p : Predicates) (plan : Plan) (bounds : Bounds) (ends : Ends) where
  abbrev HitsOf : GoalForm → Input → Run → Type 0
  HitsOf goal input run = Hits plan ends goal (record_of parts input p run)

  abbrev HitsIt : GoalForm → Input → Type 0
  HitsIt goal input = InputHits parts f p plan ends goal input

  -- ---- what an input with its numbers says of a goal

  number_hits : (place : ℕ) (goal : GoalForm) (input : Input) (run : Run) → slice_get plan.goals place ≡ Some goal → HitsNumber plan ends (record_of parts input p run) (place + 1) → HitsOf goal input run
  number_hits place goal input run there h =
      let P : GoalForm → Type 0 = λ g. HitsOf g input run in
      let it = taken P (slice_get plan.goals h.place) h.hits in
      let is = h.is in
      let same : h.place ≡ place = omega (arith, is) in
      subst P (same_Some it.0 goal (sym it.1 ∙ ap (slice_get plan.goals) same ∙ there)) it.2

  hits_number : (place : ℕ) (goal : GoalForm) (input : Input) (run : Run) → slice_get plan.goals place ≡ Some goal → HitsOf goal input run → HitsNumber plan ends (record_of parts input p run) (place + 1)
  hits_number place goal input run there h =
      let P : GoalForm → Type 0 = λ g. HitsOf g input run in
      record { place = place; is = omega arith; hits = given P (slice_get plan.goals place) goal there h }

  -- an input whose numbers leave a goal out has no run that hits it
  left_out : (made : Generated) (at place : ℕ) (goal : GoalForm) (input : Input) (numbers : List ℕ) → slice_get plan.goals place ≡ Some goal → IsMeasuredInput parts f p plan bounds ends made at input → slice_get made.hits at ≡ Some numbers
      → has_number (place + 1) numbers ≡ false → HitsIt goal input → ⊥
  left_out made at place goal input numbers there measured listed none h =
      let same : h.run ≡ measured.run = one_run parts f input ends ends h.run measured.run h.is_run measured.is_made.is_run in
      let hits : HitsOf goal input measured.run = subst (HitsOf goal input) same h.hits in
      let among : Contains measured.numbers (place + 1) = (measured.hits.exact (place + 1)).1 (hits_number place goal input measured.run there hits) in
      let own : measured.numbers ≡ numbers = same_Some measured.numbers numbers (sym measured.listed ∙ listed) in
      let passes : has_number (place + 1) numbers ≡ true = ap (has_number (place + 1)) (sym own) ∙ any_contains measured.numbers (place + 1) among in
      cc

  -- and one whose numbers have it, one within the bounds that does
  hit_within : (made : Generated) (at place : ℕ) (goal : GoalForm) (input : Input) (numbers : List ℕ) → slice_get plan.goals place ≡ Some goal → IsMeasuredInput parts f p plan bounds ends made at input → slice_get made.hits at ≡ Some numbers
      → has_number (place + 1) numbers ≡ true → InputHitsWithin parts f p plan ends bounds.turns bounds.frames bounds.answers goal input
  hit_within made at place goal input numbers there measured listed has =
      let own : measured.numbers ≡ numbers = same_Some measured.numbers numbers (sym measured.listed ∙ listed) in
      let among : Contains measured.numbers (place + 1) = contains_any measured.numbers (place + 1) (ap (has_number (place + 1)) own ∙ has) in
      record {
        run = measured.run;
        is_run = measured.is_made.is_run;
        within = measured.is_made.within;
        hits = number_hits place goal input measured.run there ((measured.hits.exact (place + 1)).0 among);
      }

  module _ (budget : ℕ) (old : Generated) (made_for : List ℕ) (shown : List Shown) (h : AreAnswered parts f p plan bounds ends budget old made_for shown)
      (goal : GoalForm) (there : slice_get plan.goals (length old.answers) ≡ Some goal) where
    abbrev number : ℕ
    number = length old.answers + 1

    -- each input was made for one of the goals so far
    made_below : (place goal_of : ℕ) → slice_get made_for place ≡ Some goal_of → (0 < goal_of) × (goal_of ≤ length old.answers)
    made_below place goal_of is =
        let it = h.covers place goal_of is in
        let within = slice_get_within old.answers (goal_of - 1) (Covered (place + 1)) it.1 in
        let some = it.0 in
        (some, omega (arith, some, within))

    -- where no list has the goal's number, no input hits it
    none_so_far : first_hit old.hits number ≡ None → (place : ℕ) (input : Input) → slice_get old.inputs place ≡ Some input → HitsIt goal input → ⊥
    none_so_far none place input is hits =
        let few = slice_get_within old.inputs place input is in
        let count = h.hits_count in
        let numbers = there_at old.hits place (omega (arith, few, count)) in
        let fails = none_at (has_number number) old.hits place numbers.0 (missing (has_number number) 1 old.hits none) numbers.1 in
        left_out old place (length old.answers) goal input numbers.0 there (h.inputs place input is) numbers.1 fails hits

    -- the first list that has it is that of an input that covers it
    covered_so_far : (covering : ℕ) → first_hit old.hits number ≡ Some covering → IsCovered parts f p plan bounds ends old.inputs made_for number goal covering
    covered_so_far covering is =
        let first = found (has_number number) 1 covering old.hits is in
        let some = first.from in
        let few = slice_get_within old.hits (covering - 1) first.goals first.here in
        let count = h.hits_count in
        let same = h.made_for_count in
        let own = there_at old.inputs (covering - 1) (omega (arith, few, count)) in
        let its_goal = there_at made_for (covering - 1) (omega (arith, few, count, same)) in
        let below = (made_below (covering - 1) its_goal.0 its_goal.1).1 in
        record {
          some = some;
          input = own.0;
          input_is = own.1;
          goal_of = its_goal.0;
          goal_is = its_goal.1;
          not_later = omega (arith, below);
          hits = hit_within old (covering - 1) (length old.answers) goal own.0 first.goals there (h.inputs (covering - 1) own.0 own.1) first.here first.passes;
          first = λ place earlier before at hits.
              let numbers = there_at old.hits place (omega (arith, before, few)) in
              let kept = slice_get_kept (covering - 1) old.hits place (omega (arith, before)) ∙ numbers.1 in
              let fails = none_at (has_number number) (take (covering - 1) old.hits) place numbers.0 first.none_before kept in
              left_out old place (length old.answers) goal earlier numbers.0 there (h.inputs place earlier at) numbers.1 fails hits;
        }

    -- ---- an answer without a new input

    abbrev with_answer : Answer → Generated
    with_answer a = record { answers = old.answers ++ a ∷ []; inputs = old.inputs; taken = old.taken; hits = old.hits }

    measured_still : (a : Answer) (place : ℕ) (input : Input) → IsMeasuredInput parts f p plan bounds ends old place input → IsMeasuredInput parts f p plan bounds ends (with_answer a) place input
    measured_still a place input m = record { run = m.run; is_made = m.is_made; numbers = m.numbers; listed = m.listed; hits = m.hits; taken = m.taken }

    covers_still : (a : Answer) (place goal_of : ℕ) → slice_get made_for place ≡ Some goal_of → (0 < goal_of) × (slice_get (old.answers ++ a ∷ []) (goal_of - 1) ≡ Some (Covered (place + 1)))
    covers_still a place goal_of is =
        let it = h.covers place goal_of is in
        (it.0, slice_get_front old.answers (a ∷ []) (goal_of - 1) (slice_get_within old.answers (goal_of - 1) (Covered (place + 1)) it.1) ∙ it.1)

    shown_more : (a : Answer) (more : List Shown) → map (λ (one : Shown). one.0) more ≡ undecided_from number (a ∷ []) → map (λ (one : Shown). one.0) (shown ++ more) ≡ undecided_from 1 (old.answers ++ a ∷ [])
    shown_more a more are =
        let e : number ≡ 1 + length old.answers = omega arith in
        map-append (λ (one : Shown). one.0) shown more
        ∙ (λ i. h.shown_numbers i ++ (are ∙ ap (λ n. undecided_from n (a ∷ [])) e) i)
        ∙ sym (undecided_push 1 old.answers a)

    pub pushed : (a : Answer) (more : List Shown) → IsAnswer parts f p plan bounds ends old.inputs made_for number goal a → map (λ (one : Shown). one.0) more ≡ undecided_from number (a ∷ [])
        → ((place : ℕ) (one : Shown) → slice_get (shown ++ more) place ≡ Some one → IsShown parts f p plan bounds ends budget one) → AreAnswered parts f p plan bounds ends budget (with_answer a) made_for (shown ++ more)
    pushed a more is are each = record {
      rise = h.rise;
      made_for_count = h.made_for_count;
      taken_count = h.taken_count;
      hits_count = h.hits_count;
      inputs = λ place input at. measured_still a place input (h.inputs place input at);
      covers = covers_still a;
      answers = λ place g b at own. elim (slice_get_push old.answers a place b own) [
        | inl it ↦ h.answers place g b at it.1
        | inr it ↦
            let goals : goal ≡ g = same_Some goal g (sym there ∙ ap (slice_get plan.goals) (sym it.0) ∙ at) in
            let here : IsAnswer parts f p plan bounds ends old.inputs made_for (place + 1) goal a = subst (λ n. IsAnswer parts f p plan bounds ends old.inputs made_for (n + 1) goal a) (sym it.0) is in
            let whole : IsAnswer parts f p plan bounds ends old.inputs made_for (place + 1) g a = subst (λ (x : GoalForm). IsAnswer parts f p plan bounds ends old.inputs made_for (place + 1) x a) goals here in
            subst (λ (x : Answer). IsAnswer parts f p plan bounds ends old.inputs made_for (place + 1) g x) (sym it.1) whole
      ];
      shown_numbers = shown_more a more are;
      shown_each = each;
    }

    shown_same : (place : ℕ) (one : Shown) → slice_get (shown ++ []) place ≡ Some one → IsShown parts f p plan bounds ends budget one
    shown_same place one at = h.shown_each place one (ap (λ (xs : List Shown). slice_get xs place) (sym (append-nil shown)) ∙ at)

    shown_one : (one : Shown) → IsShown parts f p plan bounds ends budget one → (place : ℕ) (other : Shown) → slice_get (shown ++ one ∷ []) place ≡ Some other → IsShown parts f p plan bounds ends budget other
    shown_one one is place other at = elim (slice_get_push shown one place other at) [
      | inl it ↦ h.shown_each place other it.1
      | inr it ↦ subst (λ (x : Shown). IsShown parts f p plan bounds ends budget x) (sym it.1) is
    ]

    -- ---- an input that is made

    module _ (none : first_hit old.hits number ≡ None) (input : Input) (mid : Generated) (adds : AddsInput parts f p plan bounds ends goal input old mid) (covering : ℕ) (last : covering ≡ length mid.inputs) where
      abbrev answer : Answer
      answer = Covered covering

      abbrev record_taken : List (Kind × ℕ)
      record_taken = (record_of parts input p adds.run).taken

      abbrev new : Generated
      new = record {
        answers = old.answers ++ answer ∷ [];
        inputs = old.inputs ++ input ∷ [];
        taken = old.taken ++ record_taken ∷ [];
        hits = old.hits ++ adds.numbers ∷ [];
      }

      is_last : covering ≡ length old.inputs + 1
      is_last = last ∙ ap (λ (g : Generated). length g.inputs) adds.is ∙ length-append old.inputs (input ∷ [])

      count_more : {X : Type 0} (xs : List X) (x : X) → length (xs ++ x ∷ []) ≡ length xs + 1
      count_more xs x = length-append xs (x ∷ [])

      measured_old : (place : ℕ) (x : Input) → place < length old.inputs → IsMeasuredInput parts f p plan bounds ends old place x → IsMeasuredInput parts f p plan bounds ends new place x
      measured_old place x lt m =
          let hits_many = h.hits_count in
          let taken_many = h.taken_count in
          record {
            run = m.run;
            is_made = m.is_made;
            numbers = m.numbers;
            listed = slice_get_front old.hits (adds.numbers ∷ []) place (omega (arith, lt, hits_many)) ∙ m.listed;
            hits = m.hits;
            taken = slice_get_front old.taken (record_taken ∷ []) place (omega (arith, lt, taken_many)) ∙ m.taken;
          }

      measured_new : IsMeasuredInput parts f p plan bounds ends new (length old.inputs) input
      measured_new = record {
        run = adds.run;
        is_made = adds.made;
        numbers = adds.numbers;
        listed = ap (slice_get (old.hits ++ adds.numbers ∷ [])) (sym h.hits_count) ∙ slice_get_last old.hits adds.numbers;
        hits = adds.hits;
        taken = ap (slice_get (old.taken ++ record_taken ∷ [])) (sym h.taken_count) ∙ slice_get_last old.taken record_taken;
      }

      measured : (place : ℕ) (x : Input) → slice_get (old.inputs ++ input ∷ []) place ≡ Some x → IsMeasuredInput parts f p plan bounds ends new place x
      measured place x at = elim (slice_get_push old.inputs input place x at) [
        | inl it ↦ measured_old place x it.0 (h.inputs place x it.1)
        | inr it ↦
            let here : IsMeasuredInput parts f p plan bounds ends new place input = subst (λ n. IsMeasuredInput parts f p plan bounds ends new n input) (sym it.0) measured_new in
            subst (λ (y : Input). IsMeasuredInput parts f p plan bounds ends new place y) (sym it.1) here
      ]

      covers : (place goal_of : ℕ) → slice_get (made_for ++ number ∷ []) place ≡ Some goal_of → (0 < goal_of) × (slice_get (old.answers ++ answer ∷ []) (goal_of - 1) ≡ Some (Covered (place + 1)))
      covers place goal_of at = elim (slice_get_push made_for number place goal_of at) [
        | inl it ↦ covers_still answer place goal_of it.1
        | inr it ↦
            let many = h.made_for_count in
            let own = it.0 in
            let is = it.1 in
            let some : 0 < goal_of = omega (arith, is) in
            let place_is : covering ≡ place + 1 = is_last ∙ omega (arith, own, many) in
            let index : goal_of - 1 ≡ length old.answers = omega (arith, is) in
            (some, ap (slice_get (old.answers ++ answer ∷ [])) index ∙ slice_get_last old.answers answer ∙ ap (λ n. Some (Covered n)) place_is)
      ]

      -- an answer of an earlier goal stays true
      still : (n : ℕ) (g : GoalForm) (a : Answer) → n < number → IsAnswer parts f p plan bounds ends old.inputs made_for n g a → IsAnswer parts f p plan bounds ends (old.inputs ++ input ∷ []) (made_for ++ number ∷ []) n g a
      still n g (Covered c) lt it =
          let some = it.some in
          let within = slice_get_within old.inputs (c - 1) it.input it.input_is in
          let its_goal = slice_get_within made_for (c - 1) it.goal_of it.goal_is in
          record {
            some = some;
            input = it.input;
            input_is = slice_get_front old.inputs (input ∷ []) (c - 1) within ∙ it.input_is;
            goal_of = it.goal_of;
            goal_is = slice_get_front made_for (number ∷ []) (c - 1) its_goal ∙ it.goal_is;
            not_later = it.not_later;
            hits = it.hits;
            first = λ place earlier before at. it.first place earlier before (sym (slice_get_front old.inputs (input ∷ []) place (omega (arith, before, within))) ∙ at);
          }
      still n g Missed lt it = it
      still n g Refuted lt it = it
      still n g Undecided lt it = λ place goal_of x at own before hits.
          elim (slice_get_push old.inputs input place x at) [
            | inl y ↦
                let many = h.made_for_count in
                let within = y.0 in
                it place goal_of x y.1 (sym (slice_get_front made_for (number ∷ []) place (omega (arith, within, many))) ∙ own) before hits
            | inr y ↦
                let many = h.made_for_count in
                let index : place ≡ length made_for = y.0 ∙ sym many in
                let same : number ≡ goal_of = same_Some number goal_of (sym (slice_get_last made_for number) ∙ ap (slice_get (made_for ++ number ∷ [])) (sym index) ∙ own) in
                absurd (omega (arith, same, lt, before))
          ]

      covered : IsCovered parts f p plan bounds ends (old.inputs ++ input ∷ []) (made_for ++ number ∷ []) number goal covering
      covered =
          let is = is_last in
          let index : covering - 1 ≡ length old.inputs = omega (arith, is) in
          let its_goal : covering - 1 ≡ length made_for = index ∙ sym h.made_for_count in
          record {
            some = omega (arith, is);
            input = input;
            input_is = ap (slice_get (old.inputs ++ input ∷ [])) index ∙ slice_get_last old.inputs input;
            goal_of = number;
            goal_is = ap (slice_get (made_for ++ number ∷ [])) its_goal ∙ slice_get_last made_for number;
            not_later = omega arith;
            hits = record { run = adds.run; is_run = adds.made.is_run; within = adds.made.within; hits = adds.hit };
            first = λ place earlier before at.
                let lt : place < length old.inputs = omega (arith, before, index) in
                none_so_far none place earlier (sym (slice_get_front old.inputs (input ∷ []) place lt) ∙ at);
          }

      answers : (place : ℕ) (g : GoalForm) (b : Answer) → slice_get plan.goals place ≡ Some g → slice_get (old.answers ++ answer ∷ []) place ≡ Some b → IsAnswer parts f p plan bounds ends (old.inputs ++ input ∷ []) (made_for ++ number ∷ []) (place + 1) g b
      answers place g b at own = elim (slice_get_push old.answers answer place b own) [
        | inl it ↦ (let lt = it.0 in still (place + 1) g b (omega (arith, lt)) (h.answers place g b at it.1))
        | inr it ↦
            let goals : goal ≡ g = same_Some goal g (sym there ∙ ap (slice_get plan.goals) (sym it.0) ∙ at) in
            let here : IsCovered parts f p plan bounds ends (old.inputs ++ input ∷ []) (made_for ++ number ∷ []) (place + 1) goal covering = subst (λ n. IsCovered parts f p plan bounds ends (old.inputs ++ input ∷ []) (made_for ++ number ∷ []) (n + 1) goal covering) (sym it.0) covered in
            let whole : IsCovered parts f p plan bounds ends (old.inputs ++ input ∷ []) (made_for ++ number ∷ []) (place + 1) g covering = subst (λ (x : GoalForm). IsCovered parts f p plan bounds ends (old.inputs ++ input ∷ []) (made_for ++ number ∷ []) (place + 1) x covering) goals here in
            subst (λ (x : Answer). IsAnswer parts f p plan bounds ends (old.inputs ++ input ∷ []) (made_for ++ number ∷ []) (place + 1) g x) (sym it.1) whole
      ]

      pub made : AreAnswered parts f p plan bounds ends budget new (made_for ++ number ∷ []) (shown ++ [])
      made =
          let for_many = h.made_for_count in
          let taken_many = h.taken_count in
          let hits_many = h.hits_count in
          let a = count_more made_for number in
          let b = count_more old.inputs input in
          let c = count_more old.taken record_taken in
          let d = count_more old.hits adds.numbers in
          record {
            rise = λ k lt. rises_further made_for number h.rise (λ j x at. let below = (made_below j x at).1 in omega (arith, below)) k (omega (arith, lt, a));
            made_for_count = omega (arith, a, b, for_many);
            taken_count = omega (arith, c, b, taken_many);
            hits_count = omega (arith, d, b, hits_many);
            inputs = measured;
            covers = covers;
            answers = answers;
            shown_numbers = shown_more answer [] refl;
            shown_each = shown_same;
          }

    -- ---- the next answer

    abbrev pub Next : Generated → Option (List Shown) → Option (List Shown) → Answer → Type 0
    Next mid seen_before seen_after a = IsNext parts f p plan bounds ends budget number goal old mid seen_before seen_after a

    abbrev With : Generated → Answer → Generated
    With mid a = record { answers = mid.answers ++ a ∷ []; inputs = mid.inputs; taken = mid.taken; hits = mid.hits }

    abbrev More : Generated → Option (List Shown) → Option (List Shown) → Type 0
    More new seen_before seen_after = AnswersMore parts f p plan bounds ends budget new shown seen_before seen_after

    seen_none : (seen : Option (List Shown)) → seen ≡ seen_also seen []
    seen_none None = refl
    seen_none (Some list) = ap Some (sym (append-nil list))

    same_mid : (mid : Generated) (a : Answer) → mid ≡ old → with_answer a ≡ With mid a
    same_mid mid a e = ap (λ (g : Generated). With g a) (sym e)

    tried_more : (mid : Generated) (seen_before seen_after : Option (List Shown)) (a : Answer) → first_hit old.hits number ≡ None → Tried parts f p plan bounds ends budget number goal old mid seen_before seen_after a → More (With mid a) seen_before seen_after
    tried_more mid seen_before seen_after (Covered covering) none (input, adds, last, seen) =
        let answered = made none input mid adds covering last in
        record {
          made_for = made_for ++ number ∷ [];
          more = [];
          answered = subst (λ (g : Generated). AreAnswered parts f p plan bounds ends budget (With g (Covered covering)) (made_for ++ number ∷ []) (shown ++ [])) (sym adds.is) answered;
          seen = seen ∙ seen_none seen_before;
        }
    tried_more mid seen_before seen_after Missed none tried = absurd tried
    tried_more mid seen_before seen_after Refuted none (nobody, same, seen) = record {
      made_for = made_for;
      more = [];
      answered = subst (λ (g : Generated). AreAnswered parts f p plan bounds ends budget g made_for (shown ++ [])) (same_mid mid Refuted same) (pushed Refuted [] nobody refl shown_same);
      seen = seen ∙ seen_none seen_before;
    }
    tried_more mid seen_before seen_after Undecided none (one, own, is, same, seen) =
        let nothing : NoEarlierHits parts f p plan bounds ends old.inputs made_for number goal = λ place goal_of x at for before hits. none_so_far none place x at hits in
        record {
          made_for = made_for;
          more = one ∷ [];
          answered = subst (λ (g : Generated). AreAnswered parts f p plan bounds ends budget g made_for (shown ++ one ∷ [])) (same_mid mid Undecided same) (pushed Undecided (one ∷ []) nothing (ap (λ n. n ∷ []) own) (shown_one one is));
          seen = seen;
        }

    pub next_more : (mid : Generated) (seen_before seen_after : Option (List Shown)) (a : Answer) → Next mid seen_before seen_after a → More (With mid a) seen_before seen_after
    next_more mid seen_before seen_after a next = elim next [
      | inl (covering, is, first, same, seen) ↦
          let it : IsAnswer parts f p plan bounds ends old.inputs made_for number goal a = subst (λ (x : Answer). IsAnswer parts f p plan bounds ends old.inputs made_for number goal x) (sym is) (covered_so_far covering first) in
          let are : [] ≡ undecided_from number (a ∷ []) = subst (λ (x : Answer). [] ≡ undecided_from number (x ∷ [])) (sym is) refl in
          record {
            made_for = made_for;
            more = [];
            answered = subst (λ (g : Generated). AreAnswered parts f p plan bounds ends budget g made_for (shown ++ [])) (same_mid mid a same) (pushed a [] it are shown_same);
            seen = seen ∙ seen_none seen_before;
          }
      | inr (none, tried) ↦ tried_more mid seen_before seen_after a none tried
    ]

-- the answers so far stay while the next one is sought
pub answers_kept : (parts : GraphParts) (f : Function) (p : Predicates) (plan : Plan) (bounds : Bounds) (ends : Ends) (budget number : ℕ) (goal : GoalForm) (old new : Generated) (before after : Option (List Shown)) (a : Answer)
    → IsNext parts f p plan bounds ends budget number goal old new before after a → new.answers ≡ old.answers
answers_kept parts f p plan bounds ends budget number goal old new before after a next = elim next [
  | inl h ↦ ap (λ (g : Generated). g.answers) h.3
  | inr h ↦ tried_kept a h.1
]
  where
    tried_kept : (b : Answer) → Tried parts f p plan bounds ends budget number goal old new before after b → new.answers ≡ old.answers
    tried_kept (Covered covering) h = ap (λ (g : Generated). g.answers) h.1.is
    tried_kept Missed h = absurd h
    tried_kept Refuted h = ap (λ (g : Generated). g.answers) h.1
    tried_kept Undecided h = ap (λ (g : Generated). g.answers) h.3

-- ---- all goals

seen_twice : (seen : Option (List Shown)) (a b : List Shown) → seen_also (seen_also seen a) b ≡ seen_also seen (a ++ b)
seen_twice None a b = refl
seen_twice (Some list) a b = ap Some (append_assoc list a b)

module _ (parts : GraphParts) (f : Function) (p : Predicates) (plan : Plan) (bounds : Bounds) (ends : Ends) (budget : ℕ) where
  none_answered : AreAnswered parts f p plan bounds ends budget nothing [] []
  none_answered = record {
    rise = λ k lt. absurd (omega (arith, lt));
    made_for_count = refl;
    taken_count = refl;
    hits_count = refl;
    inputs = λ place input at. absurd cc;
    covers = λ place goal_of at. absurd cc;
    answers = λ place goal answer at own. absurd cc;
    shown_numbers = refl;
    shown_each = λ place one at. absurd cc;
  }

  pub all_begin : (made : Generated) (seen : Option (List Shown)) → made ≡ nothing → AllAnswered parts f p plan bounds ends budget made seen seen
  all_begin made seen is = record {
    made_for = [];
    shown = [];
    answered = subst (λ (g : Generated). AreAnswered parts f p plan bounds ends budget g [] []) (sym is) none_answered;
    seen = seen_same seen;
  }
    where
      seen_same : (s : Option (List Shown)) → s ≡ seen_also s []
      seen_same None = refl
      seen_same (Some list) = ap Some (sym (append-nil list))

  pub all_more : (old new : Generated) (first before after : Option (List Shown)) → AllAnswered parts f p plan bounds ends budget old first before
      → ((made_for : List ℕ) (shown : List Shown) → AreAnswered parts f p plan bounds ends budget old made_for shown → AnswersMore parts f p plan bounds ends budget new shown before after)
      → AllAnswered parts f p plan bounds ends budget new first after
  all_more old new first before after all step =
      let it = step all.made_for all.shown all.answered in
      record {
        made_for = it.made_for;
        shown = all.shown ++ it.more;
        answered = it.answered;
        seen = it.seen ∙ ap (λ (s : Option (List Shown)). seen_also s it.more) all.seen ∙ seen_twice first all.shown it.more;
      }

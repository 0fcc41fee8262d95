-- What is covered isn't refuted, and the counts of answers add up.
use Rattle.std.proofs.Common.{◌≡◌, ℕ, zero, suc, ◌+◌, ◌<◌, ◌^◌, Bool, true, false, List, [], ◌∷◌, All, length, map, Option, Some, None, refl, sym, ap, subst, ◌∙◌, arith}
use Rattle.std.specs.Prelude.{◌-◌, ◌==◌, option_and_then, slice_get, if◌then◌else◌}
use Rattle.std.proofs.lemmas.Bool.{eqb-true}
use Rattle.std.proofs.lemmas.List.Sums.{sum_by-cons}
use Rattle.std.proofs.lemmas.Option.{slice_get_within}
use Rattle.std.proofs.lemmas.Slice.Zip.{AllZip-long}
use Rattle.c_values.specs.Kind.{IsValue}
use Rattle.c_values.specs.declared.kinds.Kind.{Kind}
use Rattle.c_values.proofs.Fitting.{value_parts}
use Rattle.cfa.proofs.Eaches.{element_at}
use Rattle.cfa.specs.declared.parts.Function.{Function}
use Rattle.cfa.specs.declared.parts.GraphParts.{GraphParts}
use Rattle.cfa.specs.declared.state.Predicates.{Predicates}
use Rattle.cfa.specs.Names.{first_named}
use Rattle.c_meaning.specs.Runs.{Run}
use Rattle.c_meaning.specs.declared.ends.Ends.{Ends}
use Rattle.c_meaning.specs.declared.input.Input.{Input}
use Rattle.goals.specs.GoalForm.{GoalForm}
use Rattle.goals.specs.declared.answer.Answer.{Answer}
use Rattle.goals.specs.declared.answer.Answer.TheVariants as answer
use Rattle.goals.specs.declared.plan.Plan.{Plan}
use Rattle.measurer_hits.specs.hits.Inputs.{InputHitsWithin}
use Rattle.path_runner.specs.Paths.{record_of}
use Rattle.unwinder_reach.specs.declared.reached.bounds.Bounds.{Bounds}
use Rattle.report.specs.Generated.{is_refuted, is_undecided, refuted_count, undecided_count}
use Rattle.report.specs.Texts.{covered_count, is_covered}
use Rattle.suite.specs.Made.{IsMade, NoneHits}
use Rattle.unwinder.specs.Lists.{IsInputFor}
use Rattle.command.specs.Runs.{EntryFunction, entry_of, if_startable, startable_at}
use Rattle.command_laws.specs.due_laws.Agreement.{CountsAddUp, CoveredIsNeverRefuted, IsSaidCovered, IsSaidRefuted}
use Rattle.command_laws.specs.due_laws.Agreement as said

-- ---- the entry has no array parameters

pub no_arrays : (graph : GraphParts) (name : List ℕ) (entry : EntryFunction) → entry_of graph name ≡ Some entry → entry.function.arrays ≡ []
no_arrays graph name entry is = by_name (first_named graph.functions name) is
  where
    none : {X : Type 0} (xs : List X) → length xs ≡ 0 → xs ≡ []
    none [] e = refl
    none (x ∷ xs) e = absurd (omega (arith, e))

    by_test : (number : ℕ) (f : Function) (test : Bool) → (length f.arrays == 0) ≡ test → (if test then Some (record { number = number; function = f }) else None) ≡ Some entry → entry.function.arrays ≡ []
    by_test number f true is some =
        let same : f ≡ entry.function = cc in
        subst (λ (g : Function). g.arrays ≡ []) same (none f.arrays (eqb-true (length f.arrays) 0 is))
    by_test number f false is some = absurd (cc)

    by_function : (number : ℕ) (o : Option Function) → option_and_then (if_startable number) o ≡ Some entry → entry.function.arrays ≡ []
    by_function number None some = absurd (cc)
    by_function number (Some f) some = by_test number f (length f.arrays == 0) refl some

    by_name : (o : Option ℕ) → option_and_then (startable_at graph) o ≡ Some entry → entry.function.arrays ≡ []
    by_name None some = absurd (cc)
    by_name (Some number) some = by_function number (slice_get graph.functions number) some

-- it is the function of its number
pub entry_there : (graph : GraphParts) (name : List ℕ) (entry : EntryFunction) → entry_of graph name ≡ Some entry → slice_get graph.functions entry.number ≡ Some entry.function
entry_there graph name entry is = by_name (first_named graph.functions name) is
  where
    by_test : (number : ℕ) (f : Function) (test : Bool) → slice_get graph.functions number ≡ Some f → (if test then Some (record { number = number; function = f }) else None) ≡ Some entry
        → slice_get graph.functions entry.number ≡ Some entry.function
    by_test number f true there some =
        let own : number ≡ entry.number = cc in
        let same : f ≡ entry.function = cc in
        ap (slice_get graph.functions) (sym own) ∙ there ∙ ap Some same
    by_test number f false there some = absurd (cc)

    by_function : (number : ℕ) (o : Option Function) → slice_get graph.functions number ≡ o → option_and_then (if_startable number) o ≡ Some entry → slice_get graph.functions entry.number ≡ Some entry.function
    by_function number None there some = absurd (cc)
    by_function number (Some f) there some = by_test number f (length f.arrays == 0) there some

    by_name : (o : Option ℕ) → option_and_then (startable_at graph) o ≡ Some entry → slice_get graph.functions entry.number ≡ Some entry.function
    by_name None some = absurd (cc)
    by_name (Some number) some = by_function number (slice_get graph.functions number) refl some

-- ---- an input that covers

module _ (graph : GraphParts) (entry : EntryFunction) (p : Predicates) (plan : Plan) (bounds : Bounds) (ends : Ends) (goal : GoalForm) (arrays : entry.function.arrays ≡ []) where
  -- answers that are values are words of 64 bits
  values_are_words : (taken : List (Kind × ℕ)) → All (λ (a : Kind × ℕ). IsValue a.0 a.1) taken → All (λ n. n < 2 ^ 64) (map (λ (a : Kind × ℕ). a.1) taken)
  values_are_words [] fit k d h = absurd (omega (arith, h))
  values_are_words (a ∷ taken) fit zero d h = (value_parts a.0 a.1 (fit 0 a (omega arith))).pattern
  values_are_words (a ∷ taken) fit (suc k) d h = values_are_words taken (λ n b l. fit (suc n) b (omega (arith, l))) k d (omega (arith, h))

  pub given : (input : Input) (run : Run) → IsMade graph entry.function p bounds ends input run → IsInputFor entry.function input
  given input run made = record {
    start = (AllZip-long IsValue entry.function.parameters input.words made.words_fit, arrays);
    answers = subst (λ (ns : List ℕ). All (λ n. n < 2 ^ 64) ns) made.answers (values_are_words (record_of graph input p run).taken made.answers_fit);
  }

  -- some input of the function has a run within the bounds that hits the goal
  record IsCoverable : Type 0 where
    input : Input
    is_input : IsInputFor entry.function input
    hits : InputHitsWithin graph entry.function p plan ends bounds.turns bounds.frames bounds.answers goal input

  coverable : IsSaidCovered graph entry p plan bounds ends goal → IsCoverable
  coverable (said.by_generate budget made shown place covering generated there covered) =
      let is = generated.answered.answers place goal (answer.Covered covering) there covered in
      let measured = generated.answered.inputs (covering - 1) is.input is.input_is in
      record { input = is.input; is_input = given is.input measured.run measured.is_made; hits = is.hits }
  coverable (said.by_prove budget input made) =
      record { input = input; is_input = given input made.run made.made; hits = record { run = made.run; is_run = made.made.is_run; within = made.made.within; hits = made.hits } }
  coverable (said.by_least budget input formula fixed is) = record { input = input; is_input = is.least.given; hits = is.least.hits }

  none_hits : IsSaidRefuted graph entry p plan bounds ends goal → NoneHits graph entry.function p plan bounds ends goal
  none_hits (said.by_generate budget made shown place generated there refuted) = generated.answered.answers place goal answer.Refuted there refuted
  none_hits (said.by_prove budget formula derivation is) = is.2
  none_hits (said.by_least budget formula derivation is) = is.2
  none_hits (said.by_check none) = none

pub covered_is_never_refuted : CoveredIsNeverRefuted
covered_is_never_refuted graph name entry p plan bounds ends goal is covered refuted =
    let arrays = no_arrays graph name entry is in
    let some = coverable graph entry p plan bounds ends goal arrays covered in
    none_hits graph entry p plan bounds ends goal arrays refuted some.input some.is_input some.hits

-- ---- counts

-- no goal of a generation is missed
NoneMissed : List Answer → Type 0
NoneMissed answers = (place : ℕ) → slice_get answers place ≡ Some answer.Missed → ⊥

one_each : (a : Answer) → (a ≡ answer.Missed → ⊥) → (if is_covered a then 1 else 0) + (if is_refuted a then 1 else 0) + (if is_undecided a then 1 else 0) ≡ 1
one_each (answer.Covered n) h = refl
one_each answer.Missed h = absurd (h refl)
one_each answer.Refuted h = refl
one_each answer.Undecided h = refl

all_counted : (answers : List Answer) → NoneMissed answers → covered_count answers + refuted_count answers + undecided_count answers ≡ length answers
unfolding NoneMissed
all_counted [] none = refl
all_counted (a ∷ answers) none =
    let rest = all_counted answers (λ place e. none (suc place) e) in
    let one = one_each a (λ e. none 0 (ap Some e)) in
    let x = sum_by-cons (λ b. if is_covered b then 1 else 0) a answers in
    let y = sum_by-cons (λ b. if is_refuted b then 1 else 0) a answers in
    let z = sum_by-cons (λ b. if is_undecided b then 1 else 0) a answers in
    omega (arith, rest, one, x, y, z)

pub counts_add_up : CountsAddUp
unfolding NoneMissed
counts_add_up graph entry p plan bounds ends budget made shown generated =
    all_counted made.answers none ∙ generated.answer_count
  where
    none : (place : ℕ) → slice_get made.answers place ≡ Some answer.Missed → ⊥
    none place missed =
        let within = slice_get_within made.answers place answer.Missed missed in
        let count = generated.answer_count in
        let goal = element_at plan.goals place (omega (arith, within, count)) in
        generated.answered.answers place goal.0 answer.Missed goal.1 missed

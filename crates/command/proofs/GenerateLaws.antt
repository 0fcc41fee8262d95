-- What is due of making inputs.
use Rattle.std.proofs.Common.{◌≡◌, ℕ, ◌-◌, ◌<◌, ◌≤◌, zero, suc, add-one, List, [], length, get_or, Some, slice_get, refl, sym, ap, subst, ◌∙◌, inl, inr, arith}
use Rattle.std.specs.Prelude.{Bool, Option, IfErr, IfOk, Result, Ok, Err}
use Rattle.std.specs.List.{All}
use Rattle.std.specs.Option.{option_map_or}
use Rattle.std.specs.Global.{Vec}
use Rattle.std.proofs.lemmas.Option.{slice_get-get_or, slice_get_within}
use Rattle.std.proofs.lemmas.Slice.Zip.{AllZip-long}
use Rattle.cfa.specs.declared.parts.Function.{Function}
use Rattle.cfa.specs.declared.parts.GraphParts.{GraphParts}
use Rattle.cfa.specs.declared.state.Predicates.{Predicates}
use Rattle.c_meaning.specs.declared.ends.Ends.{Ends}
use Rattle.c_values.specs.Kind.{IsValue}
use Rattle.fq_core.specs.Refusals.{IfRefused}
use Rattle.fq_core.specs.declared.refusal.Fault.{Fault}
use Rattle.fq_core.specs.declared.refusal.Fault.TheVariants as fault
use Rattle.goals.specs.declared.plan.Plan.{Plan}
use Rattle.input_text.specs.Laws.{HasWords}
use Rattle.unwinder_reach.specs.declared.reached.bounds.Bounds.{Bounds}
use Rattle.report.specs.Made.{parameter_kinds}
use Rattle.suite.specs.Generated.{IsGenerateFault, IsGenerated, Shown, seen_also}
use Rattle.suite.specs.Seeking.{AreOpenWhereShort, CannotGenerate, IsGenerationOf}
use Rattle.suite_problem.specs.declared.generated.Generated.{Generated}
use Rattle.command_words.specs.Reading.{Text}
use Rattle.suite_problem.specs.declared.given.Given.{Given}
use Rattle.command.specs.declared.reply.Reply.TheVariants as reply
use Rattle.command.specs.Parts.{IsMadeAs}
use Rattle.command.specs.Generate.{IsGeneration, IsOpenWhereShort, is_open}
use Rattle.command.specs.Replies.{Gives}
use Rattle.command.specs.Runs.{EntryFunction}
use Rattle.command.specs.Said.{Said, status_with}
use Rattle.command.specs.Watched.{IsShown, IsShownNone, Watched}

module _ (names : List Text) (graph : GraphParts) (entry : EntryFunction) (p : Predicates) (plan : Plan) (bounds : Bounds) (ends : Ends) (budget : ℕ) (text : Generated → List ℕ) (w : Watched) where
  -- the work is too large, and the watch was shown nothing
  pub generation_refused : (e : Fault) → IsGenerateFault graph entry.function p plan bounds ends e → IfRefused e (λ _. IsShownNone w)
      → Gives (IsGeneration names graph entry p plan bounds ends budget text) names w (Err e)
  generation_refused (fault.Refused x) why unseen = (inl (x, why, refl), unseen)
  generation_refused fault.Memory why unseen = tt

  same_said : (one other : Bool) (a b : List ℕ) (shown : List Shown) → one ≡ other → a ≡ b
      → ◌≡◌ {A = Said} (record { status = Some (status_with one); out = a; err = []; shown = shown }) (record { status = Some (status_with other); out = b; err = []; shown = shown })
  same_said one other a b shown opened is_text = rw (opened, is_text) refl

  -- the text of what was made is given, and the watch was shown this
  pub generation_made : (made : Generated) (given : Vec ℕ) (open_answer : Bool)
      → (shown : List Shown) × IsGenerated graph entry.function p plan bounds ends budget made shown
      × IsOpenWhereShort graph entry.function p plan bounds budget made × IsShown shown w
      → given.items ≡ text made → open_answer ≡ is_open made.answers
      → Gives (IsGeneration names graph entry p plan bounds ends budget text) names w (Ok (reply.Answer given open_answer))
  generation_made made given open_answer is is_text is_opened =
      (is.0, inr (made, (is.0, is.1, is.2, same_said open_answer (is_open made.answers) given.items (text made) is.0 is_opened is_text)), is.3)

module _ (graph : GraphParts) (f : Function) (p : Predicates) (plan : Plan) (bounds : Bounds) (ends : Ends) (budget : ℕ) (made : Generated) (shown : List Shown)
    (is : IsGenerated graph f p plan bounds ends budget made shown) where
  -- each input has a word for each parameter
  pub inputs_have_words : (number : ℕ) → slice_get graph.functions number ≡ Some f → All (HasWords (length (parameter_kinds graph number))) made.inputs
  inputs_have_words number there = λ k d within.
      let one = is.answered.inputs k (get_or made.inputs k d) (slice_get-get_or made.inputs k d within) in
      let long = AllZip-long IsValue f.parameters (get_or made.inputs k d).words one.is_made.words_fit in
      long ∙ ap length (sym (ap (λ (o : Option Function). option_map_or (λ (g : Function). g.parameters) o []) there))

  -- the number of the goal for which an input was made is above the input's place
  above : (k : ℕ) → k < length is.made_for → k < get_or is.made_for k 0
  above zero within = let covered = is.answered.covers 0 (get_or is.made_for 0 0) (slice_get-get_or is.made_for 0 0 within) in covered.0
  above (suc k) within =
      let before = above k (omega (arith, within)) in
      let rises = subst (λ (m : ℕ). get_or is.made_for k 0 < get_or is.made_for m 0) (add-one k) (is.answered.rise k (omega (arith, within))) in
      omega (arith, before, rises)

  most : (n : ℕ) → length is.made_for ≡ suc n → length is.made_for ≤ length made.answers
  most n many =
      let within : n < length is.made_for = omega (arith, many) in
      let covered = is.answered.covers n (get_or is.made_for n 0) (slice_get-get_or is.made_for n 0 within) in
      let there = slice_get_within made.answers (get_or is.made_for n 0 - 1) _ covered.1 in
      let past = above n within in
      omega (arith, there, past, many)

  -- there are no more inputs than goals
  pub few_inputs : length made.hits ≤ length plan.goals
  few_inputs = by (length is.made_for) refl
    where
      by : (n : ℕ) → length is.made_for ≡ n → length made.hits ≤ length plan.goals
      by zero none = omega (arith, is.answered.hits_count, is.answered.made_for_count, none)
      by (suc n) some = omega (arith, is.answered.hits_count, is.answered.made_for_count, is.answer_count, most n some)

-- what the call that makes inputs answers
pub made_as : (given : Given) (budget : ℕ) (w : Watched) (result : Result Generated Fault)
    → IfOk result (λ made. (shown : List Shown) × IsGenerationOf given budget made shown × (w.after ≡ seen_also w.before shown))
    → IfOk result (AreOpenWhereShort given budget) → IfErr result (CannotGenerate given) → IfErr result (λ e. IfRefused e (λ _. w.after ≡ w.before)) → IsMadeAs given budget w result
made_as given budget w (Ok made) generated enough refused unseen = (generated.0, generated.1, enough, generated.2)
made_as given budget w (Err e) generated enough refused unseen = (refused, unseen)

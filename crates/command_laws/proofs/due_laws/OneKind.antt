-- Two texts that are due of one command are the same, or both are answers.
use Rattle.std.proofs.Common.{◌≡◌, ℕ, ◌<◌, ◌≤◌, Bool, true, false, List, [], ◌∷◌, ◌++◌, length, map, Option, Some, None, refl, sym, ap, subst, ◌∙◌, inl, inr, ⊎_elim, arith}
use Rattle.std.specs.Option.{is_some}
use Rattle.std.proofs.lemmas.Bool.{cases_lt}
use Rattle.std.proofs.lemmas.Slice.Zip.{AllZip-long}
use Rattle.std.specs.Prelude.{◌-◌, ◌⊎◌, IfSome, IsTrue, MatchOption, codes, slice_get}
use Rattle.fq_core.specs.declared.refusal.Fault.{Fault}
use Rattle.fq_core.specs.declared.refusal.Fault.TheVariants as fault
use Rattle.fq_core.specs.declared.refusal.Place.TheVariants as place
use Rattle.fq_core.specs.declared.refusal.Refusal.{Refusal}
use Rattle.fq_core.specs.Refusals.{refusal}
use Rattle.fq_io.specs.Counts.{Rose}
use Rattle.c_lex.specs.declared.token.SourceText.{SourceText}
use Rattle.c_front.specs.Laws as front
use Rattle.c_meaning.specs.declared.ends.Ends.{Ends}
use Rattle.c_meaning.specs.declared.ends.Ends.TheVariants as counted
use Rattle.c_meaning.specs.declared.input.Input.{Input}
use Rattle.c_values.specs.Kind.{IsValue}
use Rattle.certificate.specs.Certificates.{IsCertificate, certificate_text, derivation_head, line_text}
use Rattle.certificate.specs.Refusals.{IsRefusedAtLine, bad_line}
use Rattle.certificate.proofs.PairLaws.{no_certificate, one_pair}
use Rattle.cfa.specs.Contexts.{Pair}
use Rattle.cfa.specs.declared.parts.Function.{Function}
use Rattle.cfa.specs.declared.parts.GraphParts.{GraphParts}
use Rattle.cfa.specs.declared.state.Predicates.{Predicates}
use Rattle.cnf.specs.Dimacs.{dimacs_lines, text_of_lines}
use Rattle.cnf.specs.declared.derivation.Derivation.{Derivation}
use Rattle.cnf.specs.declared.formula.Formula.{Formula}
use Rattle.derivation_check.specs.Verdicts.{IsVerdict}
use Rattle.derivation_check.specs.declared.verdict.Verdict.TheVariants as verdict
use Rattle.goal_formula.specs.Sizes.{goal_size}
use Rattle.goals.specs.GoalForm.{GoalForm}
use Rattle.goals.specs.declared.plan.Plan.{Plan}
use Rattle.measurer_hits.specs.hits.Laws.{OneListOfHits}
use Rattle.predicates.specs.Laws as predicates
use Rattle.unwinder_reach.specs.reached.Reaching.{AreReached, AreTooMany}
use Rattle.unwinder_reach.specs.declared.reached.bounds.Bounds.{Bounds}
use Rattle.unwinder_reach.specs.declared.reached.step.Step.{Step}
use Rattle.unwinder_reach.specs.reached_laws.Laws.{NotTooMany, OneCount, OneSize}
use Rattle.report.specs.Generated.{sample_text}
use Rattle.report.specs.Least.{least_text}
use Rattle.report.specs.Suffice.{suffice_text}
use Rattle.sample.specs.Sample.{query_text}
use Rattle.search.specs.declared.moves.History.{History}
use Rattle.bounds_check.specs.Sufficing as sufficing
use Rattle.bounds_check.specs.Sufficing.{IsSuffice}
use Rattle.bounds_check.specs.declared.suffice.Suffice.{Suffice}
use Rattle.bounds_check.specs.declared.suffice.Suffice.TheVariants as found
use Rattle.least_input.specs.Answers.{IsAnswered}
use Rattle.least_input.specs.declared.least.Least.{Least}
use Rattle.least_input.specs.declared.least.Least.TheVariants as least
use Rattle.suite.specs.Generated.{Shown, HasTooLargeGoal, IsGenerateFault, IsWithinLimits}
use Rattle.suite.specs.declared.decided.Decided.{Decided}
use Rattle.suite.specs.declared.decided.Decided.TheVariants.{Covered, Refuted, Undecided}
use Rattle.suite_problem.specs.declared.generated.Generated.{Generated}
use Rattle.unwinder.specs.Lists.{IsInputFor}
use Rattle.unwinder.specs.Unwinding.{AreTooLarge, IsUnwindFault}
use Rattle.unwinder_reach.specs.unwinding_size.Sizes.{size_sum}
use Rattle.c_front.specs.typed_sources.Laws as trees
use Rattle.command_words.specs.Reading.{Text}
use Rattle.command_words.specs.Request as asks
use Rattle.command_words.specs.Request.{Asked, measure, generate, goals, runs, prove, check, suffice, sample, Checking, CheckingBounds, Generating, Proving, Sufficing, request_of}
use Rattle.command.specs.Asked.{sample_file}
use Rattle.command.specs.CertificateFile.{AreCertificateOf}
use Rattle.command.specs.CertificateFile as certificates
use Rattle.command.specs.Check.{IsChecked, accepted_text}
use Rattle.command.specs.CheckBounds.{IsCheckedBounds}
use Rattle.command.specs.Comparison.{IsCompared, said_of_verdict}
use Rattle.command_laws.specs.due_laws.Determined.{AreAlike, AreOfOneCheck, AreOfOneKind, AreOfOneLeast, AreOfOneProof, AreOfOneSuffice, AtMostOneKindIsDue, SaysCertificate, SaysCompared, SaysLeft, SaysOpen, answers, are_told, files_of}
use Rattle.command.specs.Due.{IsDueOf}
use Rattle.command.specs.Generate.{IsGeneration, concluded, generated_report, is_open}
use Rattle.command.specs.Least.{IsLowered, said_of_least}
use Rattle.suite.specs.OneGoal.{IsGoalRefused, IsGoalTooLarge, IsGoalWithin}
use Rattle.command.specs.Prove.{IsProved, IsSaidOf}
use Rattle.command.specs.Ranges.{within}
use Rattle.command.specs.Reads.{Reads}
use Rattle.command.specs.Runs.{EntryFunction, entry_of, no_predicates}
use Rattle.command.specs.Refusal.{said_by}
use Rattle.command.specs.Said.{Said, answered, status_with}
use Rattle.command.specs.Sample.{IsDueOfSample, IsSampled, default_bounds, default_budget, sample_source}
use Rattle.command.specs.Stages.{OfCertificate, OfEntry, OfGoal, OfQuery, OfTexts, no_such_entry, no_such_goal, usage}
use Rattle.command.specs.declared.bounds.Form.{Form}
use Rattle.command.specs.declared.bounds.Form.TheVariants as form
use Rattle.command.specs.Bounds.{IsAskedOfBounds, said_of_bounds, sufficient_text}
use Rattle.command_laws.proofs.due_laws.Agreement.{no_arrays}
use Rattle.command_laws.proofs.due_laws.OneLeast.{one_least_input}
use Rattle.command_laws.proofs.due_laws.OneLine.{one_line}
use Rattle.command_laws.proofs.due_laws.OneDue.{AnyTwo, Once, TellsSame, both_told, ended_once, eventful_once, listed_once, measured_once, not_seen, one_by, one_of_query, one_of_sources, one_saying, one_seen, printed_once, recorded_once, replayed_once, same_refusal, traced_once, unread_is}

one_kind : TellsSame AreOfOneKind
one_kind x y e = inl e

one_lowest : TellsSame AreOfOneLeast
one_lowest x y e = inl e

one_suffice : TellsSame AreOfOneSuffice
one_suffice x y e = inl e

one_bounds_proof : TellsSame AreOfOneProof
one_bounds_proof x y e = inl (inl e)

one_comparison : (text : List ℕ) → TellsSame (AreOfOneCheck text)
one_comparison text x y e = inl e

-- where a run can begin at the entry of a name, it has no array parameters
one_by_entry : (graph : GraphParts) (name : Text) (Alike : Said → Said → Type 0) → TellsSame Alike → (Then : EntryFunction → Said → Type 0)
    → ((entry : EntryFunction) → entry.function.arrays ≡ [] → AnyTwo Alike (Then entry)) → AnyTwo Alike (OfEntry graph name Then)
one_by_entry graph name Alike same Then alike = by (entry_of graph name) refl
  where
    by : (o : Option EntryFunction) → entry_of graph name ≡ o → AnyTwo Alike (λ said. MatchOption o (said ≡ no_such_entry) (λ e. Then e said))
    by None is x y a b = same x y (a ∙ sym b)
    by (Some entry) is x y a b = alike entry (no_arrays graph name entry is) x y a b

-- an input that leaves the bounds is one of the function
left_given : (f : Function) (bounds : Bounds) → f.arrays ≡ [] → (graph : GraphParts) (input : Input) → sufficing.IsLeft graph f bounds input → IsInputFor f input
left_given f bounds arrays graph input is = record { start = (AllZip-long IsValue f.parameters input.words is.words_fit, arrays); answers = is.answers_fit }

-- ---- refusals by counts

same_refused : (x y : Refusal) → (let a : Fault = fault.Refused x in let b : Fault = fault.Refused y in a ≡ b) → x ≡ y
same_refused x y e = cc

-- two refusals with one code and one place
by_one : (x y : Refusal) (f : Fault) → fault.Refused x ≡ f → fault.Refused y ≡ f → x ≡ y
by_one x y f a b = same_refused x y (a ∙ sym b)

module _ (size : OneSize) (few : NotTooMany) (graph : GraphParts) (f : Function) (p : Predicates) (bounds : Bounds) where
  -- what some list of the pairs that are reached says
  pub record Counted : Type 0 where
    pub pairs : List Pair
    pub steps : List (List Step)
    pub reached : AreReached graph bounds f pairs steps
    pub few_pairs : length pairs ≤ 50000

  abbrev pub SizeOf : Counted → ℕ
  SizeOf c = size_sum graph p f c.pairs c.steps

  not_many : Counted → AreTooMany graph bounds f → ⊥
  not_many c many = few graph bounds f c.pairs c.steps c.reached c.few_pairs many

  not_large : (c : Counted) → SizeOf c ≤ 4194304 → AreTooLarge graph p bounds f → ⊥
  not_large c small large =
      let same = size graph p bounds f c.pairs large.pairs c.steps large.steps c.reached large.reached in
      let past = large.large in
      absurd (omega (arith, small, same, past))

  abbrev of_large : AreTooLarge graph p bounds f → Counted
  of_large large = record { pairs = large.pairs; steps = large.steps; reached = large.reached; few_pairs = large.few }

  -- a refusal by the counts of an unwinding comes only where they are past their limits
  pub not_unwound : (c : Counted) → SizeOf c ≤ 4194304 → (x : Refusal) → IsUnwindFault graph p bounds f (fault.Refused x) → ⊥
  not_unwound c small x (inl a) = not_many c a.1
  not_unwound c small x (inr a) = not_large c small a.1

  one_unwound : Once (λ (x : Refusal). IsUnwindFault graph p bounds f (fault.Refused x))
  one_unwound x y (inl a) (inl b) = by_one x y (refusal 80 (place.Limit 50000)) a.0 b.0
  one_unwound x y (inl a) (inr b) = absurd (not_many (of_large b.1) a.1)
  one_unwound x y (inr a) (inl b) = absurd (not_many (of_large a.1) b.1)
  one_unwound x y (inr a) (inr b) = by_one x y (refusal 81 (place.Limit 4194304)) a.0 b.0

module _ (count : OneCount) (size : OneSize) (few : NotTooMany) (graph : GraphParts) (f : Function) (p : Predicates) (plan : Plan) (bounds : Bounds) (ends : Ends) where
  -- ---- of all goals

  abbrev of_goal : HasTooLargeGoal graph f p plan bounds ends → Counted size few graph f p bounds
  of_goal h = record { pairs = h.pairs; steps = h.steps; reached = h.reached; few_pairs = h.few_pairs }

  abbrev of_limits : IsWithinLimits graph f p plan bounds ends → Counted size few graph f p bounds
  of_limits h = record { pairs = h.pairs; steps = h.steps; reached = h.reached; few_pairs = h.few_pairs }

  one_fault : Once (λ (x : Refusal). IsGenerateFault graph f p plan bounds ends (fault.Refused x))
  one_fault x y (inl a) (inl b) = one_unwound size few graph f p bounds x y a b
  one_fault x y (inl a) (inr b) = absurd (not_unwound size few graph f p bounds (of_goal b.1) b.1.small x a)
  one_fault x y (inr a) (inl b) = absurd (not_unwound size few graph f p bounds (of_goal a.1) a.1.small y b)
  one_fault x y (inr a) (inr b) = by_one x y (refusal 82 (place.Limit 8388608)) a.0 b.0

  no_fault : IsWithinLimits graph f p plan bounds ends → (x : Refusal) → IsGenerateFault graph f p plan bounds ends (fault.Refused x) → ⊥
  no_fault h x (inl a) = not_unwound size few graph f p bounds (of_limits h) h.small x a
  no_fault h x (inr a) =
      let same = count graph bounds f h.pairs a.1.pairs h.steps a.1.steps h.reached a.1.reached in
      let fits = subst (λ (n : ℕ). goal_size plan a.1.goal n ≤ 8388608) same (h.goals a.1.place a.1.goal a.1.there) in
      let past = a.1.large in
      absurd (omega (arith, fits, past))

  -- ---- of one goal

  module _ (goal : GoalForm) where
    abbrev of_one : IsGoalTooLarge graph f p plan bounds goal → Counted size few graph f p bounds
    of_one h = record { pairs = h.pairs; steps = h.steps; reached = h.reached; few_pairs = h.few_pairs }

    abbrev of_within : IsGoalWithin graph f p plan bounds goal → Counted size few graph f p bounds
    of_within h = record { pairs = h.pairs; steps = h.steps; reached = h.reached; few_pairs = h.few_pairs }

    one_goal_refused : Once (IsGoalRefused graph f p plan bounds goal)
    one_goal_refused x y (inl a) (inl b) = one_unwound size few graph f p bounds x y a b
    one_goal_refused x y (inl a) (inr b) = absurd (not_unwound size few graph f p bounds (of_one b.1) b.1.small x a)
    one_goal_refused x y (inr a) (inl b) = absurd (not_unwound size few graph f p bounds (of_one a.1) a.1.small y b)
    one_goal_refused x y (inr a) (inr b) = by_one x y (refusal 82 (place.Limit 8388608)) a.0 b.0

    pub not_goal_refused : IsGoalWithin graph f p plan bounds goal → (x : Refusal) → IsGoalRefused graph f p plan bounds goal x → ⊥
    not_goal_refused h x (inl a) = not_unwound size few graph f p bounds (of_within h) h.small x a
    not_goal_refused h x (inr a) =
        let same = count graph bounds f h.pairs a.1.pairs h.steps a.1.steps h.reached a.1.reached in
        let fits = subst (λ (n : ℕ). goal_size plan goal n ≤ 8388608) same h.size in
        let past = a.1.large in
        absurd (omega (arith, fits, past))

-- ---- what is said of generation

module _ (count : OneCount) (size : OneSize) (few : NotTooMany) where
  open_or_done : (b : Bool) → IsTrue (answers (Some (status_with b)))
  open_or_done true = refl
  open_or_done false = refl

  one_generation : (names : List Text) (graph : GraphParts) (entry : EntryFunction) (p : Predicates) (plan : Plan) (bounds : Bounds) (ends : Ends) (budget : ℕ) (text : Generated → List ℕ)
      → AnyTwo AreOfOneKind (IsGeneration names graph entry p plan bounds ends budget text)
  one_generation names graph entry p plan bounds ends budget text x y (inl a) (inl b) =
      inl (one_saying names (λ (z : Refusal). IsGenerateFault graph entry.function p plan bounds ends (fault.Refused z)) (one_fault count size few graph entry.function p plan bounds ends) x y a b)
  one_generation names graph entry p plan bounds ends budget text x y (inl a) (inr b) = absurd (no_fault count size few graph entry.function p plan bounds ends b.1.1.limits a.0 a.1)
  one_generation names graph entry p plan bounds ends budget text x y (inr a) (inl b) = absurd (no_fault count size few graph entry.function p plan bounds ends a.1.1.limits b.0 b.1)
  one_generation names graph entry p plan bounds ends budget text x y (inr a) (inr b) =
      inr (is_answered x a.0 a.1.0 a.1.3, is_answered y b.0 b.1.0 b.1.3)
    where
      is_answered : (said : Said) (made : Generated) (shown : List Shown) → said ≡ concluded made (text made) shown → IsTrue (answers said.status)
      is_answered said made shown e = subst (λ (s : Said). IsTrue (answers s.status)) (sym e) (open_or_done (is_open made.answers))

  -- ---- what is said of one goal

  answer_said : (graph : GraphParts) (entry : EntryFunction) (p : Predicates) (plan : Plan) (bounds : Bounds) (ends : Ends) (number : ℕ) (goal : GoalForm) (decided : Decided) (said : Said)
      → IsSaidOf graph entry p plan bounds ends number goal decided said → IsTrue (answers said.status)
  answer_said graph entry p plan bounds ends number goal (Covered input) said is = subst (λ (s : Said). IsTrue (answers s.status)) (sym is.3) refl
  answer_said graph entry p plan bounds ends number goal (Refuted formula derivation) said is = subst (λ (s : Said). IsTrue (answers s.status)) (sym is) refl
  answer_said graph entry p plan bounds ends number goal (Undecided formula history) said is = subst (λ (s : Said). IsTrue (answers s.status)) (sym is) refl

  one_proof : (graph : GraphParts) (entry : EntryFunction) (p : Predicates) (plan : Plan) (bounds : Bounds) (ends : Ends) (number : ℕ) (goal : GoalForm) (names : List Text) (budget : ℕ)
      → AnyTwo AreOfOneKind (IsProved graph entry p plan bounds ends number goal names budget)
  one_proof graph entry p plan bounds ends number goal names budget x y (inl a) (inl b) =
      inl (one_saying names (IsGoalRefused graph entry.function p plan bounds goal) (one_goal_refused count size few graph entry.function p plan bounds ends goal) x y a b)
  one_proof graph entry p plan bounds ends number goal names budget x y (inl a) (inr b) = absurd (not_goal_refused count size few graph entry.function p plan bounds ends goal b.0 a.0 a.1)
  one_proof graph entry p plan bounds ends number goal names budget x y (inr a) (inl b) = absurd (not_goal_refused count size few graph entry.function p plan bounds ends goal a.0 b.0 b.1)
  one_proof graph entry p plan bounds ends number goal names budget x y (inr a) (inr b) =
      inr (answer_said graph entry p plan bounds ends number goal a.1.0 x a.1.3, answer_said graph entry p plan bounds ends number goal b.1.0 y b.1.3)

  -- ---- what is said of the least input of a goal

  least_said : (number : ℕ) (bounds : Bounds) (ends : Ends) (l : Least) (said : Said) → said ≡ said_of_least number bounds ends l → IsTrue (answers said.status)
  least_said number bounds ends (least.Found input formula fixed) said is = subst (λ (s : Said). IsTrue (answers s.status)) (sym is) refl
  least_said number bounds ends (least.Refuted formula derivation) said is = subst (λ (s : Said). IsTrue (answers s.status)) (sym is) refl
  least_said number bounds ends (least.Open formula history) said is = subst (λ (s : Said). IsTrue (answers s.status)) (sym is) refl

  module _ (graph : GraphParts) (entry : EntryFunction) (p : Predicates) (plan : Plan) (bounds : Bounds) (ends : Ends) (number : ℕ) (goal : GoalForm) (budget : ℕ) where
    abbrev Lowest : Least → Type 0
    Lowest l = IsAnswered graph entry.function p plan bounds ends goal budget l

    abbrev Told : Least → Said → Type 0
    Told l said = said ≡ said_of_least number bounds ends l

    both : (l k : Least) (x y : Said) → Told l x → Told k y → SaysOpen x ⊎ SaysOpen y → AreOfOneLeast x y
    both l k x y c d why = inr (least_said number bounds ends l x c, least_said number bounds ends k y d, why)

    open_said : (formula : Formula) (history : History) (x : Said) → Told (least.Open formula history) x → SaysOpen x
    open_said formula history x c = ap (λ (s : Said). s.status) c

    one_told : (l k : Least) (x y : Said) → Lowest l → Lowest k → Told l x → Told k y → AreOfOneLeast x y
    one_told (least.Found input formula fixed) (least.Found other form set) x y a b c d =
        let same = one_least_input graph entry.function p plan bounds ends goal input other a.least b.least a.answers b.answers in
        inl (c ∙ ap (λ (i : Input). answered (least_text number i)) same ∙ sym d)
    one_told (least.Found input formula fixed) (least.Refuted form derivation) x y a b c d = absurd (b.2 input a.least.given a.least.hits)
    one_told (least.Refuted formula derivation) (least.Found input form fixed) x y a b c d = absurd (a.2 input b.least.given b.least.hits)
    one_told (least.Refuted formula derivation) (least.Refuted form other) x y a b c d = inl (c ∙ sym d)
    one_told (least.Open formula history) k x y a b c d = both (least.Open formula history) k x y c d (inl (open_said formula history x c))
    one_told (least.Found input formula fixed) (least.Open form history) x y a b c d = both (least.Found input formula fixed) (least.Open form history) x y c d (inr (open_said form history y d))
    one_told (least.Refuted formula derivation) (least.Open form history) x y a b c d = both (least.Refuted formula derivation) (least.Open form history) x y c d (inr (open_said form history y d))

    one_lowering : (names : List Text) → AnyTwo AreOfOneLeast (IsLowered graph entry p plan bounds ends number goal names budget)
    one_lowering names x y (inl a) (inl b) =
        inl (one_saying names (IsGoalRefused graph entry.function p plan bounds goal) (one_goal_refused count size few graph entry.function p plan bounds ends goal) x y a b)
    one_lowering names x y (inl a) (inr b) = absurd (not_goal_refused count size few graph entry.function p plan bounds ends goal b.0 a.0 a.1)
    one_lowering names x y (inr a) (inl b) = absurd (not_goal_refused count size few graph entry.function p plan bounds ends goal a.0 b.0 b.1)
    one_lowering names x y (inr a) (inr b) = one_told a.1.0 b.1.0 x y a.1.1 b.1.1 a.1.3 b.1.3

  -- ---- what is said of bounds

  suffice_said : (shape : Form) (graph : GraphParts) (entry : EntryFunction) (bounds : Bounds) (s : Suffice) (said : Said) → said ≡ said_of_bounds shape graph entry bounds s
      → IsTrue (answers said.status)
  suffice_said shape graph entry bounds (found.Yes formula derivation) said is = subst (λ (s : Said). IsTrue (answers s.status)) (sym is) refl
  suffice_said shape graph entry bounds (found.Left input) said is = subst (λ (s : Said). IsTrue (answers s.status)) (sym is) refl
  suffice_said shape graph entry bounds (found.Open formula history) said is = subst (λ (s : Said). IsTrue (answers s.status)) (sym is) refl

  abbrev pub limited : (graph : GraphParts) (entry : EntryFunction) (bounds : Bounds) → sufficing.IsWithinLimits graph entry.function bounds → Counted size few graph entry.function no_predicates bounds
  limited graph entry bounds h = record { pairs = h.pairs; steps = h.steps; reached = h.reached; few_pairs = h.few_pairs }

  -- what is said by a line and by a certificate is alike in these ways
  abbrev AlikeAs : Form → Said → Said → Type 0
  AlikeAs form.Line = AreOfOneSuffice
  AlikeAs form.Certificate = AreOfOneProof

  alike_as : (shape : Form) (x y : Said) → AreOfOneSuffice x y → AlikeAs shape x y
  alike_as form.Line x y is = is
  alike_as form.Certificate x y is = inl is

  certified : (formula : Formula) (derivation : Derivation) (x : Said) → x.out ≡ certificate_text formula derivation → SaysCertificate x
  certified formula derivation x is = record { rest = text_of_lines (dimacs_lines formula ++ derivation_head (length derivation.lines) ∷ map line_text derivation.lines); is = is }

  module _ (shape : Form) (graph : GraphParts) (entry : EntryFunction) (bounds : Bounds) (budget : ℕ) where
    abbrev Sufficient : Suffice → Type 0
    Sufficient s = IsSuffice graph entry.function bounds budget s

    abbrev Heard : Suffice → Said → Type 0
    Heard s said = said ≡ said_of_bounds shape graph entry bounds s

    alike : (s t : Suffice) (x y : Said) → Heard s x → Heard t y → (SaysOpen x ⊎ SaysOpen y) ⊎ (SaysLeft x × SaysLeft y) → AlikeAs shape x y
    alike s t x y c d why = alike_as shape x y (inr (suffice_said shape graph entry bounds s x c, suffice_said shape graph entry bounds t y d, why))

    spent : (formula : Formula) (history : History) (x : Said) → Heard (found.Open formula history) x → SaysOpen x
    spent formula history x c = ap (λ (s : Said). s.status) c

    left : (input : Input) (x : Said) → Heard (found.Left input) x → SaysLeft x
    left input x c = record { graph = graph; entry = entry.number; input = input; is = c }

    -- no input leaves the bounds, by two derivations
    both_suffice : (by : Form) (formula other : Formula) (derivation line : Derivation) (x y : Said) → x ≡ answered (sufficient_text by bounds formula derivation)
        → y ≡ answered (sufficient_text by bounds other line) → AlikeAs by x y
    both_suffice form.Line formula other derivation line x y c d = inl (c ∙ sym d)
    both_suffice form.Certificate formula other derivation line x y c d =
        inr (
          subst (λ (s : Said). IsTrue (answers s.status)) (sym c) refl,
          subst (λ (s : Said). IsTrue (answers s.status)) (sym d) refl,
          certified formula derivation x (ap (λ (s : Said). s.out) c),
          certified other line y (ap (λ (s : Said). s.out) d),
        )

    one_heard : (arrays : entry.function.arrays ≡ []) (s t : Suffice) (x y : Said) → Sufficient s → Sufficient t → Heard s x → Heard t y → AlikeAs shape x y
    one_heard arrays (found.Yes formula derivation) (found.Yes other line) x y a b c d = both_suffice shape formula other derivation line x y c d
    one_heard arrays (found.Yes formula derivation) (found.Left input) x y a b c d = absurd (a.0 input (left_given entry.function bounds arrays graph input b) b.leaves)
    one_heard arrays (found.Left input) (found.Yes other derivation) x y a b c d = absurd (b.0 input (left_given entry.function bounds arrays graph input a) a.leaves)
    one_heard arrays (found.Left input) (found.Left other) x y a b c d = alike (found.Left input) (found.Left other) x y c d (inr (left input x c, left other y d))
    one_heard arrays (found.Open formula history) t x y a b c d = alike (found.Open formula history) t x y c d (inl (inl (spent formula history x c)))
    one_heard arrays (found.Yes formula derivation) (found.Open other history) x y a b c d = alike (found.Yes formula derivation) (found.Open other history) x y c d (inl (inr (spent other history y d)))
    one_heard arrays (found.Left input) (found.Open other history) x y a b c d = alike (found.Left input) (found.Open other history) x y c d (inl (inr (spent other history y d)))

    one_sufficing : (arrays : entry.function.arrays ≡ []) (names : List Text) → AnyTwo (AlikeAs shape) (IsAskedOfBounds shape graph entry bounds names budget)
    one_sufficing arrays names x y (inl a) (inl b) =
        alike_as shape x y (inl (one_saying names (λ (z : Refusal). IsUnwindFault graph no_predicates bounds entry.function (fault.Refused z)) (one_unwound size few graph entry.function no_predicates bounds) x y a b))
    one_sufficing arrays names x y (inl a) (inr b) = absurd (not_unwound size few graph entry.function no_predicates bounds (limited graph entry bounds b.0) b.0.small a.0 a.1)
    one_sufficing arrays names x y (inr a) (inl b) = absurd (not_unwound size few graph entry.function no_predicates bounds (limited graph entry bounds a.0) a.0.small b.0 b.1)
    one_sufficing arrays names x y (inr a) (inr b) = one_heard arrays a.1.0 b.1.0 x y a.1.1 b.1.1 a.1.3 b.1.3

-- ---- the certificate's file

module _ (r : Reads) (still : Rose r.faults_before r.faults_after → ⊥) (file : Text) (h : IsTrue (is_some (r.holds file))) where
  pub record SamePair (f g : Formula) (d e : Derivation) : Type 0 where
    pub formula : f ≡ g
    pub derivation : d ≡ e

  pub one_certificate : (f g : Formula) (d e : Derivation) → AreCertificateOf r file f d → AreCertificateOf r file g e → SamePair f g d e
  one_certificate f g d e a b =
      let bytes = one_seen r still file a.bytes b.bytes h a.seen b.seen in
      let both = one_pair b.bytes f g d e (subst (λ (held : List ℕ). IsCertificate held f d) bytes a.is) b.is in
      record { formula = both.0; derivation = both.1 }

  pub not_certificate : (x : Refusal) (f : Formula) (d : Derivation) → certificates.IsRefused r file x → AreCertificateOf r file f d → ⊥
  not_certificate x f d (certificates.at_read a) b = not_seen r still certificates.most_certificate file x b.bytes h a b.seen b.short
  not_certificate x f d (certificates.at_form bytes seen short a) b =
      let same = one_seen r still file bytes b.bytes h seen b.seen in
      no_certificate bytes a.line a.first f d (subst (λ (held : List ℕ). IsCertificate held f d) (sym same) b.is)

  -- bytes that are no certificate are refused at one line
  same_line : (bytes : List ℕ) (s t : Refusal) → IsRefusedAtLine bytes s → IsRefusedAtLine bytes t → s ≡ t
  same_line bytes s t c d = same_refused s t (c.is ∙ ap bad_line (one_line bytes c.line d.line c.first d.first) ∙ sym d.is)

  refused_once : Once (certificates.IsRefused r file)
  refused_once s t (certificates.at_read c) (certificates.at_read d) = unread_is r still certificates.most_certificate file s c ∙ sym (unread_is r still certificates.most_certificate file t d)
  refused_once s t (certificates.at_read c) (certificates.at_form bytes seen short d) = absurd (not_seen r still certificates.most_certificate file s bytes h c seen short)
  refused_once s t (certificates.at_form bytes seen short c) (certificates.at_read d) = absurd (not_seen r still certificates.most_certificate file t bytes h d seen short)
  refused_once s t (certificates.at_form bytes seen short c) (certificates.at_form others sight few d) =
      same_line others s t (subst (λ (held : List ℕ). IsRefusedAtLine held s) (one_seen r still file bytes others h seen sight) c) d

  one_of_certificate : (text : List ℕ) (sources : List Text) (Then : Formula → Derivation → Said → Type 0) → ((f : Formula) (d : Derivation) → AnyTwo (AreOfOneCheck text) (Then f d))
      → AnyTwo (AreOfOneCheck text) (OfCertificate r sources file Then)
  one_of_certificate text sources Then alike x y (inl a) (inl b) = inl (one_saying sources (certificates.IsRefused r file) refused_once x y a b)
  one_of_certificate text sources Then alike x y (inl a) (inr b) = absurd (not_certificate a.0 b.0 b.1.0 a.1 b.1.1)
  one_of_certificate text sources Then alike x y (inr a) (inl b) = absurd (not_certificate b.0 a.0 a.1.0 b.1 a.1.1)
  one_of_certificate text sources Then alike x y (inr a) (inr b) =
      let same = one_certificate a.0 b.0 a.1.0 b.1.0 a.1.1 b.1.1 in
      alike b.0 b.1.0 x y (subst (λ (d : Derivation). Then b.0 d x) same.derivation (subst (λ (f : Formula). Then f a.1.0 x) same.formula a.1.2)) b.1.2

  -- ---- the verdict

  apart : (f : Formula) (d : Derivation) (k l : ℕ) → k < l → IsVerdict f d (verdict.BadStep k) → IsVerdict f d (verdict.BadStep l) → ⊥
  apart f d k l less a b = a.3 (b.2 (k - 1) (omega (arith, less, a.0)))

  pub one_verdict : (f : Formula) (d : Derivation) → Once (IsVerdict f d)
  one_verdict f d verdict.Yes verdict.Yes a b = refl
  one_verdict f d verdict.Yes (verdict.BadStep line) a b = absurd (b.3 (a.0 (line - 1) (omega (arith, b.0, b.1))))
  one_verdict f d verdict.Yes verdict.NoEmptyClause a b = absurd (b.1 a.1)
  one_verdict f d (verdict.BadStep line) verdict.Yes a b = absurd (a.3 (b.0 (line - 1) (omega (arith, a.0, a.1))))
  one_verdict f d (verdict.BadStep k) (verdict.BadStep l) a b =
      ⊎_elim
      (λ less. absurd (apart f d k l less a b))
      (λ rest. ⊎_elim (λ more. absurd (apart f d l k more b a)) (λ most. let same : k ≡ l = omega (arith, rest, most) in ap verdict.BadStep same) (cases_lt l k))
      (cases_lt k l)
  one_verdict f d (verdict.BadStep line) verdict.NoEmptyClause a b = absurd (a.3 (b.0 (line - 1) (omega (arith, a.0, a.1))))
  one_verdict f d verdict.NoEmptyClause verdict.Yes a b = absurd (a.1 b.1)
  one_verdict f d verdict.NoEmptyClause (verdict.BadStep line) a b = absurd (b.3 (a.0 (line - 1) (omega (arith, b.0, b.1))))
  one_verdict f d verdict.NoEmptyClause verdict.NoEmptyClause a b = refl

  says_compared : (text : List ℕ) (theirs ours : Formula) (d : Derivation) (x : Said) → IsCompared text theirs ours d x → SaysCompared text x
  says_compared text theirs ours d x (inl a) = inl (record { theirs = theirs; ours = ours; difference = a.0; is = a.2 })
  says_compared text theirs ours d x (inr a) = inr (a.1.0, a.1.2)

  compared : (text : List ℕ) (theirs ours other : Formula) (d : Derivation) (x y : Said) → IsCompared text theirs ours d x → IsCompared text theirs other d y → AreOfOneCheck text x y
  compared text theirs ours other d x y (inl a) b =
      inr (says_compared text theirs ours d x (inl a), says_compared text theirs other d y b, inl (record { theirs = theirs; ours = ours; difference = a.0; is = a.2 }))
  compared text theirs ours other d x y (inr a) (inl b) =
      inr (says_compared text theirs ours d x (inr a), says_compared text theirs other d y (inl b), inr (record { theirs = theirs; ours = other; difference = b.0; is = b.2 }))
  compared text theirs ours other d x y (inr a) (inr b) =
      let mine = subst (λ (f : Formula). IsVerdict f d a.1.0) (sym a.0) a.1.1 in
      let yours = subst (λ (f : Formula). IsVerdict f d b.1.0) (sym b.0) b.1.1 in
      inl (a.1.2 ∙ ap (said_of_verdict text) (one_verdict theirs d a.1.0 b.1.0 mine yours) ∙ sym b.1.2)

  module _ (count : OneCount) (size : OneSize) (few : NotTooMany) where
    one_check_bounds : (m : CheckingBounds) (graph : GraphParts) (entry : EntryFunction) (theirs : Formula) (d : Derivation)
        → AnyTwo (AreOfOneCheck (suffice_text (within m.bounds))) (IsCheckedBounds m graph entry theirs d)
    one_check_bounds m graph entry theirs d x y (inl a) (inl b) =
        inl (one_saying m.sources (λ (z : Refusal). IsUnwindFault graph no_predicates (within m.bounds) entry.function (fault.Refused z))
        (one_unwound size few graph entry.function no_predicates (within m.bounds)) x y a b)
    one_check_bounds m graph entry theirs d x y (inl a) (inr b) =
        absurd (not_unwound size few graph entry.function no_predicates (within m.bounds) (limited count size few graph entry (within m.bounds) b.0) b.0.small a.0 a.1)
    one_check_bounds m graph entry theirs d x y (inr a) (inl b) =
        absurd (not_unwound size few graph entry.function no_predicates (within m.bounds) (limited count size few graph entry (within m.bounds) a.0) a.0.small b.0 b.1)
    one_check_bounds m graph entry theirs d x y (inr a) (inr b) = compared (suffice_text (within m.bounds)) theirs a.1.0 b.1.0 d x y a.1.2 b.1.2

    one_check : (m : Checking) (graph : GraphParts) (entry : EntryFunction) (p : Predicates) (plan : Plan) (goal : GoalForm) (theirs : Formula) (d : Derivation)
        → AnyTwo (AreOfOneCheck (accepted_text m)) (IsChecked m graph entry p plan goal theirs d)
    one_check m graph entry p plan goal theirs d x y (inl a) (inl b) =
        inl (one_saying m.sources (IsGoalRefused graph entry.function p plan (within m.bounds) goal) (one_goal_refused count size few graph entry.function p plan (within m.bounds) m.ends goal) x y a b)
    one_check m graph entry p plan goal theirs d x y (inl a) (inr b) = absurd (not_goal_refused count size few graph entry.function p plan (within m.bounds) m.ends goal b.0 a.0 a.1)
    one_check m graph entry p plan goal theirs d x y (inr a) (inl b) = absurd (not_goal_refused count size few graph entry.function p plan (within m.bounds) m.ends goal a.0 b.0 b.1)
    one_check m graph entry p plan goal theirs d x y (inr a) (inr b) = compared (accepted_text m) theirs a.1.0.formula b.1.0.formula d x y a.1.2 b.1.2

-- ---- the whole

module _ (front_law : (texts : List SourceText) → front.HasOneOutcome texts) (trees_law : (texts : List SourceText) → trees.HasOneOutcome texts) (predicates_law : predicates.OneOutcome) (hits_law : OneListOfHits)
    (count : OneCount) (size : OneSize) (few : NotTooMany) where
  one_of_texts : (sources : List Text) (texts : List SourceText) (Then : GraphParts → Said → Type 0) → ((graph : GraphParts) → AnyTwo AreOfOneKind (Then graph)) → AnyTwo AreOfOneKind (OfTexts sources texts Then)
  one_of_texts sources texts Then alike x y (inl a) (inl b) =
      let law = front_law texts in
      let same = law.one_refusal a.0.code b.0.code a.0.place b.0.place a.1 b.1 in
      inl (a.2 ∙ ap (said_by sources) (same_refusal a.0 b.0 same.0 same.1) ∙ sym b.2)
  one_of_texts sources texts Then alike x y (inl a) (inr b) = absurd ((front_law texts).not_both b.0 a.0.code a.0.place b.1 a.1)
  one_of_texts sources texts Then alike x y (inr a) (inl b) = absurd ((front_law texts).not_both a.0 b.0.code b.0.place a.1 b.1)
  one_of_texts sources texts Then alike x y (inr a) (inr b) =
      alike b.0 x y (subst (λ (graph : GraphParts). Then graph x) ((front_law texts).one_answer a.0 b.0 a.1 b.1) a.2) b.2

  one_sample : (number : ℕ) → AnyTwo AreOfOneKind (IsDueOfSample number)
  one_sample number =
      let Made : GraphParts → EntryFunction → Predicates → Plan → Said → Type 0 = λ graph entry p plan.
      IsGeneration (sample_file ∷ []) graph entry p plan default_bounds counted.Returned default_budget (λ made. sample_text number graph plan made.answers) in
      let Asking : GraphParts → EntryFunction → Said → Type 0 = λ graph entry. OfQuery (sample_file ∷ []) graph query_text (Made graph entry) in
      one_of_texts (sample_file ∷ []) (sample_source number ∷ []) (IsSampled number) (λ graph.
      one_by AreOfOneKind one_kind (entry_of graph (codes "f")) no_such_entry (Asking graph) (λ entry.
      one_of_query predicates_law graph query_text AreOfOneKind one_kind (sample_file ∷ []) (Made graph entry) (λ p plan.
      one_generation count size few (sample_file ∷ []) graph entry p plan default_bounds counted.Returned default_budget (λ made. sample_text number graph plan made.answers))))

  module _ (r : Reads) (still : Rose r.faults_before r.faults_after → ⊥) where
    one_generate : (m : Generating) → IsTrue (are_told r m.sources) → AnyTwo AreOfOneKind (IsDueOf r (generate m))
    one_generate m h =
        let Made : GraphParts → EntryFunction → Predicates → Plan → Said → Type 0 = λ graph entry p plan.
        IsGeneration m.sources graph entry p plan (within m.bounds) m.ends m.budget (generated_report graph entry.number plan (within m.bounds) m.ends m.budget m.json) in
        let Asking : GraphParts → EntryFunction → Said → Type 0 = λ graph entry. OfQuery m.sources graph m.query (Made graph entry) in
        one_of_sources r still front_law m.sources h AreOfOneKind one_kind (λ graph. OfEntry graph m.entry (Asking graph)) (λ graph.
        one_by AreOfOneKind one_kind (entry_of graph m.entry) no_such_entry (Asking graph) (λ entry.
        one_of_query predicates_law graph m.query AreOfOneKind one_kind m.sources (Made graph entry) (λ p plan.
        one_generation count size few m.sources graph entry p plan (within m.bounds) m.ends m.budget (generated_report graph entry.number plan (within m.bounds) m.ends m.budget m.json))))

    one_prove : (m : Proving) → IsTrue (are_told r m.sources) → AnyTwo AreOfOneKind (IsDueOf r (prove m))
    one_prove m h =
        let Proved : GraphParts → EntryFunction → Predicates → Plan → GoalForm → Said → Type 0 = λ graph entry p plan goal.
        IsProved graph entry p plan (within m.bounds) m.ends m.goal goal m.sources m.budget in
        let Goal : GraphParts → EntryFunction → Predicates → Plan → Said → Type 0 = λ graph entry p plan. OfGoal plan m.goal (Proved graph entry p plan) in
        let Asking : GraphParts → EntryFunction → Said → Type 0 = λ graph entry. OfQuery m.sources graph m.query (Goal graph entry) in
        one_of_sources r still front_law m.sources h AreOfOneKind one_kind (λ graph. OfEntry graph m.entry (Asking graph)) (λ graph.
        one_by AreOfOneKind one_kind (entry_of graph m.entry) no_such_entry (Asking graph) (λ entry.
        one_of_query predicates_law graph m.query AreOfOneKind one_kind m.sources (Goal graph entry) (λ p plan.
        one_by AreOfOneKind one_kind (slice_get plan.goals (m.goal - 1)) no_such_goal (Proved graph entry p plan) (λ goal.
        one_proof count size few graph entry p plan (within m.bounds) m.ends m.goal goal m.sources m.budget))))

    one_bounds : (m : Sufficing) → IsTrue (are_told r m.sources) → AnyTwo AreOfOneSuffice (IsDueOf r (suffice m))
    one_bounds m h =
        let Asking : GraphParts → EntryFunction → Said → Type 0 = λ graph entry. IsAskedOfBounds form.Line graph entry (within m.bounds) m.sources m.budget in
        one_of_sources r still front_law m.sources h AreOfOneSuffice one_suffice (λ graph. OfEntry graph m.entry (Asking graph)) (λ graph.
        one_by_entry graph m.entry AreOfOneSuffice one_suffice (Asking graph) (λ entry arrays. one_sufficing count size few form.Line graph entry (within m.bounds) m.budget arrays m.sources))

    one_prove_bounds : (m : Sufficing) → IsTrue (are_told r m.sources) → AnyTwo AreOfOneProof (IsDueOf r (asks.prove_bounds m))
    one_prove_bounds m h =
        let Asking : GraphParts → EntryFunction → Said → Type 0 = λ graph entry. IsAskedOfBounds form.Certificate graph entry (within m.bounds) m.sources m.budget in
        one_of_sources r still front_law m.sources h AreOfOneProof one_bounds_proof (λ graph. OfEntry graph m.entry (Asking graph)) (λ graph.
        one_by_entry graph m.entry AreOfOneProof one_bounds_proof (Asking graph)
        (λ entry arrays. one_sufficing count size few form.Certificate graph entry (within m.bounds) m.budget arrays m.sources))

    one_bounds_checked : (m : CheckingBounds) → IsTrue (are_told r (m.sources ++ m.certificate ∷ [])) → AnyTwo (AreOfOneCheck (suffice_text (within m.bounds))) (IsDueOf r (asks.check_bounds m))
    one_bounds_checked m h =
        let t = both_told front_law predicates_law hits_law r still m.sources m.certificate h in
        let text = suffice_text (within m.bounds) in
        let Asking : GraphParts → EntryFunction → Said → Type 0 = λ graph entry. OfCertificate r m.sources m.certificate (IsCheckedBounds m graph entry) in
        one_of_sources r still front_law m.sources t.0 (AreOfOneCheck text) (one_comparison text) (λ graph. OfEntry graph m.entry (Asking graph)) (λ graph.
        one_by (AreOfOneCheck text) (one_comparison text) (entry_of graph m.entry) no_such_entry (Asking graph) (λ entry.
        one_of_certificate r still m.certificate t.1 text m.sources (IsCheckedBounds m graph entry) (one_check_bounds r still m.certificate t.1 count size few m graph entry)))

    one_least : (m : Proving) → IsTrue (are_told r m.sources) → AnyTwo AreOfOneLeast (IsDueOf r (asks.least m))
    one_least m h =
        let Lowered : GraphParts → EntryFunction → Predicates → Plan → GoalForm → Said → Type 0 = λ graph entry p plan goal.
        IsLowered graph entry p plan (within m.bounds) m.ends m.goal goal m.sources m.budget in
        let Goal : GraphParts → EntryFunction → Predicates → Plan → Said → Type 0 = λ graph entry p plan. OfGoal plan m.goal (Lowered graph entry p plan) in
        let Asking : GraphParts → EntryFunction → Said → Type 0 = λ graph entry. OfQuery m.sources graph m.query (Goal graph entry) in
        one_of_sources r still front_law m.sources h AreOfOneLeast one_lowest (λ graph. OfEntry graph m.entry (Asking graph)) (λ graph.
        one_by AreOfOneLeast one_lowest (entry_of graph m.entry) no_such_entry (Asking graph) (λ entry.
        one_of_query predicates_law graph m.query AreOfOneLeast one_lowest m.sources (Goal graph entry) (λ p plan.
        one_by AreOfOneLeast one_lowest (slice_get plan.goals (m.goal - 1)) no_such_goal (Lowered graph entry p plan) (λ goal.
        one_lowering count size few graph entry p plan (within m.bounds) m.ends m.goal goal m.budget m.sources))))

    one_checked : (m : Checking) → IsTrue (are_told r (m.sources ++ m.certificate ∷ [])) → AnyTwo (AreOfOneCheck (accepted_text m)) (IsDueOf r (check m))
    one_checked m h =
        let t = both_told front_law predicates_law hits_law r still m.sources m.certificate h in
        let text = accepted_text m in
        let Seen : GraphParts → EntryFunction → Predicates → Plan → GoalForm → Said → Type 0 = λ graph entry p plan goal.
        OfCertificate r m.sources m.certificate (IsChecked m graph entry p plan goal) in
        let Goal : GraphParts → EntryFunction → Predicates → Plan → Said → Type 0 = λ graph entry p plan. OfGoal plan m.goal (Seen graph entry p plan) in
        let Asking : GraphParts → EntryFunction → Said → Type 0 = λ graph entry. OfQuery m.sources graph m.query (Goal graph entry) in
        one_of_sources r still front_law m.sources t.0 (AreOfOneCheck text) (one_comparison text) (λ graph. OfEntry graph m.entry (Asking graph)) (λ graph.
        one_by (AreOfOneCheck text) (one_comparison text) (entry_of graph m.entry) no_such_entry (Asking graph) (λ entry.
        one_of_query predicates_law graph m.query (AreOfOneCheck text) (one_comparison text) m.sources (Goal graph entry) (λ p plan.
        one_by (AreOfOneCheck text) (one_comparison text) (slice_get plan.goals (m.goal - 1)) no_such_goal (Seen graph entry p plan) (λ goal.
        one_of_certificate r still m.certificate t.1 text m.sources (IsChecked m graph entry p plan goal) (one_check r still m.certificate t.1 count size few m graph entry p plan goal)))))

    one_asked : (asked : Asked) → IsTrue (are_told r (files_of asked)) → (said other : Said) → IsDueOf r asked said → IsDueOf r asked other → AreAlike asked said other
    one_asked (measure m) h said other c d = measured_once front_law predicates_law hits_law r still m h said other c d
    one_asked (goals m) h said other c d = listed_once front_law predicates_law hits_law r still m h said other c d
    one_asked (runs m) h said other c d = recorded_once front_law predicates_law hits_law r still m h said other c d
    one_asked (generate m) h said other c d = one_generate m h said other c d
    one_asked (prove m) h said other c d = one_prove m h said other c d
    one_asked (check m) h said other c d = one_checked m h said other c d
    one_asked (suffice m) h said other c d = one_bounds m h said other c d
    one_asked (asks.prove_bounds m) h said other c d = one_prove_bounds m h said other c d
    one_asked (asks.check_bounds m) h said other c d = one_bounds_checked m h said other c d
    one_asked (asks.least m) h said other c d = one_least m h said other c d
    one_asked (asks.traces m) h said other c d = traced_once front_law predicates_law hits_law r still m h said other c d
    one_asked (asks.replay m) h said other c d = replayed_once front_law predicates_law hits_law r still m h said other c d
    one_asked (asks.trees m) h said other c d = ended_once front_law predicates_law hits_law r still trees_law m h said other c d
    one_asked (asks.events m) h said other c d = eventful_once front_law predicates_law hits_law r still trees_law m h said other c d
    one_asked (asks.graph sources) h said other c d = printed_once front_law predicates_law hits_law r still sources h said other c d
    one_asked (sample number) h said other c d = one_sample number said other c d

pub at_most_one_kind : ((texts : List SourceText) → front.HasOneOutcome texts) → ((texts : List SourceText) → trees.HasOneOutcome texts) → predicates.OneOutcome → OneListOfHits → OneCount → OneSize → NotTooMany → AtMostOneKindIsDue
at_most_one_kind front_law trees_law predicates_law hits_law count size few r words still told said other a b = by (request_of words) told a b
  where
    by : (o : Option Asked) → IfSome o (λ asked. IsTrue (are_told r (files_of asked))) → MatchOption o (said ≡ usage) (λ asked. IsDueOf r asked said) → MatchOption o (other ≡ usage) (λ asked. IsDueOf r asked other)
        → MatchOption o (said ≡ other) (λ asked. AreAlike asked said other)
    by None h c d = c ∙ sym d
    by (Some asked) h c d = one_asked front_law trees_law predicates_law hits_law count size few r still asked h said other c d

-- What is due has a status: each refusal that is due has a code.
use Rattle.std.proofs.Common.{◌≡◌, ℕ, ◌-◌, Bool, true, false, List, [], ◌∷◌, length, slice_get, Option, Some, None, refl, sym, subst, inl, inr}
use Rattle.std.specs.Prelude.{IsSome, MatchOption, codes, cond, nat_lt}
use Rattle.std.specs.List.{AllByRecursion}
use Rattle.fq_core.specs.Refusals.{refusal}
use Rattle.fq_core.specs.declared.refusal.Fault.TheVariants as fault
use Rattle.fq_core.specs.declared.refusal.Place.{Place}
use Rattle.fq_core.specs.declared.refusal.Place.TheVariants as place
use Rattle.fq_core.specs.declared.refusal.Refusal.{Refusal}
use Rattle.c_front.specs.Automata as automata
use Rattle.c_front.specs.Codes.{RefusedByTheseCodes, text_codes}
use Rattle.c_lex.specs.declared.token.SourceText.{SourceText}
use Rattle.c_meaning.specs.declared.ends.Ends.{Ends}
use Rattle.c_meaning.specs.declared.ends.Ends.TheVariants as counted
use Rattle.c_meaning.specs.declared.input.Input.{Input}
use Rattle.cfa.specs.declared.parts.Function.{Function}
use Rattle.cfa.specs.declared.parts.GraphParts.{GraphParts}
use Rattle.cfa.specs.declared.state.Predicates.{Predicates}
use Rattle.cnf.specs.declared.derivation.Derivation.{Derivation}
use Rattle.cnf.specs.declared.formula.Formula.{Formula}
use Rattle.derivation_check.specs.declared.verdict.Verdict.{Verdict}
use Rattle.derivation_check.specs.declared.verdict.Verdict.TheVariants as verdict
use Rattle.goals.specs.GoalForm.{GoalForm}
use Rattle.goals.specs.declared.plan.Plan.{Plan}
use Rattle.path_runner.specs.declared.path.PathRecord.{PathRecord}
use Rattle.unwinder_reach.specs.declared.reached.bounds.Bounds.{Bounds}
use Rattle.report.specs.Generated.{sample_text}
use Rattle.report.specs.Suffice.{suffice_text}
use Rattle.report.specs.Texts.{goals_text}
use Rattle.trace_file.specs.Written.{traces_text}
use Rattle.sample.specs.Sample.{query_text}
use Rattle.suite.specs.Generated.{IsGenerateFault}
use Rattle.suite.specs.declared.decided.Decided.{Decided}
use Rattle.suite.specs.declared.decided.Decided.TheVariants as decided
use Rattle.suite_problem.specs.declared.generated.Generated.{Generated}
use Rattle.bounds_check.specs.declared.suffice.Suffice.{Suffice}
use Rattle.bounds_check.specs.declared.suffice.Suffice.TheVariants as suffice
use Rattle.least_input.specs.declared.least.Least.{Least}
use Rattle.least_input.specs.declared.least.Least.TheVariants as least
use Rattle.trace_file.specs.declared.trace.Trace.{Trace}
use Rattle.c_typed_trees.specs.declared.unit.Typed.{Typed}
use Rattle.c_types_laws.specs.typing_faults.Laws.{IsOneOf}
use Rattle.unwinder.specs.Unwinding.{IsUnwindFault}
use Rattle.command_words.specs.Reading.{Text}
use Rattle.command_words.specs.Request as asks
use Rattle.command_words.specs.Request.{Asked, Checking, CheckingBounds, Generating, Listing, Measuring, Proving, Replaying, Running, Sufficing, Tracing}
use Rattle.command.specs.Asked.{sample_file}
use Rattle.command.specs.CertificateFile as certificates
use Rattle.command.specs.Check.{IsChecked, IsDueOfCheck, accepted_text}
use Rattle.command.specs.CheckBounds.{IsCheckedBounds, IsDueOfCheckBounds}
use Rattle.command.specs.Codes.{RefusalsHaveTheirCodes, certificate_codes, input_codes, query_codes, trace_codes, unread_codes}
use Rattle.command.specs.Comparison.{IsCompared, said_of_verdict}
use Rattle.command.specs.Due.{IsDueOf, IsDueOfEvents, IsDueOfGoals, IsDueOfGraph, IsDueOfMeasure, IsDueOfReplay, IsDueOfRuns, IsDueOfTraces, IsDueOfTrees}
use Rattle.command.specs.Events.{AreEvents}
use Rattle.command.specs.Generate.{IsDueOfGenerate, IsGeneration, generated_report}
use Rattle.command.specs.Inputs as inputs
use Rattle.command.specs.Least.{IsDueOfLeast, IsLowered, said_of_least}
use Rattle.command.specs.Measure.{IsMeasured}
use Rattle.command.specs.Trees.{ended}
use Rattle.suite.specs.OneGoal.{IsGoalRefused}
use Rattle.command.specs.Prove.{IsDueOfProve, IsProved, IsSaidOf}
use Rattle.command.specs.Queries as queries
use Rattle.command.specs.Ranges.{within}
use Rattle.command.specs.Reads.{Reads}
use Rattle.command.specs.RunList.{edges_in, most_listed, recorded, too_many, unless_many}
use Rattle.command.specs.Refusal.{said_by, status_of}
use Rattle.command.specs.Runs.{EntryFunction, entry_of, no_predicates, runs_of}
use Rattle.command.specs.Said.{Said, answered}
use Rattle.command.specs.Sample.{IsSampled, default_bounds, default_budget, sample_source}
use Rattle.command.specs.Sources.{AreRefused, IsReadUpTo}
use Rattle.command.specs.Stages.{OfCertificate, OfEntry, OfGoal, OfInputs, OfQuery, OfSources, OfTexts, OfTraces, OfTrees, Says, no_such_entry, no_such_goal}
use Rattle.command.specs.declared.bounds.Form.{Form}
use Rattle.command.specs.declared.bounds.Form.TheVariants as form
use Rattle.command.specs.Bounds.{IsAskedOfBounds, IsDueOfBounds, said_of_bounds}
use Rattle.command.specs.TraceFile as traces
use Rattle.command.specs.TraceFile.{inputs_in, longest}
use Rattle.command.specs.Traces.{traced, traces_of}
use Rattle.command.proofs.CodeLaws.{one_of, their_codes}

abbrev HasStatus : Said → Type 0
HasStatus said = IsSome said.status

-- a number is a code
abbrev IsCode : ℕ → Type 0
IsCode code = IsSome (status_of code)

-- ---- refusals

unread_coded : (code : ℕ) → IsOneOf unread_codes code → IsCode code
unread_coded code h = one_of IsCode unread_codes (refl, (refl, tt)) code h

text_coded : (code : ℕ) → IsOneOf text_codes code → IsCode code
text_coded code h = one_of IsCode text_codes all code h
  where
    all : AllByRecursion IsCode text_codes
    all = (refl, (refl, (refl, (refl, (refl, (refl, (refl, (refl, (refl, (refl, (refl, (refl, (refl, (refl, (refl, (refl, (refl, (refl, (refl, (refl, tt))))))))))))))))))))

query_coded : (code : ℕ) → IsOneOf query_codes code → IsCode code
query_coded code h = one_of IsCode query_codes (refl, (refl, (refl, (refl, (refl, (refl, (refl, (refl, (refl, (refl, (refl, (refl, tt)))))))))))) code h

input_coded : (code : ℕ) → IsOneOf input_codes code → IsCode code
input_coded code h = one_of IsCode input_codes (refl, (refl, (refl, (refl, (refl, (refl, tt)))))) code h

trace_coded : (code : ℕ) → IsOneOf trace_codes code → IsCode code
trace_coded code h = one_of IsCode trace_codes (refl, (refl, (refl, (refl, (refl, tt))))) code h

certificate_coded : (code : ℕ) → IsOneOf certificate_codes code → IsCode code
certificate_coded code h = one_of IsCode certificate_codes (refl, (refl, (refl, tt))) code h

said_coded : (names : List Text) (x : Refusal) → IsCode x.code → HasStatus (said_by names x)
unfolding said_by
said_coded names x h = h

status_told : (names : List Text) (x : Refusal) → HasStatus (said_by names x) → IsCode x.code
unfolding said_by
status_told names x h = h

nowhere_coded : (code : ℕ) (p : Place) (said : Said) → IsCode code → said ≡ said_by [] (record { code = code; place = p }) → HasStatus said
nowhere_coded code p said h is = subst HasStatus (sym is) (said_coded [] (record { code = code; place = p }) h)

says_coded : (names : List Text) (P : Refusal → Type 0) (said : Said) → ((x : Refusal) → P x → IsCode x.code) → Says names P said → HasStatus said
says_coded names P said each says = subst HasStatus (sym says.2) (said_coded names says.0 (each says.0 says.1))

answered_done : (text : List ℕ) (said : Said) → said ≡ answered text → HasStatus said
answered_done text said is = subst HasStatus (sym is) refl

-- a fault with this code
fault_coded : (code : ℕ) (p : Place) (x : Refusal) → IsCode code → fault.Refused x ≡ refusal code p → IsCode x.code
fault_coded code p x h is =
    let same : x ≡ record { code = code; place = p } = cc in
    subst (λ (y : Refusal). IsCode y.code) (sym same) h

unwind_coded : (graph : GraphParts) (f : Function) (p : Predicates) (bounds : Bounds) (x : Refusal) → IsUnwindFault graph p bounds f (fault.Refused x) → IsCode x.code
unwind_coded graph f p bounds x (inl many) = fault_coded 80 (place.Limit 50000) x refl many.0
unwind_coded graph f p bounds x (inr large) = fault_coded 81 (place.Limit 4194304) x refl large.0

module _ (graph : GraphParts) (f : Function) (p : Predicates) (plan : Plan) (bounds : Bounds) where
  generate_coded : (ends : Ends) (x : Refusal) → IsGenerateFault graph f p plan bounds ends (fault.Refused x) → IsCode x.code
  generate_coded ends x (inl unwound) = unwind_coded graph f p bounds x unwound
  generate_coded ends x (inr large) = fault_coded 82 (place.Limit 8388608) x refl large.0

  goal_coded : (goal : GoalForm) (x : Refusal) → IsGoalRefused graph f p plan bounds goal x → IsCode x.code
  goal_coded goal x (inl unwound) = unwind_coded graph f p bounds x unwound
  goal_coded goal x (inr large) = fault_coded 82 (place.Limit 8388608) x refl large.0

-- ---- the stages

module _ (law : RefusedByTheseCodes) where
  told : RefusalsHaveTheirCodes
  told = their_codes law

  of_sources : (r : Reads) (sources : List Text) (Then : GraphParts → Said → Type 0) → ((graph : GraphParts) (said : Said) → Then graph said → HasStatus said)
      → (said : Said) → OfSources r sources Then said → HasStatus said
  of_sources r sources Then each said (inl says) = says_coded sources (IsReadUpTo r sources) said (λ x h. unread_coded x.code (told.unread r sources x h)) says
  of_sources r sources Then each said (inr (inl says)) = says_coded sources (AreRefused r.holds sources) said (λ x h. text_coded x.code (told.sources r sources x h)) says
  of_sources r sources Then each said (inr (inr made)) = each made.0 said made.2

  of_trees : (r : Reads) (sources : List Text) (Then : GraphParts → Typed → Said → Type 0) → ((graph : GraphParts) (typed : Typed) (said : Said) → Then graph typed said → HasStatus said)
      → (said : Said) → OfTrees r sources Then said → HasStatus said
  of_trees r sources Then each said (inl says) = says_coded sources (IsReadUpTo r sources) said (λ x h. unread_coded x.code (told.unread r sources x h)) says
  of_trees r sources Then each said (inr (inl says)) = says_coded sources (AreRefused r.holds sources) said (λ x h. text_coded x.code (told.sources r sources x h)) says
  of_trees r sources Then each said (inr (inr made)) = each made.0 made.1.0 said made.1.2

  of_texts : (sources : List Text) (texts : List SourceText) (Then : GraphParts → Said → Type 0) → ((graph : GraphParts) (said : Said) → Then graph said → HasStatus said)
      → (said : Said) → OfTexts sources texts Then said → HasStatus said
  of_texts sources texts Then each said (inl says) =
      says_coded sources (λ (x : Refusal). automata.IsRefused texts x.code x.place) said (λ x h. text_coded x.code (law texts x.code x.place h)) says
  of_texts sources texts Then each said (inr made) = each made.0 said made.2

  of_entry : (graph : GraphParts) (name : Text) (Then : EntryFunction → Said → Type 0) → ((entry : EntryFunction) (said : Said) → Then entry said → HasStatus said)
      → (said : Said) → OfEntry graph name Then said → HasStatus said
  of_entry graph name Then each said due = by (entry_of graph name) due
    where
      by : (found : Option EntryFunction) → MatchOption found (said ≡ no_such_entry) (λ entry. Then entry said) → HasStatus said
      by None is = nowhere_coded 36 place.Nowhere said refl is
      by (Some entry) h = each entry said h

  of_query : (sources : List Text) (graph : GraphParts) (query : Text) (Then : Predicates → Plan → Said → Type 0)
      → ((p : Predicates) (plan : Plan) (said : Said) → Then p plan said → HasStatus said) → (said : Said) → OfQuery sources graph query Then said → HasStatus said
  of_query sources graph query Then each said (inl says) =
      says_coded sources (queries.IsRefused graph query) said (λ x h. query_coded x.code (told.query graph query x h)) says
  of_query sources graph query Then each said (inr made) = each made.0 made.1.0 said made.1.2

  of_goal : (plan : Plan) (number : ℕ) (Then : GoalForm → Said → Type 0) → ((goal : GoalForm) (said : Said) → Then goal said → HasStatus said)
      → (said : Said) → OfGoal plan number Then said → HasStatus said
  of_goal plan number Then each said due = by (slice_get plan.goals (number - 1)) due
    where
      by : (found : Option GoalForm) → MatchOption found (said ≡ no_such_goal) (λ goal. Then goal said) → HasStatus said
      by None is = nowhere_coded 74 place.QueryWhole said refl is
      by (Some goal) h = each goal said h

  of_inputs : (r : Reads) (sources : List Text) (file : Text) (parameters : ℕ) (Then : List Input → Said → Type 0)
      → ((given : List Input) (said : Said) → Then given said → HasStatus said) → (said : Said) → OfInputs r sources file parameters Then said → HasStatus said
  of_inputs r sources file parameters Then each said (inl says) =
      says_coded sources (inputs.AreRefused r file parameters) said (λ x h. input_coded x.code (told.inputs r file parameters x h)) says
  of_inputs r sources file parameters Then each said (inr made) = each made.0 said made.2

  of_traces : (r : Reads) (sources : List Text) (graph : GraphParts) (entry : Function) (ends : Ends) (file : Text) (p : Predicates) (Then : List Trace → Said → Type 0)
      → ((given : List Trace) (said : Said) → Then given said → HasStatus said) → (said : Said) → OfTraces r sources graph entry ends file p Then said → HasStatus said
  of_traces r sources graph entry ends file p Then each said (inl says) =
      says_coded sources (traces.AreRefused r graph entry ends file) said (λ x h. trace_coded x.code (told.traces r graph entry ends file x h)) says
  of_traces r sources graph entry ends file p Then each said (inr made) = each made.0 said made.2

  of_certificate : (r : Reads) (sources : List Text) (file : Text) (Then : Formula → Derivation → Said → Type 0)
      → ((formula : Formula) (derivation : Derivation) (said : Said) → Then formula derivation said → HasStatus said)
      → (said : Said) → OfCertificate r sources file Then said → HasStatus said
  of_certificate r sources file Then each said (inl says) =
      says_coded sources (certificates.IsRefused r file) said (λ x h. certificate_coded x.code (told.certificate r file x h)) says
  of_certificate r sources file Then each said (inr made) = each made.0 made.1.0 said made.1.2

-- ---- the last stage of each command

listed_told : (runs : List PathRecord) (text : List ℕ) (said : Said) → said ≡ unless_many runs text → HasStatus said
listed_told runs text said is = by (nat_lt most_listed (edges_in runs)) is
  where
    by : (many : Bool) → said ≡ cond many (said_by [] too_many) (answered text) → HasStatus said
    by true e = nowhere_coded 54 (place.Limit most_listed) said refl e
    by false e = answered_done _ said e

traced_told : (graph : GraphParts) (entry : EntryFunction) (ends : Ends) (steps : ℕ) (given : List Input) (said : Said) → said ≡ traced graph entry ends steps given → HasStatus said
traced_told graph entry ends steps given said is = by (nat_lt most_listed (edges_in (runs_of graph entry.function no_predicates steps given))) is
  where
    by : (many : Bool) → said ≡ cond many (said_by [] (record { code = 54; place = place.Limit most_listed })) (answered (traces_text entry.function.parameters (traces_of graph entry.function ends steps given))) → HasStatus said
    by true e = nowhere_coded 54 (place.Limit most_listed) said refl e
    by false e = answered_done _ said e

module _ (shape : Form) (graph : GraphParts) (entry : EntryFunction) (bounds : Bounds) where
  found_told : (s : Suffice) (said : Said) → said ≡ said_of_bounds shape graph entry bounds s → HasStatus said
  found_told (suffice.Yes formula derivation) said is = answered_done _ said is
  found_told (suffice.Left input) said is = answered_done _ said is
  found_told (suffice.Open formula history) said is = subst HasStatus (sym is) refl

  asked_told : (names : List Text) (budget : ℕ) (said : Said) → IsAskedOfBounds shape graph entry bounds names budget said → HasStatus said
  asked_told names budget said (inl says) =
      says_coded names (λ (x : Refusal). IsUnwindFault graph no_predicates bounds entry.function (fault.Refused x)) said
      (unwind_coded graph entry.function no_predicates bounds) says
  asked_told names budget said (inr made) = found_told made.1.0 said made.1.3

least_told : (number : ℕ) (bounds : Bounds) (ends : Ends) (l : Least) (said : Said) → said ≡ said_of_least number bounds ends l → HasStatus said
least_told number bounds ends (least.Found input formula fixed) said is = answered_done _ said is
least_told number bounds ends (least.Refuted formula derivation) said is = answered_done _ said is
least_told number bounds ends (least.Open formula history) said is = subst HasStatus (sym is) refl

generation_told : (names : List Text) (graph : GraphParts) (entry : EntryFunction) (p : Predicates) (plan : Plan) (bounds : Bounds) (ends : Ends) (budget : ℕ) (text : Generated → List ℕ)
    (said : Said) → IsGeneration names graph entry p plan bounds ends budget text said → HasStatus said
generation_told names graph entry p plan bounds ends budget text said (inl says) =
    says_coded names (λ (x : Refusal). IsGenerateFault graph entry.function p plan bounds ends (fault.Refused x)) said (generate_coded graph entry.function p plan bounds ends) says
generation_told names graph entry p plan bounds ends budget text said (inr made) = subst HasStatus (sym made.1.3) refl

module _ (graph : GraphParts) (entry : EntryFunction) (p : Predicates) (plan : Plan) (bounds : Bounds) (ends : Ends) (number : ℕ) (goal : GoalForm) where
  decided_told : (d : Decided) (said : Said) → IsSaidOf graph entry p plan bounds ends number goal d said → HasStatus said
  decided_told (decided.Covered input) said due = answered_done _ said due.3
  decided_told (decided.Refuted formula derivation) said due = answered_done _ said due
  decided_told (decided.Undecided formula history) said due = subst HasStatus (sym due) refl

  proved_told : (names : List Text) (budget : ℕ) (said : Said) → IsProved graph entry p plan bounds ends number goal names budget said → HasStatus said
  proved_told names budget said (inl says) =
      says_coded names (IsGoalRefused graph entry.function p plan bounds goal) said (goal_coded graph entry.function p plan bounds goal) says
  proved_told names budget said (inr made) = decided_told made.1.0 said made.1.3

  lowered_told : (names : List Text) (budget : ℕ) (said : Said) → IsLowered graph entry p plan bounds ends number goal names budget said → HasStatus said
  lowered_told names budget said (inl says) =
      says_coded names (IsGoalRefused graph entry.function p plan bounds goal) said (goal_coded graph entry.function p plan bounds goal) says
  lowered_told names budget said (inr made) = least_told number bounds ends made.1.0 said made.1.3

module _ (text : List ℕ) where
  verdict_told : (v : Verdict) (said : Said) → said ≡ said_of_verdict text v → HasStatus said
  verdict_told verdict.Yes said is = answered_done _ said is
  verdict_told (verdict.BadStep line) said is = nowhere_coded 92 (place.Line line) said refl is
  verdict_told verdict.NoEmptyClause said is = nowhere_coded 93 place.Nowhere said refl is

  compared_told : (theirs ours : Formula) (derivation : Derivation) (said : Said) → IsCompared text theirs ours derivation said → HasStatus said
  compared_told theirs ours derivation said (inl other) = subst HasStatus (sym other.2) refl
  compared_told theirs ours derivation said (inr same) = verdict_told same.1.0 said same.1.2

module _ (m : Checking) where
  checked_told : (graph : GraphParts) (entry : EntryFunction) (p : Predicates) (plan : Plan) (goal : GoalForm) (theirs : Formula) (derivation : Derivation) (said : Said)
      → IsChecked m graph entry p plan goal theirs derivation said → HasStatus said
  checked_told graph entry p plan goal theirs derivation said (inl says) =
      says_coded m.sources (IsGoalRefused graph entry.function p plan (within m.bounds) goal) said (goal_coded graph entry.function p plan (within m.bounds) goal) says
  checked_told graph entry p plan goal theirs derivation said (inr made) = compared_told (accepted_text m) theirs (made.1.0).formula derivation said made.1.2

module _ (m : CheckingBounds) where
  checked_bounds_told : (graph : GraphParts) (entry : EntryFunction) (theirs : Formula) (derivation : Derivation) (said : Said)
      → IsCheckedBounds m graph entry theirs derivation said → HasStatus said
  checked_bounds_told graph entry theirs derivation said (inl says) =
      says_coded m.sources (λ (x : Refusal). IsUnwindFault graph no_predicates (within m.bounds) entry.function (fault.Refused x)) said
      (unwind_coded graph entry.function no_predicates (within m.bounds)) says
  checked_bounds_told graph entry theirs derivation said (inr made) = compared_told (suffice_text (within m.bounds)) theirs made.1.0 derivation said made.1.2

-- ---- the commands

module _ (law : RefusedByTheseCodes) (r : Reads) where
  measure_told : (m : Measuring) (graph : GraphParts) (said : Said) → IsDueOfMeasure r m graph said → HasStatus said
  measure_told m graph =
      of_entry law graph m.entry _ (λ entry. of_query law m.sources graph m.query _ (λ p plan.
      of_inputs law r m.sources m.inputs (length entry.function.parameters) (IsMeasured graph entry p plan m.ends m.steps m.json) (λ given said due. answered_done _ said due.2)))

  runs_told : (m : Running) (graph : GraphParts) (said : Said) → IsDueOfRuns r m graph said → HasStatus said
  runs_told m graph =
      of_entry law graph m.entry _ (λ entry. of_inputs law r m.sources m.inputs (length entry.function.parameters) (λ given said. said ≡ recorded graph entry m.steps given)
      (λ given said is. listed_told (runs_of graph entry.function no_predicates m.steps given) _ said is))

  goals_told : (m : Listing) (graph : GraphParts) (said : Said) → IsDueOfGoals m graph said → HasStatus said
  goals_told m graph = of_query law m.sources graph m.query (λ p plan said. said ≡ answered (goals_text graph plan)) (λ p plan said is. answered_done _ said is)

  graph_told : (graph : GraphParts) (said : Said) → IsDueOfGraph graph said → HasStatus said
  graph_told graph said is = answered_done _ said is

  generate_told : (m : Generating) (graph : GraphParts) (said : Said) → IsDueOfGenerate m graph said → HasStatus said
  generate_told m graph =
      of_entry law graph m.entry _ (λ entry. of_query law m.sources graph m.query _ (λ p plan.
      generation_told m.sources graph entry p plan (within m.bounds) m.ends m.budget (generated_report graph entry.number plan (within m.bounds) m.ends m.budget m.json)))

  prove_told : (m : Proving) (graph : GraphParts) (said : Said) → IsDueOfProve m graph said → HasStatus said
  prove_told m graph =
      of_entry law graph m.entry _ (λ entry. of_query law m.sources graph m.query _ (λ p plan. of_goal law plan m.goal _ (λ goal.
      proved_told graph entry p plan (within m.bounds) m.ends m.goal goal m.sources m.budget)))

  check_told : (m : Checking) (graph : GraphParts) (said : Said) → IsDueOfCheck r m graph said → HasStatus said
  check_told m graph =
      of_entry law graph m.entry _ (λ entry. of_query law m.sources graph m.query _ (λ p plan. of_goal law plan m.goal _ (λ goal.
      of_certificate law r m.sources m.certificate _ (checked_told m graph entry p plan goal))))

  bounds_told : (shape : Form) (m : Sufficing) (graph : GraphParts) (said : Said) → IsDueOfBounds shape m graph said → HasStatus said
  bounds_told shape m graph = of_entry law graph m.entry _ (λ entry. asked_told shape graph entry (within m.bounds) m.sources m.budget)

  check_bounds_told : (m : CheckingBounds) (graph : GraphParts) (said : Said) → IsDueOfCheckBounds r m graph said → HasStatus said
  check_bounds_told m graph = of_entry law graph m.entry _ (λ entry. of_certificate law r m.sources m.certificate _ (checked_bounds_told m graph entry))

  lowest_told : (m : Proving) (graph : GraphParts) (said : Said) → IsDueOfLeast m graph said → HasStatus said
  lowest_told m graph =
      of_entry law graph m.entry _ (λ entry. of_query law m.sources graph m.query _ (λ p plan. of_goal law plan m.goal _ (λ goal.
      lowered_told graph entry p plan (within m.bounds) m.ends m.goal goal m.sources m.budget)))

  traces_told : (m : Tracing) (graph : GraphParts) (said : Said) → IsDueOfTraces r m graph said → HasStatus said
  traces_told m graph =
      of_entry law graph m.entry _ (λ entry. of_inputs law r m.sources m.inputs (length entry.function.parameters) (λ given said. said ≡ traced graph entry m.ends m.steps given)
      (λ given said is. traced_told graph entry m.ends m.steps given said is))

  replay_told : (m : Replaying) (graph : GraphParts) (said : Said) → IsDueOfReplay r m graph said → HasStatus said
  replay_told m graph =
      of_entry law graph m.entry _ (λ entry. of_query law m.sources graph m.query _ (λ p plan.
      of_traces law r m.sources graph entry.function m.ends m.traces p (λ given. IsMeasured graph entry p plan m.ends (longest given) m.json (inputs_in given))
      (λ given said due. answered_done _ said due.2)))

  trees_told : (m : Running) (graph : GraphParts) (typed : Typed) (said : Said) → IsDueOfTrees r m graph typed said → HasStatus said
  trees_told m graph typed =
      of_entry law graph m.entry _ (λ entry. of_inputs law r m.sources m.inputs (length entry.function.parameters) (λ given said. said ≡ ended graph typed entry m.steps given)
      (λ given said is. answered_done _ said is))

  events_told : (m : Running) (graph : GraphParts) (typed : Typed) (said : Said) → IsDueOfEvents r m graph typed said → HasStatus said
  events_told m graph typed =
      of_entry law graph m.entry _ (λ entry. of_inputs law r m.sources m.inputs (length entry.function.parameters) (AreEvents graph typed entry m.steps)
      (λ given said are. listed_told (runs_of graph entry.function no_predicates m.steps given) _ said are.text))

  sampled_told : (number : ℕ) (graph : GraphParts) (said : Said) → IsSampled number graph said → HasStatus said
  sampled_told number graph =
      of_entry law graph (codes "f") _ (λ entry. of_query law (sample_file ∷ []) graph query_text _ (λ p plan.
      generation_told (sample_file ∷ []) graph entry p plan default_bounds counted.Returned default_budget (λ made. sample_text number graph plan made.answers)))

  due_told : (asked : Asked) (said : Said) → IsDueOf r asked said → HasStatus said
  due_told (asks.measure m) said due = of_sources law r m.sources (IsDueOfMeasure r m) (measure_told m) said due
  due_told (asks.generate m) said due = of_sources law r m.sources (IsDueOfGenerate m) (generate_told m) said due
  due_told (asks.goals m) said due = of_sources law r m.sources (IsDueOfGoals m) (goals_told m) said due
  due_told (asks.runs m) said due = of_sources law r m.sources (IsDueOfRuns r m) (runs_told m) said due
  due_told (asks.prove m) said due = of_sources law r m.sources (IsDueOfProve m) (prove_told m) said due
  due_told (asks.check m) said due = of_sources law r m.sources (IsDueOfCheck r m) (check_told m) said due
  due_told (asks.suffice m) said due = of_sources law r m.sources (IsDueOfBounds form.Line m) (bounds_told form.Line m) said due
  due_told (asks.prove_bounds m) said due = of_sources law r m.sources (IsDueOfBounds form.Certificate m) (bounds_told form.Certificate m) said due
  due_told (asks.check_bounds m) said due = of_sources law r m.sources (IsDueOfCheckBounds r m) (check_bounds_told m) said due
  due_told (asks.least m) said due = of_sources law r m.sources (IsDueOfLeast m) (lowest_told m) said due
  due_told (asks.traces m) said due = of_sources law r m.sources (IsDueOfTraces r m) (traces_told m) said due
  due_told (asks.replay m) said due = of_sources law r m.sources (IsDueOfReplay r m) (replay_told m) said due
  due_told (asks.trees m) said due = of_trees law r m.sources (IsDueOfTrees r m) (trees_told m) said due
  due_told (asks.events m) said due = of_trees law r m.sources (IsDueOfEvents r m) (events_told m) said due
  due_told (asks.graph sources) said due = of_sources law r sources IsDueOfGraph graph_told said due
  due_told (asks.sample number) said due = of_texts law (sample_file ∷ []) (sample_source number ∷ []) (IsSampled number) (sampled_told number) said due

-- a refusal that is due has a code
pub refusal_coded : RefusedByTheseCodes → (r : Reads) (asked : Asked) (names : List Text) (x : Refusal) → IsDueOf r asked (said_by names x) → IsCode x.code
refusal_coded law r asked names x due = status_told names x (due_told law r asked (said_by names x) due)

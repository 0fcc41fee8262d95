-- An accepted certificate refutes its goal, and one of bounds shows that no input leaves them.
use Rattle.std.proofs.Common.{◌≡◌, ℕ, ◌-◌, List, [], ◌∷◌, Some, None, slice_get, refl, sym, ap, subst, ◌∙◌, inl, inr}
use Rattle.std.specs.Prelude.{Bool, true, false, ◌==◌, ◌&&◌, Option, MatchOption, find, option_map}
use Rattle.std.specs.List.{list_all}
use Rattle.fq_core.specs.declared.refusal.Place.TheVariants as place
use Rattle.fq_core.specs.declared.refusal.Refusal.{Refusal}
use Rattle.bounds_check.specs.Leaving.{IsForLeaving, NoneLeaves}
use Rattle.cfa.specs.declared.parts.Function.{Function}
use Rattle.cfa.specs.declared.parts.GraphParts.{GraphParts}
use Rattle.cfa.specs.declared.state.Predicates.{Predicates}
use Rattle.cnf.proofs.ChecksLaws.{no_model}
use Rattle.cnf.specs.Checks.{Checks}
use Rattle.cnf.specs.declared.derivation.Derivation.{Derivation}
use Rattle.cnf.specs.declared.formula.Formula.{Formula}
use Rattle.derivation_check.specs.Verdicts.{IsVerdict}
use Rattle.derivation_check.specs.declared.verdict.Verdict.{Verdict}
use Rattle.derivation_check.specs.declared.verdict.Verdict.TheVariants as verdict
use Rattle.goal_formula.specs.Exact.{IsExact}
use Rattle.goal_formula.specs.declared.goal.GoalFormula.{GoalFormula}
use Rattle.goals.specs.GoalForm.{GoalForm}
use Rattle.goals.specs.declared.plan.Plan.{Plan}
use Rattle.unwinder_reach.specs.declared.reached.bounds.Bounds.{Bounds}
use Rattle.suite.specs.Made.{NoneHits}
use Rattle.command_words.specs.Reading.{Text}
use Rattle.command_words.specs.Request.{Asked, Checking, CheckingBounds}
use Rattle.command.specs.declared.status.Status.{Status}
use Rattle.command.specs.declared.status.Status.TheVariants as status
use Rattle.command.specs.Accepted.{AreSufficient, Certifies, CertifiesBounds, IsRefutedGoal}
use Rattle.command.specs.Check.{IsChecked, IsDueOfCheck, accepted_text}
use Rattle.command.specs.CheckBounds.{IsCheckedBounds, IsDueOfCheckBounds}
use Rattle.command.specs.Comparison.{IsCompared, said_of_verdict}
use Rattle.command.specs.Due.{IsDue, IsDueOf}
use Rattle.command.specs.Queries.{IsPlanned}
use Rattle.command.specs.Ranges.{within}
use Rattle.command.specs.Reads.{Reads}
use Rattle.command.specs.Refusal.{said_by, status_of, status_rows}
use Rattle.command.specs.Outcome.{Ends, Writes}
use Rattle.command.specs.Runs.{EntryFunction, entry_of}
use Rattle.command.specs.Said.{Said}
use Rattle.command.specs.Sources.{HaveAutomaton}
use Rattle.command.specs.Stages.{OfCertificate, OfGoal, OfQuery, OfSources, Says, usage}
use Rattle.command.specs.Watched.{Watched}
use Rattle.command.proofs.GoalLaws.{none_hits}

-- ---- no refusal is done

abbrev is_open_row : Option Status → Bool
is_open_row (Some status.Done) = false
is_open_row s = true

abbrev row_status : List (ℕ × Status) → ℕ → Option Status
row_status rows code = option_map (λ row. row.1) (find (λ row. row.0 == code) rows)

all_of : (a b : Bool) → (a && b) ≡ true → (a ≡ true) × (b ≡ true)
all_of true true is = (refl, refl)
all_of true false is = absurd (cc)
all_of false b is = absurd (cc)

rows_not_done : (rows : List (ℕ × Status)) (code : ℕ) → list_all (λ row. is_open_row (Some row.1)) rows ≡ true → is_open_row (row_status rows code) ≡ true
rows_not_done [] code all = refl
rows_not_done (row ∷ rows) code all =
    let parts = all_of (is_open_row (Some row.1)) (list_all (λ other. is_open_row (Some other.1)) rows) all in
    by (row.0 == code) refl parts.0 (rows_not_done rows code parts.1)
  where
    by : (test : Bool) → (row.0 == code) ≡ test → is_open_row (Some row.1) ≡ true → is_open_row (row_status rows code) ≡ true → is_open_row (row_status (row ∷ rows) code) ≡ true
    by true is here rest = rw is here
    by false is here rest = rw is rest

code_not_done : (code : ℕ) → status_of code ≡ Some status.Done → ⊥
code_not_done code done =
    let open_row = rows_not_done status_rows code refl in
    let shut : is_open_row (status_of code) ≡ false = ap is_open_row done in
    let both : false ≡ true = sym shut ∙ open_row in
    absurd (cc)

said_not_done : (names : List Text) (x : Refusal) (said : Said) → said ≡ said_by names x → said.status ≡ Some status.Done → ⊥
unfolding said_by
said_not_done names x said is done = code_not_done x.code (sym (ap (λ (s : Said). s.status) is) ∙ done)

says_not_done : (names : List Text) (P : Refusal → Type 0) (said : Said) → Says names P said → said.status ≡ Some status.Done → ⊥
says_not_done names P said says done = said_not_done names says.0 said says.2 done

-- ---- the stages of `check`

module _ (m : Checking) (said : Said) (done : said.status ≡ Some status.Done) where
  module _ (graph : GraphParts) (entry : EntryFunction) (p : Predicates) (plan : Plan) (goal : GoalForm) where
    abbrev NoneOf : Type 0
    NoneOf = NoneHits graph entry.function p plan (within m.bounds) m.ends goal

    right : (ours : GoalFormula) (derivation : Derivation) (v : Verdict) → IsExact graph p entry.function (within m.bounds) m.ends plan goal ours
        → IsVerdict ours.formula derivation v → said ≡ said_of_verdict (accepted_text m) v → NoneOf
    right ours derivation verdict.Yes exact checks is = none_hits graph entry.function p plan (within m.bounds) goal m.ends ours derivation exact checks
    right ours derivation (verdict.BadStep line) exact checks is = absurd (said_not_done [] _ said is done)
    right ours derivation verdict.NoEmptyClause exact checks is = absurd (said_not_done [] _ said is done)

    compared : (theirs : Formula) (ours : GoalFormula) (derivation : Derivation) → IsExact graph p entry.function (within m.bounds) m.ends plan goal ours
        → IsCompared (accepted_text m) theirs ours.formula derivation said → NoneOf
    compared theirs ours derivation exact (inl other) =
        let rejected : said.status ≡ Some status.CertificateRejected = ap (λ (s : Said). s.status) other.2 in
        absurd (cc)
    compared theirs ours derivation exact (inr same) = right ours derivation same.1.0 exact same.1.1 same.1.2

    checked : (theirs : Formula) (derivation : Derivation) → IsChecked m graph entry p plan goal theirs derivation said → NoneOf
    checked theirs derivation (inl refusal) = absurd (says_not_done m.sources _ said refusal done)
    checked theirs derivation (inr made) = compared theirs made.1.0 derivation made.1.1 made.1.2

    read : (r : Reads) → OfCertificate r m.sources m.certificate (IsChecked m graph entry p plan goal) said → NoneOf
    read r (inl refusal) = absurd (says_not_done m.sources _ said refusal done)
    read r (inr held) = checked held.0 held.1.0 held.1.2

  module _ (r : Reads) (graph : GraphParts) (have : HaveAutomaton r.holds m.sources graph) where
    module _ (entry : EntryFunction) (entry_is : entry_of graph m.entry ≡ Some entry) where
      at_goal : (p : Predicates) (plan : Plan) → IsPlanned graph m.query p plan → (found : Option GoalForm) → slice_get plan.goals (m.goal - 1) ≡ found
          → MatchOption found (said ≡ said_by [] (record { code = 74; place = place.QueryWhole })) (λ goal. OfCertificate r m.sources m.certificate (IsChecked m graph entry p plan goal) said)
          → IsRefutedGoal r m
      at_goal p plan planned None is due = absurd (said_not_done [] _ said due done)
      at_goal p plan planned (Some goal) is due = record {
        graph = graph;
        automaton = have;
        entry = entry;
        entry_is = entry_is;
        predicates = p;
        plan = plan;
        planned = planned;
        goal = goal;
        goal_is = is;
        none = read graph entry p plan goal r due;
      }

      at_query : OfQuery m.sources graph m.query (λ p plan. OfGoal plan m.goal (λ goal. OfCertificate r m.sources m.certificate (IsChecked m graph entry p plan goal))) said
          → IsRefutedGoal r m
      at_query (inl refusal) = absurd (says_not_done m.sources _ said refusal done)
      at_query (inr made) = at_goal made.0 made.1.0 made.1.1 (slice_get made.1.0.goals (m.goal - 1)) refl made.1.2

    at_entry : (found : Option EntryFunction) → entry_of graph m.entry ≡ found
        → MatchOption found (said ≡ said_by [] (record { code = 36; place = place.Nowhere }))
        (λ entry. OfQuery m.sources graph m.query (λ p plan. OfGoal plan m.goal (λ goal. OfCertificate r m.sources m.certificate (IsChecked m graph entry p plan goal))) said)
        → IsRefutedGoal r m
    at_entry None is due = absurd (said_not_done [] _ said due done)
    at_entry (Some entry) is due = at_query entry is due

  pub at_sources : (r : Reads) → OfSources r m.sources (IsDueOfCheck r m) said → IsRefutedGoal r m
  at_sources r (inl refusal) = absurd (says_not_done m.sources _ said refusal done)
  at_sources r (inr (inl refusal)) = absurd (says_not_done m.sources _ said refusal done)
  at_sources r (inr (inr made)) = at_entry r made.0 made.1 (entry_of made.0 m.entry) refl made.2

-- ---- the stages of `check-bounds`

-- where a derivation checks over a formula of the inputs that leave the bounds, none does
none_leaves : (graph : GraphParts) (f : Function) (bounds : Bounds) (formula : Formula) (derivation : Derivation) → IsForLeaving graph f bounds formula → Checks formula derivation
    → NoneLeaves graph f bounds
none_leaves graph f bounds formula derivation is checks = λ input for leaves.
    let found = is.exact.complete input for leaves in
    no_model is.bits.formula derivation found.0 (subst (λ (g : Formula). Checks g derivation) (sym is.same) checks) found.2

module _ (m : CheckingBounds) (said : Said) (done : said.status ≡ Some status.Done) where
  module _ (graph : GraphParts) (entry : EntryFunction) where
    abbrev NoneLeft : Type 0
    NoneLeft = NoneLeaves graph entry.function (within m.bounds)

    right_bounds : (text : List ℕ) (ours : Formula) (derivation : Derivation) (v : Verdict) → IsForLeaving graph entry.function (within m.bounds) ours
        → IsVerdict ours derivation v → said ≡ said_of_verdict text v → NoneLeft
    right_bounds text ours derivation verdict.Yes exact checks is = none_leaves graph entry.function (within m.bounds) ours derivation exact checks
    right_bounds text ours derivation (verdict.BadStep line) exact checks is = absurd (said_not_done [] _ said is done)
    right_bounds text ours derivation verdict.NoEmptyClause exact checks is = absurd (said_not_done [] _ said is done)

    compared_bounds : (text : List ℕ) (theirs ours : Formula) (derivation : Derivation) → IsForLeaving graph entry.function (within m.bounds) ours
        → IsCompared text theirs ours derivation said → NoneLeft
    compared_bounds text theirs ours derivation exact (inl other) =
        let rejected : said.status ≡ Some status.CertificateRejected = ap (λ (s : Said). s.status) other.2 in
        absurd (cc)
    compared_bounds text theirs ours derivation exact (inr same) = right_bounds text ours derivation same.1.0 exact same.1.1 same.1.2

    read_bounds : (r : Reads) → OfCertificate r m.sources m.certificate (IsCheckedBounds m graph entry) said → NoneLeft
    read_bounds r (inl refusal) = absurd (says_not_done m.sources _ said refusal done)
    read_bounds r (inr held) = checked_bounds held.0 held.1.0 held.1.2
      where
        checked_bounds : (theirs : Formula) (derivation : Derivation) → IsCheckedBounds m graph entry theirs derivation said → NoneLeft
        checked_bounds theirs derivation (inl refusal) = absurd (says_not_done m.sources _ said refusal done)
        checked_bounds theirs derivation (inr made) = compared_bounds _ theirs made.1.0 derivation made.1.1 made.1.2

  bounds_at_entry : (r : Reads) (graph : GraphParts) → HaveAutomaton r.holds m.sources graph → (found : Option EntryFunction) → entry_of graph m.entry ≡ found
      → MatchOption found (said ≡ said_by [] (record { code = 36; place = place.Nowhere }))
      (λ entry. OfCertificate r m.sources m.certificate (IsCheckedBounds m graph entry) said)
      → AreSufficient r m
  bounds_at_entry r graph have None is due = absurd (said_not_done [] _ said due done)
  bounds_at_entry r graph have (Some entry) is due = record {
    graph = graph;
    automaton = have;
    entry = entry;
    entry_is = is;
    none = read_bounds graph entry r due;
  }

  pub bounds_at_sources : (r : Reads) → OfSources r m.sources (IsDueOfCheckBounds r m) said → AreSufficient r m
  bounds_at_sources r (inl refusal) = absurd (says_not_done m.sources _ said refusal done)
  bounds_at_sources r (inr (inl refusal)) = absurd (says_not_done m.sources _ said refusal done)
  bounds_at_sources r (inr (inr made)) = bounds_at_entry r made.0 made.1 (entry_of made.0 m.entry) refl made.2

-- ---- by the words

-- where `check` ends done, the goal is refuted
pub certifies : (r : Reads) (words : List Text) (s : Status) (out err : Writes) (watch : Watched) → Ends (IsDue r words) s out err watch → Certifies r words s
certifies r words s out err watch ended = λ m asked done.
    let told = subst (λ (x : Status). Ends (IsDue r words) x out err watch) done ended in
    let due = subst (λ (o : Option Asked). MatchOption o (told.0 ≡ usage) (λ a. IsDueOf r a told.0)) asked told.1 in
    at_sources m told.0 told.2 r due

-- where `check-bounds` ends done, no input leaves the bounds
pub certifies_bounds : (r : Reads) (words : List Text) (s : Status) (out err : Writes) (watch : Watched) → Ends (IsDue r words) s out err watch → CertifiesBounds r words s
certifies_bounds r words s out err watch ended = λ m asked done.
    let told = subst (λ (x : Status). Ends (IsDue r words) x out err watch) done ended in
    let due = subst (λ (o : Option Asked). MatchOption o (told.0 ≡ usage) (λ a. IsDueOf r a told.0)) asked told.1 in
    bounds_at_sources m told.0 told.2 r due

-- What `prove` writes is a certificate that `check` accepts.
use Rattle.std.proofs.Common.{◌≡◌, ◌⊎◌, ℕ, ◌≤◌, List, [], ◌∷◌, ◌++◌, length, map, get_or, Option, Some, None, refl, sym, ap, subst, ◌∙◌, inl, inr, arith}
use Rattle.std.specs.Prelude.{◌==◌, ◌-◌, IfSome, IsTrue, MatchOption, false, slice_get}
use Rattle.c_front.specs.Laws as front
use Rattle.c_lex.specs.declared.token.SourceText.{SourceText}
use Rattle.certificate.specs.Certificates.{IsPair, certificate_text}
use Rattle.cfa.specs.declared.parts.GraphParts.{GraphParts}
use Rattle.cfa.specs.declared.state.Predicates.{Predicates}
use Rattle.cnf.specs.Checks.{Checks}
use Rattle.cnf.specs.declared.derivation.Derivation.{Derivation}
use Rattle.cnf.specs.declared.formula.Formula.{Formula}
use Rattle.derivation_check.specs.Verdicts.{IsVerdict}
use Rattle.derivation_check.specs.declared.verdict.Verdict.TheVariants as verdict
use Rattle.fq_core.specs.declared.refusal.Place.TheVariants as place
use Rattle.fq_core.specs.declared.refusal.Refusal.{Refusal}
use Rattle.fq_io.specs.Counts.{Rose}
use Rattle.goals.specs.GoalForm.{GoalForm}
use Rattle.goals.specs.declared.plan.Plan.{Plan}
use Rattle.measurer_hits.specs.hits.Laws.{OneListOfHits}
use Rattle.predicates.specs.Laws as predicates
use Rattle.unwinder_reach.specs.reached_laws.Laws.{NotTooMany, OneCount, OneSize}
use Rattle.suite.specs.declared.decided.Decided.{Decided}
use Rattle.suite.specs.declared.decided.Decided.TheVariants.{Covered, Refuted, Undecided}
use Rattle.suite.specs.Made.{IsDecided}
use Rattle.command_words.specs.Reading.{Text}
use Rattle.command_words.specs.Request.{prove, check, Checking, Proving}
use Rattle.command.specs.CertificateFile.{AreCertificateOf}
use Rattle.command.specs.Check.{IsChecked, accepted_text}
use Rattle.command.specs.Comparison.{IsCompared, said_of_verdict}
use Rattle.command.specs.Due.{IsDueOf}
use Rattle.suite.specs.OneGoal.{IsGoalWithin}
use Rattle.command.specs.Prove.{IsProved, IsSaidOf}
use Rattle.command.specs.Queries.{IsPlanned}
use Rattle.command.specs.Ranges.{within}
use Rattle.command.specs.Reads.{Reads, Sees}
use Rattle.command.specs.Refusal.{said_by}
use Rattle.command.specs.Runs.{EntryFunction, entry_of}
use Rattle.command.specs.Said.{Said}
use Rattle.command.specs.Sources.{AreRead, HaveAutomaton}
use Rattle.command.specs.Stages.{OfCertificate, OfEntry, OfGoal, OfQuery, Says, no_such_entry, no_such_goal}
use Rattle.command_laws.specs.due_laws.Accepted.{CertificatesAreAccepted, SaysRefuted, checking_of}
use Rattle.command_laws.specs.due_laws.Determined.{SaysCertificate, SaysOtherFormula, are_told}
use Rattle.command_laws.proofs.due_laws.OneDue.{Told, both_told, no_automaton, not_all_read, not_planned, one_automaton, one_plan}
use Rattle.command_laws.proofs.due_laws.OneKind.{not_certificate, not_goal_refused, one_certificate, one_verdict}

-- ---- what is no certificate

abbrev pub first_byte : List ℕ → ℕ
first_byte text = get_or text 0 0

pub nothing_said : (said : Said) → SaysCertificate said → said.out ≡ [] → ⊥
nothing_said said h e = let no : 0 ≡ 102 = ap first_byte (sym e ∙ h.is) in absurd (omega (arith, no))

pub no_text : (names : List Text) (x : Refusal) → (said_by names x).out ≡ []
unfolding said_by
no_text names x = refl

pub refusal_said : (names : List Text) (P : Refusal → Type 0) (said : Said) → SaysCertificate said → Says names P said → ⊥
refusal_said names P said h is = nothing_said said h (ap (λ (s : Said). s.out) is.2 ∙ no_text names is.0)

-- a text that begins with another byte
pub line_said : (said : Said) (text : List ℕ) (byte : ℕ) → (byte == 102) ≡ false → SaysCertificate said → said.out ≡ text → first_byte text ≡ byte → ⊥
line_said said text byte other h e first =
    let no : byte ≡ 102 = sym first ∙ ap first_byte (sym e ∙ h.is) in
    let same : (102 == 102) ≡ false = subst (λ (n : ℕ). (n == 102) ≡ false) no other in
    absurd (cc)

-- ---- what `prove` says

-- `prove` refuted the goal that its words name, and says the certificate
record IsRefuted (before : Reads) (m : Proving) (said : Said) : Type 0 where
  graph : GraphParts
  have : HaveAutomaton before.holds m.sources graph
  entry : EntryFunction
  named : entry_of graph m.entry ≡ Some entry
  p : Predicates
  plan : Plan
  planned : IsPlanned graph m.query p plan
  goal : GoalForm
  there : slice_get plan.goals (m.goal - 1) ≡ Some goal
  small : IsGoalWithin graph entry.function p plan (within m.bounds) goal
  formula : Formula
  derivation : Derivation
  checks : Checks formula derivation
  pair : IsPair formula derivation
  is : said.out ≡ certificate_text formula derivation

module _ (before : Reads) (m : Proving) (said : Said) (h : SaysCertificate said) where
  by_goal : (graph : GraphParts) → HaveAutomaton before.holds m.sources graph → (entry : EntryFunction) → entry_of graph m.entry ≡ Some entry → (p : Predicates) (plan : Plan) → IsPlanned graph m.query p plan
      → (goal : GoalForm) → slice_get plan.goals (m.goal - 1) ≡ Some goal → IsProved graph entry p plan (within m.bounds) m.ends m.goal goal m.sources m.budget said → IsRefuted before m said
  by_goal graph have entry named p plan planned goal there (inl a) = absurd (refusal_said m.sources _ said h a)
  by_goal graph have entry named p plan planned goal there (inr a) = by a.1.0 a.1.1 a.1.3
    where
      by : (decided : Decided) → IsDecided graph entry.function p plan (within m.bounds) m.ends goal m.budget decided → IsSaidOf graph entry p plan (within m.bounds) m.ends m.goal goal decided said → IsRefuted before m said
      by (Covered input) is s = absurd (line_said said _ 103 refl h (ap (λ (z : Said). z.out) s.3) refl)
      by (Refuted formula derivation) is s = record {
        graph = graph;
        have = have;
        entry = entry;
        named = named;
        p = p;
        plan = plan;
        planned = planned;
        goal = goal;
        there = there;
        small = a.0;
        formula = formula.formula;
        derivation = derivation;
        checks = is.1.0;
        pair = is.3;
        is = ap (λ (z : Said). z.out) s;
      }
      by (Undecided formula history) is s = absurd (line_said said _ 103 refl h (ap (λ (z : Said). z.out) s) refl)

  by_plan : (graph : GraphParts) → HaveAutomaton before.holds m.sources graph → (entry : EntryFunction) → entry_of graph m.entry ≡ Some entry → (p : Predicates) (plan : Plan) → IsPlanned graph m.query p plan
      → OfGoal plan m.goal (λ goal. IsProved graph entry p plan (within m.bounds) m.ends m.goal goal m.sources m.budget) said → IsRefuted before m said
  by_plan graph have entry named p plan planned is = by (slice_get plan.goals (m.goal - 1)) refl is
    where
      by : (o : Option GoalForm) → slice_get plan.goals (m.goal - 1) ≡ o → MatchOption o (said ≡ no_such_goal) (λ goal. IsProved graph entry p plan (within m.bounds) m.ends m.goal goal m.sources m.budget said) → IsRefuted before m said
      by None e s = absurd (nothing_said said h (ap (λ (z : Said). z.out) s ∙ no_text [] (record { code = 74; place = place.QueryWhole })))
      by (Some goal) e s = by_goal graph have entry named p plan planned goal e s

  by_query : (graph : GraphParts) → HaveAutomaton before.holds m.sources graph → (entry : EntryFunction) → entry_of graph m.entry ≡ Some entry
      → OfQuery m.sources graph m.query (λ p plan. OfGoal plan m.goal (λ goal. IsProved graph entry p plan (within m.bounds) m.ends m.goal goal m.sources m.budget)) said → IsRefuted before m said
  by_query graph have entry named (inl a) = absurd (refusal_said m.sources _ said h a)
  by_query graph have entry named (inr a) = by_plan graph have entry named a.0 a.1.0 a.1.1 a.1.2

  by_graph : (graph : GraphParts) → HaveAutomaton before.holds m.sources graph
      → OfEntry graph m.entry (λ entry. OfQuery m.sources graph m.query (λ p plan. OfGoal plan m.goal (λ goal. IsProved graph entry p plan (within m.bounds) m.ends m.goal goal m.sources m.budget))) said → IsRefuted before m said
  by_graph graph have is = by (entry_of graph m.entry) refl is
    where
      by : (o : Option EntryFunction) → entry_of graph m.entry ≡ o
          → MatchOption o (said ≡ no_such_entry) (λ entry. OfQuery m.sources graph m.query (λ p plan. OfGoal plan m.goal (λ goal. IsProved graph entry p plan (within m.bounds) m.ends m.goal goal m.sources m.budget)) said) → IsRefuted before m said
      by None e s = absurd (nothing_said said h (ap (λ (z : Said). z.out) s ∙ no_text [] (record { code = 36; place = place.Nowhere })))
      by (Some entry) e s = by_query graph have entry e s

  is_refuted : IsDueOf before (prove m) said → IsRefuted before m said
  is_refuted (inl a) = absurd (refusal_said m.sources _ said h a)
  is_refuted (inr (inl a)) = absurd (refusal_said m.sources _ said h a)
  is_refuted (inr (inr a)) = by_graph a.0 a.1 a.2

-- ---- the sources hold the same

same_head : (a b : Option (List ℕ)) (xs ys : List (Option (List ℕ))) → a ∷ xs ≡ b ∷ ys → a ≡ b
same_head a b xs ys e = cc

same_tail : (a b : Option (List ℕ)) (xs ys : List (Option (List ℕ))) → a ∷ xs ≡ b ∷ ys → xs ≡ ys
same_tail a b xs ys e = cc

still_read : (holds other : List ℕ → Option (List ℕ)) (files : List Text) (texts : List SourceText) → map holds files ≡ map other files → AreRead holds files texts → AreRead other files texts
still_read holds other [] [] e h = h
still_read holds other [] (t ∷ ts) e h = absurd h
still_read holds other (f ∷ fs) [] e h = absurd h
still_read holds other (f ∷ fs) (t ∷ ts) e h =
    let here = same_head (holds f) (other f) (map holds fs) (map other fs) e in (
      record { name = h.0.name; bytes = subst (λ (o : Option (List ℕ)). IfSome o (λ held. t.bytes ≡ held)) here h.0.bytes; short = h.0.short },
      still_read holds other fs ts (same_tail (holds f) (other f) (map holds fs) (map other fs) e) h.1,
    )

pub still_have : (before after : Reads) (files : List Text) (graph : GraphParts) → map before.holds files ≡ map after.holds files → HaveAutomaton before.holds files graph → HaveAutomaton after.holds files graph
still_have before after files graph e h = record { texts = h.texts; read = still_read before.holds after.holds files h.texts e h.read; automaton = h.automaton }

-- ---- what `check` says

module _ (front_law : (texts : List SourceText) → front.HasOneOutcome texts) (predicates_law : predicates.OneOutcome) (hits_law : OneListOfHits)
    (count : OneCount) (size : OneSize) (few : NotTooMany) (before after : Reads) (m : Proving) (file : Text) (said : Said) (same : map before.holds m.sources ≡ map after.holds m.sources)
    (still : Rose after.faults_before after.faults_after → ⊥) (told : IsTrue (are_told after (m.sources ++ file ∷ []))) (it : IsRefuted before m said)
    (seen : Sees after.holds file said.out) (short : length said.out ≤ 268435456) where
  abbrev n : Checking
  n = checking_of m file

  abbrev IsAccepted : Said → Type 0
  IsAccepted verdict = SaysRefuted n verdict ⊎ SaysOtherFormula verdict

  parts_told : IsTrue (are_told after m.sources) × Told after still file
  parts_told = both_told front_law predicates_law hits_law after still m.sources file told

  have : HaveAutomaton after.holds m.sources it.graph
  have = still_have before after m.sources it.graph same it.have

  held : AreCertificateOf after file it.formula it.derivation
  held = record { bytes = said.out; seen = seen; short = short; is = (it.pair, it.is) }

  -- `check` compares the certificate's formula with the one that it makes anew, and gives the verdict on the derivation
  by_compared : (ours : Formula) (v : Said) → IsCompared (accepted_text n) it.formula ours it.derivation v → IsAccepted v
  by_compared ours v (inl a) = inr (record { theirs = it.formula; ours = ours; difference = a.0; is = a.2 })
  by_compared ours v (inr a) =
      let checks : IsVerdict it.formula it.derivation verdict.Yes = it.checks in
      let own = subst (λ (f : Formula). IsVerdict f it.derivation a.1.0) (sym a.0) a.1.1 in
      inl (a.1.2 ∙ ap (said_of_verdict (accepted_text n)) (one_verdict after still file parts_told.1 it.formula it.derivation a.1.0 verdict.Yes own checks))

  abbrev Checked : EntryFunction → Predicates → Plan → GoalForm → Formula → Derivation → Said → Type 0
  Checked = IsChecked n it.graph

  by_checked : (v : Said) → Checked it.entry it.p it.plan it.goal it.formula it.derivation v → IsAccepted v
  by_checked v (inl a) = absurd (not_goal_refused count size few it.graph it.entry.function it.p it.plan (within m.bounds) m.ends it.goal it.small a.0 a.1)
  by_checked v (inr a) = by_compared a.1.0.formula v a.1.2

  by_certificate : (v : Said) → OfCertificate after m.sources file (Checked it.entry it.p it.plan it.goal) v → IsAccepted v
  by_certificate v (inl a) = absurd (not_certificate after still file parts_told.1 a.0 it.formula it.derivation a.1 held)
  by_certificate v (inr a) =
      let pair = one_certificate after still file parts_told.1 a.0 it.formula a.1.0 it.derivation a.1.1 held in
      by_checked v
      (subst (λ (d : Derivation). Checked it.entry it.p it.plan it.goal it.formula d v) pair.derivation
      (subst (λ (f : Formula). Checked it.entry it.p it.plan it.goal f a.1.0 v) pair.formula a.1.2))

  abbrev OfThisGoal : EntryFunction → Predicates → Plan → Said → Type 0
  OfThisGoal entry p plan = OfGoal plan m.goal (λ goal. OfCertificate after m.sources file (Checked entry p plan goal))

  of_goal : (v : Said) → OfThisGoal it.entry it.p it.plan v → IsAccepted v
  of_goal v is = by_certificate v (subst (λ (o : Option GoalForm). MatchOption o (v ≡ no_such_goal) (λ goal. OfCertificate after m.sources file (Checked it.entry it.p it.plan goal) v)) it.there is)

  of_query : (v : Said) → OfQuery m.sources it.graph m.query (OfThisGoal it.entry) v → IsAccepted v
  of_query v (inl a) = absurd (not_planned predicates_law it.graph m.query a.0 it.p it.plan a.1 it.planned)
  of_query v (inr a) =
      let plans = one_plan predicates_law it.graph m.query a.0 it.p a.1.0 it.plan a.1.1 it.planned in
      of_goal v
      (subst (λ (plan : Plan). OfThisGoal it.entry it.p plan v) plans.same_plan
      (subst (λ (p : Predicates). OfThisGoal it.entry p a.1.0 v) plans.same_predicates a.1.2))

  of_entry : (v : Said) → OfEntry it.graph m.entry (λ entry. OfQuery m.sources it.graph m.query (OfThisGoal entry)) v → IsAccepted v
  of_entry v is =
      of_query v (subst (λ (o : Option EntryFunction). MatchOption o (v ≡ no_such_entry) (λ entry. OfQuery m.sources it.graph m.query (OfThisGoal entry) v)) it.named is)

  accepted : (v : Said) → IsDueOf after (check n) v → IsAccepted v
  accepted v (inl a) = absurd (not_all_read after still m.sources a.0 have.texts parts_told.0 a.1 have.read)
  accepted v (inr (inl a)) = absurd (no_automaton after still front_law m.sources parts_told.0 a.0 it.graph a.1 have)
  accepted v (inr (inr a)) =
      let graph = one_automaton after still front_law m.sources parts_told.0 a.0 it.graph a.1 have in
      of_entry v
      (subst (λ (g : GraphParts). OfEntry g m.entry (λ entry. OfQuery m.sources g m.query (λ p plan. OfGoal plan m.goal (λ goal. OfCertificate after m.sources file (IsChecked n g entry p plan goal)))) v) graph a.2)

pub certificates_are_accepted : ((texts : List SourceText) → front.HasOneOutcome texts) → predicates.OneOutcome → OneListOfHits → OneCount → OneSize → NotTooMany → CertificatesAreAccepted
certificates_are_accepted front_law predicates_law hits_law count size few before after m file said verdict same still told due certificate seen short checked =
    accepted front_law predicates_law hits_law count size few before after m file said same still told (is_refuted before m said certificate due) seen short verdict checked

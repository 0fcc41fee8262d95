-- What `prove-bounds` writes is a certificate that `check-bounds` accepts.
use Rattle.std.proofs.Common.{◌≡◌, ◌⊎◌, ◌≤◌, List, [], ◌∷◌, ◌++◌, length, map, Option, Some, None, refl, sym, ap, subst, ◌∙◌, inl, inr}
use Rattle.std.specs.Prelude.{IsTrue, MatchOption}
use Rattle.bounds_check.specs.Sufficing.{IsSuffice, IsWithinLimits}
use Rattle.bounds_check.specs.declared.suffice.Suffice.{Suffice}
use Rattle.bounds_check.specs.declared.suffice.Suffice.TheVariants as found
use Rattle.c_front.specs.Laws as front
use Rattle.c_lex.specs.declared.token.SourceText.{SourceText}
use Rattle.certificate.specs.Certificates.{IsPair, certificate_text}
use Rattle.cfa.specs.declared.parts.GraphParts.{GraphParts}
use Rattle.cnf.specs.Checks.{Checks}
use Rattle.cnf.specs.declared.derivation.Derivation.{Derivation}
use Rattle.cnf.specs.declared.formula.Formula.{Formula}
use Rattle.derivation_check.specs.Verdicts.{IsVerdict}
use Rattle.derivation_check.specs.declared.verdict.Verdict.TheVariants as verdict
use Rattle.fq_core.specs.declared.refusal.Place.TheVariants as place
use Rattle.fq_io.specs.Counts.{Rose}
use Rattle.measurer_hits.specs.hits.Laws.{OneListOfHits}
use Rattle.predicates.specs.Laws as predicates
use Rattle.unwinder_reach.specs.reached_laws.Laws.{NotTooMany, OneCount, OneSize}
use Rattle.report.specs.Suffice.{suffice_text}
use Rattle.command_words.specs.Reading.{Text}
use Rattle.command_words.specs.Request as asks
use Rattle.command_words.specs.Request.{CheckingBounds, Sufficing}
use Rattle.command.specs.CertificateFile.{AreCertificateOf}
use Rattle.command.specs.CheckBounds.{IsCheckedBounds}
use Rattle.command.specs.Comparison.{IsCompared, said_of_verdict}
use Rattle.command.specs.Due.{IsDueOf}
use Rattle.command.specs.Ranges.{within}
use Rattle.command.specs.Reads.{Reads, Sees}
use Rattle.command.specs.Runs.{EntryFunction, entry_of, no_predicates}
use Rattle.command.specs.Said.{Said}
use Rattle.command.specs.Sources.{HaveAutomaton}
use Rattle.command.specs.Stages.{OfCertificate, OfEntry, no_such_entry}
use Rattle.command.specs.declared.bounds.Form.TheVariants as form
use Rattle.command.specs.Bounds.{IsAskedOfBounds, said_of_bounds}
use Rattle.command_laws.specs.due_laws.Accepted.{BoundsCertificatesAreAccepted, SaysSufficient, checking_bounds_of}
use Rattle.command_laws.specs.due_laws.Determined.{SaysCertificate, SaysOtherFormula, are_told}
use Rattle.command_laws.proofs.due_laws.Accepted.{line_said, no_text, nothing_said, refusal_said, still_have}
use Rattle.command_laws.proofs.due_laws.OneDue.{Told, both_told, no_automaton, not_all_read, one_automaton}
use Rattle.command_laws.proofs.due_laws.OneKind.{limited, not_certificate, not_unwound, one_certificate, one_verdict}

-- ---- what `prove-bounds` says

-- `prove-bounds` found that no input leaves the bounds, and says the certificate
record IsSufficient (before : Reads) (m : Sufficing) (said : Said) : Type 0 where
  graph : GraphParts
  have : HaveAutomaton before.holds m.sources graph
  entry : EntryFunction
  named : entry_of graph m.entry ≡ Some entry
  small : IsWithinLimits graph entry.function (within m.bounds)
  formula : Formula
  derivation : Derivation
  checks : Checks formula derivation
  pair : IsPair formula derivation
  is : said.out ≡ certificate_text formula derivation

module _ (before : Reads) (m : Sufficing) (said : Said) (h : SaysCertificate said) where
  abbrev Asking : GraphParts → EntryFunction → Said → Type 0
  Asking graph entry = IsAskedOfBounds form.Certificate graph entry (within m.bounds) m.sources m.budget

  by_found : (graph : GraphParts) → HaveAutomaton before.holds m.sources graph → (entry : EntryFunction) → entry_of graph m.entry ≡ Some entry
      → IsWithinLimits graph entry.function (within m.bounds) → (s : Suffice) → IsSuffice graph entry.function (within m.bounds) m.budget s
      → said ≡ said_of_bounds form.Certificate graph entry (within m.bounds) s → IsSufficient before m said
  by_found graph have entry named small (found.Yes formula derivation) is e = record {
    graph = graph;
    have = have;
    entry = entry;
    named = named;
    small = small;
    formula = formula;
    derivation = derivation;
    checks = is.2.0;
    pair = is.3;
    is = ap (λ (z : Said). z.out) e;
  }
  by_found graph have entry named small (found.Left input) is e = absurd (line_said said _ 98 refl h (ap (λ (z : Said). z.out) e) refl)
  by_found graph have entry named small (found.Open formula history) is e = absurd (line_said said _ 98 refl h (ap (λ (z : Said). z.out) e) refl)

  by_asked : (graph : GraphParts) → HaveAutomaton before.holds m.sources graph → (entry : EntryFunction) → entry_of graph m.entry ≡ Some entry → Asking graph entry said → IsSufficient before m said
  by_asked graph have entry named (inl a) = absurd (refusal_said m.sources _ said h a)
  by_asked graph have entry named (inr a) = by_found graph have entry named a.0 a.1.0 a.1.1 a.1.3

  by_graph : (graph : GraphParts) → HaveAutomaton before.holds m.sources graph → OfEntry graph m.entry (Asking graph) said → IsSufficient before m said
  by_graph graph have is = by (entry_of graph m.entry) refl is
    where
      by : (o : Option EntryFunction) → entry_of graph m.entry ≡ o → MatchOption o (said ≡ no_such_entry) (λ entry. Asking graph entry said) → IsSufficient before m said
      by None e s = absurd (nothing_said said h (ap (λ (z : Said). z.out) s ∙ no_text [] (record { code = 36; place = place.Nowhere })))
      by (Some entry) e s = by_asked graph have entry e s

  is_sufficient : IsDueOf before (asks.prove_bounds m) said → IsSufficient before m said
  is_sufficient (inl a) = absurd (refusal_said m.sources _ said h a)
  is_sufficient (inr (inl a)) = absurd (refusal_said m.sources _ said h a)
  is_sufficient (inr (inr a)) = by_graph a.0 a.1 a.2

-- ---- what `check-bounds` says

module _ (front_law : (texts : List SourceText) → front.HasOneOutcome texts) (predicates_law : predicates.OneOutcome) (hits_law : OneListOfHits)
    (count : OneCount) (size : OneSize) (few : NotTooMany) (before after : Reads) (m : Sufficing) (file : Text) (said : Said) (same : map before.holds m.sources ≡ map after.holds m.sources)
    (still : Rose after.faults_before after.faults_after → ⊥) (told : IsTrue (are_told after (m.sources ++ file ∷ []))) (it : IsSufficient before m said)
    (seen : Sees after.holds file said.out) (short : length said.out ≤ 268435456) where
  abbrev n : CheckingBounds
  n = checking_bounds_of m file

  abbrev IsAccepted : Said → Type 0
  IsAccepted verdict = SaysSufficient n verdict ⊎ SaysOtherFormula verdict

  parts_told : IsTrue (are_told after m.sources) × Told after still file
  parts_told = both_told front_law predicates_law hits_law after still m.sources file told

  have : HaveAutomaton after.holds m.sources it.graph
  have = still_have before after m.sources it.graph same it.have

  held : AreCertificateOf after file it.formula it.derivation
  held = record { bytes = said.out; seen = seen; short = short; is = (it.pair, it.is) }

  -- `check-bounds` compares the certificate's formula with the one that it makes anew, and gives the verdict on the derivation
  by_compared : (ours : Formula) (v : Said) → IsCompared (suffice_text (within m.bounds)) it.formula ours it.derivation v → IsAccepted v
  by_compared ours v (inl a) = inr (record { theirs = it.formula; ours = ours; difference = a.0; is = a.2 })
  by_compared ours v (inr a) =
      let checks : IsVerdict it.formula it.derivation verdict.Yes = it.checks in
      let own = subst (λ (f : Formula). IsVerdict f it.derivation a.1.0) (sym a.0) a.1.1 in
      inl (a.1.2 ∙ ap (said_of_verdict (suffice_text (within m.bounds))) (one_verdict after still file parts_told.1 it.formula it.derivation a.1.0 verdict.Yes own checks))

  by_checked : (v : Said) → IsCheckedBounds n it.graph it.entry it.formula it.derivation v → IsAccepted v
  by_checked v (inl a) =
      absurd (not_unwound size few it.graph it.entry.function no_predicates (within m.bounds) (limited count size few it.graph it.entry (within m.bounds) it.small) it.small.small a.0 a.1)
  by_checked v (inr a) = by_compared a.1.0 v a.1.2

  by_certificate : (v : Said) → OfCertificate after m.sources file (IsCheckedBounds n it.graph it.entry) v → IsAccepted v
  by_certificate v (inl a) = absurd (not_certificate after still file parts_told.1 a.0 it.formula it.derivation a.1 held)
  by_certificate v (inr a) =
      let pair = one_certificate after still file parts_told.1 a.0 it.formula a.1.0 it.derivation a.1.1 held in
      by_checked v
      (subst (λ (d : Derivation). IsCheckedBounds n it.graph it.entry it.formula d v) pair.derivation
      (subst (λ (f : Formula). IsCheckedBounds n it.graph it.entry f a.1.0 v) pair.formula a.1.2))

  of_entry : (v : Said) → OfEntry it.graph m.entry (λ entry. OfCertificate after m.sources file (IsCheckedBounds n it.graph entry)) v → IsAccepted v
  of_entry v is =
      by_certificate v
      (subst (λ (o : Option EntryFunction). MatchOption o (v ≡ no_such_entry) (λ entry. OfCertificate after m.sources file (IsCheckedBounds n it.graph entry) v)) it.named is)

  accepted : (v : Said) → IsDueOf after (asks.check_bounds n) v → IsAccepted v
  accepted v (inl a) = absurd (not_all_read after still m.sources a.0 have.texts parts_told.0 a.1 have.read)
  accepted v (inr (inl a)) = absurd (no_automaton after still front_law m.sources parts_told.0 a.0 it.graph a.1 have)
  accepted v (inr (inr a)) =
      let graph = one_automaton after still front_law m.sources parts_told.0 a.0 it.graph a.1 have in
      of_entry v (subst (λ (g : GraphParts). OfEntry g m.entry (λ entry. OfCertificate after m.sources file (IsCheckedBounds n g entry)) v) graph a.2)

pub bounds_certificates_are_accepted : ((texts : List SourceText) → front.HasOneOutcome texts) → predicates.OneOutcome → OneListOfHits → OneCount → OneSize → NotTooMany → BoundsCertificatesAreAccepted
bounds_certificates_are_accepted front_law predicates_law hits_law count size few before after m file said verdict same still told due certificate seen short checked =
    accepted front_law predicates_law hits_law count size few before after m file said same still told (is_sufficient before m said certificate due) seen short verdict checked

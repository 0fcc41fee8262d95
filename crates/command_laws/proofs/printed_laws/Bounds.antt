-- What the lines of bounds say.
use Rattle.std.proofs.Common.{◌≡◌, ◌⊎◌, ℕ, List, [], ◌++◌, length, refl, sym, ap, ◌∙◌, inl, inr}
use Rattle.std.specs.Prelude.{◌==◌, codes, false}
use Rattle.bounds_check.specs.Leaving.{NoneLeaves}
use Rattle.bounds_check.specs.Sufficing.{IsSuffice}
use Rattle.bounds_check.specs.declared.suffice.Suffice.{Suffice}
use Rattle.bounds_check.specs.declared.suffice.Suffice.TheVariants as found
use Rattle.c_values.specs.declared.kinds.Kind.{Kind}
use Rattle.cfa.specs.declared.parts.GraphParts.{GraphParts}
use Rattle.cnf.specs.declared.derivation.Derivation.{Derivation}
use Rattle.cnf.specs.declared.formula.Formula.{Formula}
use Rattle.derivation_check.specs.declared.verdict.Verdict.{Verdict}
use Rattle.derivation_check.specs.declared.verdict.Verdict.TheVariants as verdict
use Rattle.fq_core.specs.declared.refusal.Place.TheVariants as place
use Rattle.input_text.specs.Lines.{line_input, texts_in}
use Rattle.report.specs.Made.{arguments_text}
use Rattle.report.specs.Suffice.{suffice_text}
use Rattle.command_words.specs.Request as asks
use Rattle.command_words.specs.Request.{CheckingBounds, Sufficing}
use Rattle.command.proofs.AcceptedLaws.{bounds_at_sources}
use Rattle.command.specs.CheckBounds.{IsCheckedBounds}
use Rattle.command.specs.Comparison.{IsCompared, said_of_verdict}
use Rattle.command.specs.Due.{IsDueOf}
use Rattle.command.specs.Ranges.{within}
use Rattle.command.specs.Reads.{Reads}
use Rattle.command.specs.Runs.{EntryFunction}
use Rattle.command.specs.Said.{Said, answered}
use Rattle.command.specs.Stages.{OfCertificate, OfSources}
use Rattle.command.specs.declared.bounds.Form.{Form}
use Rattle.command.specs.declared.bounds.Form.TheVariants as form
use Rattle.command.specs.Bounds.{IsAskedOfBounds, IsDueOfBounds, said_of_bounds}
use Rattle.command_laws.specs.printed_laws.Bounds.{BoundsLinesAreTrue, SaysLeft, SaysSuffice}
use Rattle.command_laws.specs.printed_laws.Named.{Begins, NamedEntry}
use Rattle.command_laws.proofs.printed_laws.Graphs.{entry_kinds}
use Rattle.command_laws.proofs.printed_laws.Numbers.{arguments_read, longs_read}
use Rattle.command_laws.proofs.printed_laws.Walk.{byte_at, named_entry, no_refusal, no_text, of_certificate, texts_differ}

-- ---- a line that begins with `bounds suffice`

module _ (r : Reads) (said : Said) (h : Begins said (codes "bounds suffice")) where
  -- no text has another eighth byte
  not_suffice : (text : List ℕ) (byte : ℕ) → (byte == 115) ≡ false → byte_at 7 text ≡ byte → said.out ≡ text → ⊥
  not_suffice text byte other here is = texts_differ 7 byte 115 text (codes "bounds suffice" ++ h.rest) other refl here refl (sym is ∙ h.is)

  some_suffice : said.out ≡ [] → ⊥
  some_suffice = not_suffice [] 0 refl refl

  module _ (m : Sufficing) where
    by_found : (graph : GraphParts) (entry : EntryFunction) (s : Suffice) → IsSuffice graph entry.function (within m.bounds) m.budget s → said ≡ said_of_bounds form.Line graph entry (within m.bounds) s
        → (said ≡ answered (suffice_text (within m.bounds))) × NoneLeaves graph entry.function (within m.bounds)
    by_found graph entry (found.Yes formula derivation) is told = (told, is.0)
    by_found graph entry (found.Left input) is told = absurd (not_suffice _ 108 refl refl (ap (λ (s : Said). s.out) told))
    by_found graph entry (found.Open formula history) is told = absurd (not_suffice _ 111 refl refl (ap (λ (s : Said). s.out) told))

    by_asked : (graph : GraphParts) (entry : EntryFunction) → IsAskedOfBounds form.Line graph entry (within m.bounds) m.sources m.budget said
        → (said ≡ answered (suffice_text (within m.bounds))) × NoneLeaves graph entry.function (within m.bounds)
    by_asked graph entry (inl a) = absurd (no_refusal said some_suffice m.sources _ a)
    by_asked graph entry (inr a) = by_found graph entry a.1.0 a.1.1 a.1.3

    suffices : IsDueOf r (asks.suffice m) said → SaysSuffice r m.sources m.entry (within m.bounds) said
    suffices due =
        let at = named_entry said some_suffice r m.sources m.entry (λ graph entry. IsAskedOfBounds form.Line graph entry (within m.bounds) m.sources m.budget) due in
        let is = by_asked at.0.graph at.0.entry at.1 in
        record { of = at.0; printed = is.0; none = is.1 }

  module _ (m : CheckingBounds) where
    abbrev text : List ℕ
    text = suffice_text (within m.bounds)

    by_verdict : (v : Verdict) → said ≡ said_of_verdict text v → said ≡ answered text
    by_verdict verdict.Yes told = told
    by_verdict (verdict.BadStep line) told = absurd (some_suffice (ap (λ (s : Said). s.out) told ∙ no_text [] (record { code = 92; place = place.Line line })))
    by_verdict verdict.NoEmptyClause told = absurd (some_suffice (ap (λ (s : Said). s.out) told ∙ no_text [] (record { code = 93; place = place.Nowhere })))

    by_compared : (theirs ours : Formula) (derivation : Derivation) → IsCompared text theirs ours derivation said → said ≡ answered text
    by_compared theirs ours derivation (inl a) = absurd (some_suffice (ap (λ (s : Said). s.out) a.2))
    by_compared theirs ours derivation (inr a) = by_verdict a.1.0 a.1.2

    by_checked : (graph : GraphParts) (entry : EntryFunction) (theirs : Formula) (derivation : Derivation) → IsCheckedBounds m graph entry theirs derivation said → said ≡ answered text
    by_checked graph entry theirs derivation (inl a) = absurd (no_refusal said some_suffice m.sources _ a)
    by_checked graph entry theirs derivation (inr a) = by_compared theirs a.1.0 derivation a.1.2

    checked : IsDueOf r (asks.check_bounds m) said → SaysSuffice r m.sources m.entry (within m.bounds) said
    checked due =
        let at = named_entry said some_suffice r m.sources m.entry (λ graph entry. OfCertificate r m.sources m.certificate (IsCheckedBounds m graph entry)) due in
        let certificate = of_certificate said some_suffice r m.sources m.certificate (IsCheckedBounds m at.0.graph at.0.entry) at.1 in
        let told = by_checked at.0.graph at.0.entry certificate.0 certificate.1.0 certificate.1.2 in
        let it = bounds_at_sources m said (ap (λ (s : Said). s.status) told) r due in
        record { of = record { graph = it.graph; automaton = it.automaton; entry = it.entry; entry_is = it.entry_is }; printed = told; none = it.none }

-- ---- a line that begins with `bounds left`

module _ (r : Reads) (said : Said) (h : Begins said (codes "bounds left")) (m : Sufficing) where
  not_left : (text : List ℕ) (byte : ℕ) → (byte == 108) ≡ false → byte_at 7 text ≡ byte → said.out ≡ text → ⊥
  not_left text byte other here is = texts_differ 7 byte 108 text (codes "bounds left" ++ h.rest) other refl here refl (sym is ∙ h.is)

  some_left : said.out ≡ [] → ⊥
  some_left = not_left [] 0 refl refl

  by_left : (f : Form) (of : NamedEntry r m.sources m.entry) (s : Suffice) → IsSuffice of.graph of.entry.function (within m.bounds) m.budget s
      → said ≡ said_of_bounds f of.graph of.entry (within m.bounds) s → SaysLeft r m.sources m.entry (within m.bounds) said
  by_left form.Line of (found.Yes formula derivation) is told = absurd (not_left _ 115 refl refl (ap (λ (s : Said). s.out) told))
  by_left form.Certificate of (found.Yes formula derivation) is told = absurd (not_left _ 99 refl refl (ap (λ (s : Said). s.out) told))
  by_left f of (found.Open formula history) is told = absurd (not_left _ 111 refl refl (ap (λ (s : Said). s.out) told))
  by_left f of (found.Left input) is told = record {
    of = of;
    input = input;
    printed = told;
    arguments_read =
        ap (λ (kinds : List Kind). line_input (length of.entry.function.parameters) (texts_in (arguments_text input.words kinds))) (entry_kinds of.graph m.entry of.entry of.entry_is)
        ∙ arguments_read of.entry.function.parameters input.words is.words_fit;
    answers_read = longs_read input.answers is.answers_fit;
    left = is;
  }

  by_form : (f : Form) (of : NamedEntry r m.sources m.entry) → IsAskedOfBounds f of.graph of.entry (within m.bounds) m.sources m.budget said → SaysLeft r m.sources m.entry (within m.bounds) said
  by_form f of (inl a) = absurd (no_refusal said some_left m.sources _ a)
  by_form f of (inr a) = by_left f of a.1.0 a.1.1 a.1.3

  by_due : (f : Form) → OfSources r m.sources (IsDueOfBounds f m) said → SaysLeft r m.sources m.entry (within m.bounds) said
  by_due f due =
      let at = named_entry said some_left r m.sources m.entry (λ graph entry. IsAskedOfBounds f graph entry (within m.bounds) m.sources m.budget) due in
      by_form f at.0 at.1

  lefts : IsDueOf r (asks.suffice m) said ⊎ IsDueOf r (asks.prove_bounds m) said → SaysLeft r m.sources m.entry (within m.bounds) said
  lefts (inl due) = by_due form.Line due
  lefts (inr due) = by_due form.Certificate due

pub bounds_lines_are_true : BoundsLinesAreTrue
bounds_lines_are_true = record {
  suffice = λ r m said due begins. suffices r said begins m due;
  checked = λ r m said due begins. checked r said begins m due;
  left = λ r m said due begins. lefts r said begins m due;
}

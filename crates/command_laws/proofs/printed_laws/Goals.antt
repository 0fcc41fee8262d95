-- What the lines of a goal say.
use Rattle.std.proofs.Common.{◌≡◌, ℕ, List, [], ◌++◌, length, Some, refl, sym, ap, ◌∙◌, inl, inr, append_assoc}
use Rattle.std.specs.Prelude.{◌==◌, codes, false, true}
use Rattle.std.specs.Fmt.{decimal}
use Rattle.c_meaning.specs.declared.ends.Ends.{Ends}
use Rattle.c_meaning.specs.declared.input.Input.{Input}
use Rattle.c_values.specs.declared.kinds.Kind.{Kind}
use Rattle.cnf.specs.declared.derivation.Derivation.{Derivation}
use Rattle.cnf.specs.declared.formula.Formula.{Formula}
use Rattle.derivation_check.specs.declared.verdict.Verdict.{Verdict}
use Rattle.derivation_check.specs.declared.verdict.Verdict.TheVariants as verdict
use Rattle.fq_core.specs.declared.refusal.Place.TheVariants as place
use Rattle.input_text.specs.Lines.{line_input, texts_in}
use Rattle.least_input.specs.Answers.{IsAnswered}
use Rattle.least_input.specs.declared.least.Least.{Least}
use Rattle.least_input.specs.declared.least.Least.TheVariants as least
use Rattle.path_runner.specs.Paths.{record_of}
use Rattle.unwinder_reach.specs.declared.reached.bounds.Bounds.{Bounds}
use Rattle.report.specs.Generated.{bounds_text, refuted_text}
use Rattle.report.specs.Least.{answers_text, least_text, numbers_text, without_last_zeros}
use Rattle.report.specs.Made.{arguments_text}
use Rattle.report.specs.Texts.{ends_text}
use Rattle.suite.specs.declared.decided.Decided.{Decided}
use Rattle.suite.specs.declared.decided.Decided.TheVariants as decided
use Rattle.command_words.specs.Request as asks
use Rattle.command_words.specs.Request.{Checking, Proving}
use Rattle.command.proofs.AcceptedLaws.{at_sources}
use Rattle.command.specs.Check.{IsChecked, accepted_text}
use Rattle.command.specs.Comparison.{IsCompared, said_of_verdict}
use Rattle.command.specs.Due.{IsDueOf}
use Rattle.command.specs.Least.{IsLowered, said_of_least}
use Rattle.command.specs.Prove.{IsProved, IsSaidOf}
use Rattle.command.specs.Ranges.{within}
use Rattle.command.specs.Reads.{Reads}
use Rattle.command.specs.Said.{Said, answered}
use Rattle.command.specs.Stages.{OfCertificate}
use Rattle.command_laws.specs.printed_laws.Goals.{GoalLinesAreTrue, SaysCovered, SaysLeast, SaysRefuted}
use Rattle.command_laws.specs.printed_laws.Named.{BeginsOfGoal, NamedGoal}
use Rattle.command_laws.proofs.printed_laws.Graphs.{entry_kinds, entry_there, sources_are_graph}
use Rattle.command_laws.proofs.printed_laws.Numbers.{arguments_read, numbers_read, plain_arguments_read, small_trimmed, taken_read}
use Rattle.command_laws.proofs.printed_laws.Small.{least_words}
use Rattle.command_laws.proofs.printed_laws.Walk.{behind_number, byte_at, named_goal, no_refusal, no_text, of_certificate, texts_differ}

-- ---- texts of a goal that begin otherwise

-- behind its number, the lines that a goal is refuted and that this is its least input
grouped : (front a b c d : List ℕ) → front ++ a ++ b ++ c ++ d ≡ front ++ (a ++ b ++ c ++ d)
grouped front a b c d = simp append_assoc

refuted_grouped : (number : ℕ) (bounds : Bounds) (ends : Ends) → refuted_text number bounds ends ≡ codes "goal " ++ decimal number ++ (codes " refuted" ++ bounds_text bounds ++ ends_text ends ++ codes "\n")
refuted_grouped number bounds ends = grouped (codes "goal " ++ decimal number) (codes " refuted") (bounds_text bounds) (ends_text ends) (codes "\n")

least_grouped : (number : ℕ) (input : Input)
    → least_text number input ≡ codes "goal " ++ decimal number ++ (codes " least args" ++ numbers_text input.words ++ answers_text (without_last_zeros input.answers) ++ codes "\n")
least_grouped number input = grouped (codes "goal " ++ decimal number) (codes " least args") (numbers_text input.words) (answers_text (without_last_zeros input.answers)) (codes "\n")

module _ (said : Said) (number : ℕ) (start : List ℕ) (h : BeginsOfGoal said number start) where
  some : said.out ≡ [] → ⊥
  some none = texts_differ 0 0 103 [] (codes "goal " ++ decimal number ++ (start ++ h.rest)) refl refl refl refl (sym none ∙ h.is)

  -- a text that is no line of a goal
  no_goal : (text : List ℕ) (byte : ℕ) → (byte == 103) ≡ false → byte_at 0 text ≡ byte → said.out ≡ text → ⊥
  no_goal text byte other here is = texts_differ 0 byte 103 text (codes "goal " ++ decimal number ++ (start ++ h.rest)) other refl here refl (sym is ∙ h.is)

  -- a line of the goal that goes on otherwise
  goes_otherwise : (text : List ℕ) (a b : ℕ) → (a == b) ≡ false → (b == b) ≡ true → byte_at 1 text ≡ a → byte_at 1 (start ++ h.rest) ≡ b → said.out ≡ codes "goal " ++ decimal number ++ text → ⊥
  goes_otherwise text a b other own here there is = texts_differ 1 a b text (start ++ h.rest) other own here there (behind_number number text (start ++ h.rest) (sym is ∙ h.is))

-- ---- the stages of `prove` and `least`, to the goal

module _ (r : Reads) (m : Proving) (said : Said) where
  abbrev Named : Type 0
  Named = NamedGoal r m.sources m.entry m.query m.goal

  abbrev Lowered : Named → Type 0
  Lowered of = IsLowered of.graph of.entry of.predicates of.plan (within m.bounds) m.ends m.goal of.goal m.sources m.budget said

  abbrev Proved : Named → Type 0
  Proved of = IsProved of.graph of.entry of.predicates of.plan (within m.bounds) m.ends m.goal of.goal m.sources m.budget said

  module _ (talks : said.out ≡ [] → ⊥) where
    goal_of_least : IsDueOf r (asks.least m) said → (of : Named) × Lowered of
    goal_of_least due =
        named_goal said talks r m.sources m.entry m.query m.goal (λ graph entry p plan goal. IsLowered graph entry p plan (within m.bounds) m.ends m.goal goal m.sources m.budget) due

    goal_of_prove : IsDueOf r (asks.prove m) said → (of : Named) × Proved of
    goal_of_prove due =
        named_goal said talks r m.sources m.entry m.query m.goal (λ graph entry p plan goal. IsProved graph entry p plan (within m.bounds) m.ends m.goal goal m.sources m.budget) due

  -- ---- `least`

  module _ (h : BeginsOfGoal said m.goal (codes " least")) where
    talks_least : said.out ≡ [] → ⊥
    talks_least = some said m.goal (codes " least") h

    by_found : (of : Named) (found : Least) → IsAnswered of.graph of.entry.function of.predicates of.plan (within m.bounds) m.ends of.goal m.budget found
        → said ≡ said_of_least m.goal (within m.bounds) m.ends found → SaysLeast r m said
    by_found of (least.Refuted formula derivation) is told =
        absurd (goes_otherwise said m.goal (codes " least") h _ 114 108 refl refl refl refl (ap (λ (s : Said). s.out) told ∙ refuted_grouped m.goal (within m.bounds) m.ends))
    by_found of (least.Open formula history) is told = absurd (goes_otherwise said m.goal (codes " least") h (codes " open\n") 111 108 refl refl refl refl (ap (λ (s : Said). s.out) told))
    by_found of (least.Found input formula fixed) is told =
        let given = is.least.given in
        let words = least_words of.graph (sources_are_graph r.holds m.sources of.graph of.automaton) of.entry.number of.entry.function of.predicates of.plan (within m.bounds) m.ends of.goal input
        (entry_there of.graph m.entry of.entry of.entry_is) is.least in
        record {
          of = of;
          input = input;
          printed = told;
          arguments_read = plain_arguments_read input.words (length of.entry.function.parameters) words given.start.0;
          answers_read = numbers_read (without_last_zeros input.answers) (small_trimmed input.answers given.answers);
          answers_count = is.answers;
          least = is.least;
        }

    by_lowered : (of : Named) → Lowered of → SaysLeast r m said
    by_lowered of (inl a) = absurd (no_refusal said talks_least m.sources _ a)
    by_lowered of (inr a) = by_found of a.1.0 a.1.1 a.1.3

    says_least : IsDueOf r (asks.least m) said → SaysLeast r m said
    says_least due = let it = goal_of_least talks_least due in by_lowered it.0 it.1

  abbrev Refuted : Type 0
  Refuted = SaysRefuted r m.sources m.entry m.query m.goal (within m.bounds) m.ends said

  module _ (h : BeginsOfGoal said m.goal (codes " refuted")) where
    talks_refuted : said.out ≡ [] → ⊥
    talks_refuted = some said m.goal (codes " refuted") h

    refuted_found : (of : Named) (found : Least) → IsAnswered of.graph of.entry.function of.predicates of.plan (within m.bounds) m.ends of.goal m.budget found
        → said ≡ said_of_least m.goal (within m.bounds) m.ends found → Refuted
    refuted_found of (least.Refuted formula derivation) is told = record { of = of; printed = told; none = is.2 }
    refuted_found of (least.Open formula history) is told = absurd (goes_otherwise said m.goal (codes " refuted") h (codes " open\n") 111 114 refl refl refl refl (ap (λ (s : Said). s.out) told))
    refuted_found of (least.Found input formula fixed) is told =
        absurd (goes_otherwise said m.goal (codes " refuted") h _ 108 114 refl refl refl refl (ap (λ (s : Said). s.out) told ∙ least_grouped m.goal input))

    refuted_lowered : (of : Named) → Lowered of → Refuted
    refuted_lowered of (inl a) = absurd (no_refusal said talks_refuted m.sources _ a)
    refuted_lowered of (inr a) = refuted_found of a.1.0 a.1.1 a.1.3

    says_refuted : IsDueOf r (asks.least m) said → Refuted
    says_refuted due = let it = goal_of_least talks_refuted due in refuted_lowered it.0 it.1

  -- ---- `prove`

  module _ (h : BeginsOfGoal said m.goal (codes " covered")) where
    talks_covered : said.out ≡ [] → ⊥
    talks_covered = some said m.goal (codes " covered") h

    by_decided : (of : Named) (found : Decided) → IsSaidOf of.graph of.entry of.predicates of.plan (within m.bounds) m.ends m.goal of.goal found said → SaysCovered r m said
    by_decided of (decided.Refuted formula derivation) told = absurd (no_goal said m.goal (codes " covered") h _ 102 refl refl (ap (λ (s : Said). s.out) told))
    by_decided of (decided.Undecided formula history) told = absurd (goes_otherwise said m.goal (codes " covered") h (codes " undecided\n") 117 99 refl refl refl refl (ap (λ (s : Said). s.out) told))
    by_decided of (decided.Covered input) told =
        let made = told.1 in
        record {
          of = of;
          input = input;
          run = told.0;
          made = made;
          hits = told.2;
          printed = told.3;
          arguments_read =
              ap (λ (kinds : List Kind). line_input (length of.entry.function.parameters) (texts_in (arguments_text input.words kinds))) (entry_kinds of.graph m.entry of.entry of.entry_is)
              ∙ arguments_read of.entry.function.parameters input.words made.words_fit;
          answers_read = taken_read (record_of of.graph input of.predicates told.0).taken made.answers_fit ∙ ap Some made.answers;
        }

    by_proved : (of : Named) → Proved of → SaysCovered r m said
    by_proved of (inl a) = absurd (no_refusal said talks_covered m.sources _ a)
    by_proved of (inr a) = by_decided of a.1.0 a.1.3

    says_covered : IsDueOf r (asks.prove m) said → SaysCovered r m said
    says_covered due = let it = goal_of_prove talks_covered due in by_proved it.0 it.1

-- ---- `check`

module _ (r : Reads) (m : Checking) (said : Said) (h : BeginsOfGoal said m.goal (codes " refuted")) where
  talks : said.out ≡ [] → ⊥
  talks = some said m.goal (codes " refuted") h

  by_verdict : (v : Verdict) → said ≡ said_of_verdict (accepted_text m) v → said ≡ answered (accepted_text m)
  by_verdict verdict.Yes told = told
  by_verdict (verdict.BadStep line) told = absurd (talks (ap (λ (s : Said). s.out) told ∙ no_text [] (record { code = 92; place = place.Line line })))
  by_verdict verdict.NoEmptyClause told = absurd (talks (ap (λ (s : Said). s.out) told ∙ no_text [] (record { code = 93; place = place.Nowhere })))

  by_compared : (theirs ours : Formula) (derivation : Derivation) → IsCompared (accepted_text m) theirs ours derivation said → said ≡ answered (accepted_text m)
  by_compared theirs ours derivation (inl a) = absurd (talks (ap (λ (s : Said). s.out) a.2))
  by_compared theirs ours derivation (inr a) = by_verdict a.1.0 a.1.2

  by_checked : (of : NamedGoal r m.sources m.entry m.query m.goal) (theirs : Formula) (derivation : Derivation) → IsChecked m of.graph of.entry of.predicates of.plan of.goal theirs derivation said
      → said ≡ answered (accepted_text m)
  by_checked of theirs derivation (inl a) = absurd (no_refusal said talks m.sources _ a)
  by_checked of theirs derivation (inr a) = by_compared theirs _ derivation a.1.2

  says_checked : IsDueOf r (asks.check m) said → SaysRefuted r m.sources m.entry m.query m.goal (within m.bounds) m.ends said
  says_checked due =
      let at = named_goal said talks r m.sources m.entry m.query m.goal (λ graph entry p plan goal. OfCertificate r m.sources m.certificate (IsChecked m graph entry p plan goal)) due in
      let of = at.0 in
      let certificate = of_certificate said talks r m.sources m.certificate (IsChecked m of.graph of.entry of.predicates of.plan of.goal) at.1 in
      let told = by_checked of certificate.0 certificate.1.0 certificate.1.2 in
      let it = at_sources m said (ap (λ (s : Said). s.status) told) r due in
      record {
        of = record {
          graph = it.graph;
          automaton = it.automaton;
          entry = it.entry;
          entry_is = it.entry_is;
          predicates = it.predicates;
          plan = it.plan;
          planned = it.planned;
          goal = it.goal;
          goal_is = it.goal_is;
        };
        printed = told;
        none = it.none;
      }

pub goal_lines_are_true : GoalLinesAreTrue
goal_lines_are_true = record {
  least = λ r m said due begins. says_least r m said begins due;
  covered = λ r m said due begins. says_covered r m said begins due;
  refuted = λ r m said due begins. says_refuted r m said begins due;
  checked = λ r m said due begins. says_checked r m said begins due;
}

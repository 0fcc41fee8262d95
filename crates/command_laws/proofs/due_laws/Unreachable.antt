-- A goal that is refuted within bounds that suffice is unreachable.
use Rattle.std.proofs.Common.{◌≡◌, ℕ, List, [], map, get_or, Option, Some, None, refl, sym, ap, subst, ◌∙◌, inl, inr, arith}
use Rattle.std.specs.Prelude.{◌==◌, IsTrue, MatchOption, false}
use Rattle.bounds_check.specs.Laws.{UnhitIsUnreachable}
use Rattle.bounds_check.specs.Leaving.{NoneLeaves}
use Rattle.bounds_check.specs.Sufficing.{IsSuffice}
use Rattle.bounds_check.specs.declared.suffice.Suffice.{Suffice}
use Rattle.bounds_check.specs.declared.suffice.Suffice.TheVariants as found
use Rattle.c_front.specs.Laws as front
use Rattle.c_lex.specs.declared.token.SourceText.{SourceText}
use Rattle.cfa.specs.declared.parts.GraphParts.{GraphParts}
use Rattle.fq_core.specs.declared.refusal.Place.TheVariants as place
use Rattle.fq_core.specs.declared.refusal.Refusal.{Refusal}
use Rattle.fq_io.specs.Counts.{Rose}
use Rattle.report.specs.Suffice.{suffice_text}
use Rattle.command_words.specs.Reading.{Text}
use Rattle.command_words.specs.Request.{suffice, Checking}
use Rattle.command.specs.Accepted.{IsRefutedGoal}
use Rattle.command.specs.Due.{IsDueOf}
use Rattle.command.specs.Ranges.{within}
use Rattle.command.specs.Reads.{Reads}
use Rattle.command.specs.Runs.{EntryFunction, entry_of}
use Rattle.command.specs.Said.{Said}
use Rattle.command.specs.Sources.{HaveAutomaton}
use Rattle.command.specs.Stages.{OfEntry, Says, no_such_entry}
use Rattle.command.specs.declared.bounds.Form.TheVariants as form
use Rattle.command.specs.Bounds.{IsAskedOfBounds, said_of_bounds}
use Rattle.command.proofs.AcceptedLaws.{at_sources, bounds_at_sources}
use Rattle.command_laws.specs.printed_laws.Unreachable.{IsUnreachable}
use Rattle.command_laws.specs.due_laws.Determined.{are_told}
use Rattle.command_laws.specs.due_laws.Unreachable.{AcceptedMeansUnreachable, bounds_asked_of, bounds_checked_of}
use Rattle.command_laws.proofs.due_laws.Accepted.{no_text, still_have}
use Rattle.command_laws.proofs.due_laws.OneDue.{one_automaton}

-- ---- what holds of the files alone

-- the files alone, of which nothing was read
quiet : Reads → Reads
quiet r = record { holds = r.holds; last_failed = None; faults_before = 0; faults_after = 0; received_before = 0; received_after = 0 }

none_rose : Rose 0 0 → ⊥
none_rose rose = absurd (omega (arith, rose))

module _ (front_law : (texts : List SourceText) → front.HasOneOutcome texts) (unhit : UnhitIsUnreachable) (before after : Reads) (m : Checking)
    (same : map before.holds m.sources ≡ map after.holds m.sources) (told : IsTrue (are_told after m.sources)) where
  one_graph : (g h : GraphParts) → HaveAutomaton after.holds m.sources g → HaveAutomaton after.holds m.sources h → g ≡ h
  unfolding quiet
  one_graph g h a b = one_automaton (quiet after) none_rose front_law m.sources told g h a b

  -- a goal that is refuted, at an entry of which no input leaves the bounds
  joined : (it : IsRefutedGoal before m) (graph : GraphParts) → HaveAutomaton after.holds m.sources graph → (entry : EntryFunction) → entry_of graph m.entry ≡ Some entry
      → NoneLeaves graph entry.function (within m.bounds) → IsUnreachable after m.sources m.entry m.query m.goal m.ends
  joined it graph have entry named none =
      let own = still_have before after m.sources it.graph same it.automaton in
      let graphs = one_graph graph it.graph have own in
      let there : entry_of it.graph m.entry ≡ Some entry = subst (λ (g : GraphParts). entry_of g m.entry ≡ Some entry) graphs named in
      let entries : entry ≡ it.entry = (let both : Some entry ≡ Some it.entry = sym there ∙ it.entry_is in cc) in
      let stays : NoneLeaves it.graph it.entry.function (within m.bounds) =
      subst (λ (e : EntryFunction). NoneLeaves it.graph e.function (within m.bounds)) entries (subst (λ (g : GraphParts). NoneLeaves g entry.function (within m.bounds)) graphs none) in
      record {
        of = record {
          graph = it.graph;
          automaton = own;
          entry = it.entry;
          entry_is = it.entry_is;
          predicates = it.predicates;
          plan = it.plan;
          planned = it.planned;
          goal = it.goal;
          goal_is = it.goal_is;
        };
        none = unhit it.graph it.entry.function (within m.bounds) it.predicates it.plan m.ends it.goal stays it.none;
      }

-- ---- what `bounds` says

abbrev eighth : List ℕ → ℕ
eighth text = get_or text 7 0

module _ (after : Reads) (m : Checking) (budget : ℕ) (said : Said) (is : said.out ≡ suffice_text (within m.bounds)) where
  abbrev Asking : GraphParts → EntryFunction → Said → Type 0
  Asking graph entry = IsAskedOfBounds form.Line graph entry (within m.bounds) m.sources budget

  -- some entry of the sources' automaton, of which no input leaves the bounds
  record StaysWithin : Type 0 where
    graph : GraphParts
    have : HaveAutomaton after.holds m.sources graph
    entry : EntryFunction
    named : entry_of graph m.entry ≡ Some entry
    none : NoneLeaves graph entry.function (within m.bounds)

  -- a text whose eighth byte is another one
  differs : (text : List ℕ) (byte : ℕ) → (byte == 115) ≡ false → said.out ≡ text → eighth text ≡ byte → ⊥
  differs text byte other e here =
      let own : eighth (suffice_text (within m.bounds)) ≡ 115 = refl in
      let no : byte ≡ 115 = sym here ∙ ap eighth (sym e ∙ is) ∙ own in
      let same : (115 == 115) ≡ false = subst (λ (n : ℕ). (n == 115) ≡ false) no other in
      absurd (cc)

  no_refusal : (names : List Text) (P : Refusal → Type 0) → Says names P said → ⊥
  no_refusal names P says = differs [] 0 refl (ap (λ (s : Said). s.out) says.2 ∙ no_text names says.0) refl

  by_found : (graph : GraphParts) (entry : EntryFunction) (s : Suffice) → IsSuffice graph entry.function (within m.bounds) budget s
      → said ≡ said_of_bounds form.Line graph entry (within m.bounds) s → NoneLeaves graph entry.function (within m.bounds)
  by_found graph entry (found.Yes formula derivation) suffices e = suffices.0
  by_found graph entry (found.Left input) suffices e = absurd (differs _ 108 refl (ap (λ (s : Said). s.out) e) refl)
  by_found graph entry (found.Open formula history) suffices e = absurd (differs _ 111 refl (ap (λ (s : Said). s.out) e) refl)

  by_asked : (graph : GraphParts) (entry : EntryFunction) → Asking graph entry said → NoneLeaves graph entry.function (within m.bounds)
  by_asked graph entry (inl a) = absurd (no_refusal m.sources _ a)
  by_asked graph entry (inr a) = by_found graph entry a.1.0 a.1.1 a.1.3

  by_graph : (graph : GraphParts) → HaveAutomaton after.holds m.sources graph → OfEntry graph m.entry (Asking graph) said → StaysWithin
  by_graph graph have due = by (entry_of graph m.entry) refl due
    where
      by : (o : Option EntryFunction) → entry_of graph m.entry ≡ o → MatchOption o (said ≡ no_such_entry) (λ entry. Asking graph entry said) → StaysWithin
      by None e s = absurd (differs [] 0 refl (ap (λ (z : Said). z.out) s ∙ no_text [] (record { code = 36; place = place.Nowhere })) refl)
      by (Some entry) e s = record { graph = graph; have = have; entry = entry; named = e; none = by_asked graph entry s }

  stays : IsDueOf after (suffice (bounds_asked_of m budget)) said → StaysWithin
  stays (inl a) = absurd (no_refusal m.sources _ a)
  stays (inr (inl a)) = absurd (no_refusal m.sources _ a)
  stays (inr (inr a)) = by_graph a.0 a.1 a.2

pub accepted_means_unreachable : ((texts : List SourceText) → front.HasOneOutcome texts) → UnhitIsUnreachable → AcceptedMeansUnreachable
accepted_means_unreachable front_law unhit = record {
  by_certificates = λ before after m file said other same told checked done suffices sufficed.
      let it = at_sources m said done before checked in
      let within_bounds = bounds_at_sources (bounds_checked_of m file) other sufficed after suffices in
      joined front_law unhit before after m same told it within_bounds.graph within_bounds.automaton within_bounds.entry within_bounds.entry_is within_bounds.none;
  by_search = λ before after m budget said other same told checked done suffices sufficed.
      let it = at_sources m said done before checked in
      let within_bounds = stays after m budget other (ap (λ (s : Said). s.out) sufficed) suffices in
      joined front_law unhit before after m same told it within_bounds.graph within_bounds.have within_bounds.entry within_bounds.named within_bounds.none;
}

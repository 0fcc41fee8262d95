-- `replay` accepts what `traces` wrote.
use Rattle.std.proofs.Common.{◌≡◌, ◌⊎◌, ℕ, ◌<◌, ◌≤◌, Bool, List, [], ◌∷◌, ◌++◌, length, map, Option, Some, None, refl, ap, subst, inl, inr, arith}
use Rattle.std.specs.Prelude.{IfSome, IsTrue, MatchOption, true}
use Rattle.std.specs.Option.{is_some}
use Rattle.c_front.specs.Laws as front
use Rattle.c_lex.specs.declared.token.SourceText.{SourceText}
use Rattle.c_values.proofs.Fitting.{and_both, and_left, and_right}
use Rattle.cfa.specs.declared.parts.GraphParts.{GraphParts}
use Rattle.cfa.specs.declared.state.Predicates.{Predicates}
use Rattle.c_meaning.specs.declared.input.Input.{Input}
use Rattle.fq_core.specs.declared.refusal.Refusal.{Refusal}
use Rattle.fq_io.specs.Counts.{Rose}
use Rattle.goals.specs.declared.plan.Plan.{Plan}
use Rattle.trace_file.specs.Form.{form_of}
use Rattle.trace_file.specs.Reading.{IsFileOf}
use Rattle.trace_file.specs.Reading as reading
use Rattle.trace_file.specs.declared.trace.Trace.{Trace}
use Rattle.command_words.specs.Reading.{Text}
use Rattle.command_words.specs.Request as asks
use Rattle.command_words.specs.Request.{Replaying, Tracing}
use Rattle.command.specs.Due.{IsDueOf}
use Rattle.command.specs.Measure.{IsMeasured}
use Rattle.command.specs.Queries.{IsPlanned}
use Rattle.command.specs.Queries as queries
use Rattle.command.specs.Reads.{Reads, Sees}
use Rattle.command.specs.Runs.{EntryFunction}
use Rattle.command.specs.Said.{Said}
use Rattle.command.specs.Sources.{HaveAutomaton, IsUnread, fails, is_past}
use Rattle.command.specs.Stages.{OfEntry, OfQuery, OfTraces, Says, no_such_entry}
use Rattle.command.specs.TraceFile as traces
use Rattle.command.specs.TraceFile.{inputs_in, longest}
use Rattle.command.specs.Traces.{traces_of}
use Rattle.command_laws.specs.due_laws.Determined.{are_told}
use Rattle.command_laws.proofs.due_laws.Accepted.{still_have}
use Rattle.command_laws.proofs.due_laws.OneDue.{no_automaton, not_all_read, one_automaton, one_seen}
use Rattle.command_laws.proofs.due_laws.OneFile.{read_alike}
use Rattle.command_laws.specs.traced_laws.Laws.{SaysTraces, TracesAreRead, edges_in}
use Rattle.command_laws.specs.replayed_laws.Laws.{IsReplay, TracesAreReplayed, replaying_of}

-- files that tell what they hold, each of them
both_told : (r : Reads) (files : List Text) (file : Text) → IsTrue (are_told r (files ++ file ∷ [])) → IsTrue (are_told r files) × IsTrue (is_some (r.holds file))
both_told r [] file h = (refl, and_left (is_some (r.holds file)) true h)
both_told r (f ∷ files) file h =
    let rest = both_told r files file (and_right (is_some (r.holds f)) (are_told r (files ++ file ∷ [])) h) in
    (and_both (is_some (r.holds f)) (are_told r files) (and_left (is_some (r.holds f)) (are_told r (files ++ file ∷ [])) h) rest.0, rest.1)

-- a file that is told, and has few bytes, is read
no_past : (held : Option (List ℕ)) (bytes : List ℕ) (most : ℕ) → IsTrue (is_some held) → IfSome held (λ (own : List ℕ). bytes ≡ own) → length bytes ≤ most → IfSome held (λ (own : List ℕ). most < length own) → ⊥
no_past None bytes most told seen short long = absurd (cc)
no_past (Some own) bytes most told seen short long = let same = ap length seen in absurd (omega (arith, same, short, long))

module _ (front_law : (texts : List SourceText) → front.HasOneOutcome texts) (before after : Reads) (m : Tracing) (query file : Text) (json : Bool) (said : Said)
    (same : map before.holds m.sources ≡ map after.holds m.sources) (still : Rose after.faults_before after.faults_after → ⊥)
    (told : IsTrue (are_told after m.sources)) (file_told : IsTrue (is_some (after.holds file)))
    (it : SaysTraces before m said) (seen : Sees after.holds file said.out) (short : length said.out ≤ 16777216) where
  abbrev n : Replaying
  n = replaying_of m query file json

  abbrev graph : GraphParts
  graph = it.of.graph

  abbrev entry : EntryFunction
  entry = it.of.entry

  abbrev traced_edges : List (List ℕ)
  traced_edges = edges_in (traces_of graph entry.function m.ends m.steps it.given)

  have : HaveAutomaton after.holds m.sources graph
  have = still_have before after m.sources graph same it.of.automaton

  abbrev IsAccepted : Said → Type 0
  IsAccepted report = Says m.sources (queries.IsRefused graph query) report ⊎ IsReplay graph entry n said.out traced_edges report

  is_read : (x : Refusal) → IsUnread after 16777216 file x → ⊥
  is_read x (fails failed) = still failed.rose
  is_read x (is_past past) = no_past (after.holds file) said.out 16777216 file_told seen short past.long

  not_refused : (x : Refusal) → traces.AreRefused after graph entry.function m.ends file x → ⊥
  not_refused x (traces.at_read a) = is_read x a
  not_refused x (traces.at_form bytes sight few a) =
      it.kept x (subst (λ (bs : List ℕ). reading.IsRefused graph entry.function m.ends bs x) (one_seen after still file bytes said.out file_told sight seen) a)

  module _ (p : Predicates) (plan : Plan) (planned : IsPlanned graph query p plan) (report : Said) where
    abbrev Measured : ℕ → List Input → Type 0
    Measured steps given = IsMeasured graph entry p plan m.ends steps json given report

    -- what was read of the file has the inputs of the traces whose edges are known, and is as long
    by_read : (given : List Trace) → IsFileOf graph entry.function m.ends p said.out given → Measured (longest given) (inputs_in given) → IsReplay graph entry n said.out traced_edges report
    by_read given own measured =
        let again = it.file p in
        let alike = read_alike graph entry.function m.ends p (form_of (length entry.function.parameters) said.out) given again.0 own again.1 in
        record {
          predicates = p;
          plan = plan;
          planned = planned;
          traces = again.0;
          file = again.1;
          same_edges = again.2;
          measured = subst (λ (steps : ℕ). Measured steps (inputs_in again.0)) alike.1 (subst (λ (inputs : List Input). Measured (longest given) inputs) alike.0 measured);
        }

    by_traces : OfTraces after m.sources graph entry.function m.ends file p (λ given. IsMeasured graph entry p plan m.ends (longest given) json (inputs_in given)) report → IsReplay graph entry n said.out traced_edges report
    by_traces (inl a) = absurd (not_refused a.0 a.1)
    by_traces (inr a) =
        let bytes = one_seen after still file a.1.bytes said.out file_told a.1.seen seen in
        by_read a.0 (subst (λ (bs : List ℕ). IsFileOf graph entry.function m.ends p bs a.0) bytes a.1.is) a.2

  abbrev Asking : GraphParts → EntryFunction → Said → Type 0
  Asking g e = OfQuery m.sources g query (λ p plan. OfTraces after m.sources g e.function m.ends file p (λ given. IsMeasured g e p plan m.ends (longest given) json (inputs_in given)))

  of_query : (report : Said) → Asking graph entry report → IsAccepted report
  of_query report (inl a) = inl a
  of_query report (inr a) = inr (by_traces a.0 a.1.0 a.1.1 report a.1.2)

  of_entry : (report : Said) → OfEntry graph m.entry (Asking graph) report → IsAccepted report
  of_entry report is = of_query report (subst (λ (o : Option EntryFunction). MatchOption o (report ≡ no_such_entry) (λ e. Asking graph e report)) it.of.entry_is is)

  accepted : (report : Said) → IsDueOf after (asks.replay n) report → IsAccepted report
  accepted report (inl a) = absurd (not_all_read after still m.sources a.0 have.texts told a.1 have.read)
  accepted report (inr (inl a)) = absurd (no_automaton after still front_law m.sources told a.0 graph a.1 have)
  accepted report (inr (inr a)) =
      let one = one_automaton after still front_law m.sources told a.0 graph a.1 have in
      of_entry report (subst (λ (g : GraphParts). OfEntry g m.entry (Asking g) report) one a.2)

pub traces_are_replayed : ((texts : List SourceText) → front.HasOneOutcome texts) → TracesAreRead → TracesAreReplayed
traces_are_replayed front_law law before after m query file json said report same still told due some seen short replayed =
    let it = law before m said due some in
    let parts = both_told after m.sources file told in
    record { traced = it; replayed = accepted front_law before after m query file json said same still parts.0 parts.1 it seen short report replayed }

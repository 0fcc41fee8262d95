-- What is due at each end of the way from the words to the text.
use Rattle.std.proofs.Common.{◌≡◌, ℕ, ◌≤◌, ◌⊎◌, List, [], length, refl, sym, subst, ◌∙◌, inl, inr}
use Rattle.std.specs.Prelude.{Option, IfOk, Result, Ok, Err}
use Rattle.std.specs.List.{All}
use Rattle.fq_core.specs.declared.refusal.Fault.{Fault}
use Rattle.fq_core.specs.declared.refusal.Place.TheVariants as place
use Rattle.fq_core.specs.declared.refusal.Refusal.{Refusal}
use Rattle.cfa.specs.declared.parts.Function.{Function}
use Rattle.cfa.specs.declared.parts.GraphParts.{GraphParts}
use Rattle.c_meaning.specs.declared.input.Input.{Input}
use Rattle.c_meaning.specs.Starts.{CanStart}
use Rattle.c_meaning.specs.declared.ends.Ends.{Ends}
use Rattle.trace_file.specs.declared.trace.Trace.{Trace}
use Rattle.c_typed_trees.specs.declared.unit.Typed.{Typed}
use Rattle.command_words.specs.Reading.{Text}
use Rattle.cfa.specs.declared.state.Predicates.{Predicates}
use Rattle.cnf.specs.declared.derivation.Derivation.{Derivation}
use Rattle.cnf.specs.declared.formula.Formula.{Formula}
use Rattle.command.specs.CertificateFile as certificates
use Rattle.command.specs.CertificateFile.{AreCertificateOf}
use Rattle.command.specs.Inputs.{AreInputsOf, AreRefused, at_read, at_form}
use Rattle.command.specs.Inputs as inputs
use Rattle.command.specs.Reads.{Reads, Sees}
use Rattle.command.specs.Refusal.{said_by}
use Rattle.command.specs.Said.{Said}
use Rattle.command.specs.Sources.{HaveAutomaton, HaveTrees, IsReadUpTo}
use Rattle.command.specs.Sources as sources
use Rattle.command.specs.Stages.{OfSources, OfTrees, nowhere}
use Rattle.command.specs.TraceFile as traces
use Rattle.command.specs.TraceFile.{AreTracesOf}
use Rattle.command.proofs.ReadsLaws.{late, unread_since, whole}

-- ---- refusals without a place

pub said_nowhere : (names : List Text) (code : ℕ) → said_by names (record { code = code; place = place.Nowhere }) ≡ nowhere code
unfolding said_by
said_nowhere names code = refl

-- such a refusal is due, whatever the names of the sources
pub due_nowhere : (names : List Text) (code : ℕ) (x : Refusal) (P : Said → Type 0) → x ≡ record { code = code; place = place.Nowhere } → P (nowhere code) → P (said_by names x)
due_nowhere names code x P is due = subst (λ (y : Refusal). P (said_by names y)) (sym is) (subst P (sym (said_nowhere names code)) due)

-- ---- the sources and the entry

module _ (r : Reads) (names : List Text) (Then : GraphParts → Said → Type 0) where
  pub sources_refused : (x : Refusal) → IsReadUpTo r names x ⊎ sources.AreRefused r.holds names x → OfSources r names Then (said_by names x)
  sources_refused x (inl up) = inl (x, up, refl)
  sources_refused x (inr cause) = inr (inl (x, cause, refl))

  pub at_graph : (graph : GraphParts) (said : Said) → HaveAutomaton r.holds names graph → Then graph said → OfSources r names Then said
  at_graph graph said have due = inr (inr (graph, have, due))

module _ (r : Reads) (names : List Text) (Then : GraphParts → Typed → Said → Type 0) where
  pub trees_refused : (x : Refusal) → IsReadUpTo r names x ⊎ sources.AreRefused r.holds names x → OfTrees r names Then (said_by names x)
  trees_refused x (inl up) = inl (x, up, refl)
  trees_refused x (inr cause) = inr (inl (x, cause, refl))

  pub at_trees : (graph : GraphParts) (typed : Typed) (said : Said) → HaveTrees r.holds names graph typed → Then graph typed said → OfTrees r names Then said
  at_trees graph typed said have due = inr (inr (graph, (typed, have, due)))

-- ---- what is due since some reads is due since before them

module _ (holds held : List ℕ → Option (List ℕ)) (last : Option (Option (List ℕ))) (first middle after one two three : ℕ)
    (same : held ≡ holds) (no_fault : middle ≡ first) (received : one ≤ two) where
  abbrev since : Reads
  since = late holds held last first middle after one two three same no_fault received

  abbrev all : Reads
  all = whole holds held last first middle after one two three same no_fault received

  sees_since : (file bytes : Text) → Sees held file bytes → Sees holds file bytes
  sees_since file bytes seen = subst (λ (h : List ℕ → Option (List ℕ)). Sees h file bytes) same seen

  pub refused_since : (file : Text) (parameters : ℕ) (x : Refusal) → AreRefused since file parameters x → AreRefused all file parameters x
  refused_since file parameters x (at_read unread) = at_read (unread_since holds held last first middle after one two three same no_fault received inputs.most_inputs file x unread)
  refused_since file parameters x (at_form bytes seen short is) = at_form bytes (sees_since file bytes seen) short is

  pub inputs_since : (file : Text) (parameters : ℕ) (given : List Input) → AreInputsOf since file parameters given → AreInputsOf all file parameters given
  inputs_since file parameters given are = record { bytes = are.bytes; seen = sees_since file are.bytes are.seen; short = are.short; is = are.is }

  module _ (graph : GraphParts) (f : Function) (ends : Ends) (file : Text) where
    pub traces_refused_since : (x : Refusal) → traces.AreRefused since graph f ends file x → traces.AreRefused all graph f ends file x
    traces_refused_since x (traces.at_read unread) =
        traces.at_read (unread_since holds held last first middle after one two three same no_fault received traces.most_trace_bytes file x unread)
    traces_refused_since x (traces.at_form bytes seen short refused) = traces.at_form bytes (sees_since file bytes seen) short refused

    pub traces_since : (p : Predicates) (given : List Trace) → AreTracesOf since graph f ends file p given → AreTracesOf all graph f ends file p given
    traces_since p given are = record { bytes = are.bytes; seen = sees_since file are.bytes are.seen; short = are.short; is = are.is }

  pub certificate_refused_since : (file : Text) (x : Refusal) → certificates.IsRefused since file x → certificates.IsRefused all file x
  certificate_refused_since file x (certificates.at_read unread) =
      certificates.at_read (unread_since holds held last first middle after one two three same no_fault received certificates.most_certificate file x unread)
  certificate_refused_since file x (certificates.at_form bytes seen short line) = certificates.at_form bytes (sees_since file bytes seen) short line

  pub certificate_since : (file : Text) (formula : Formula) (derivation : Derivation) → AreCertificateOf since file formula derivation → AreCertificateOf all file formula derivation
  certificate_since file formula derivation are = record { bytes = are.bytes; seen = sees_since file are.bytes are.seen; short = are.short; is = are.is }

-- ---- a run can start on each of the inputs

pub can_start : (f : Function) (count : ℕ) (inputs : List Input) → count ≡ length f.parameters → f.arrays ≡ [] → All (λ (input : Input). length input.words ≡ count) inputs
    → All (λ (input : Input). CanStart f input.words) inputs
can_start f count inputs is none all = λ k d within. (all k d within ∙ is, none)

-- ---- what holds of an answer tells another thing of it

pub ok_map : {T : Type 0} (r : Result T Fault) {P Q : T → Type 0} → IfOk r P → ((x : T) → P x → Q x) → IfOk r Q
ok_map (Ok x) p tells = tells x p
ok_map (Err e) p tells = tt

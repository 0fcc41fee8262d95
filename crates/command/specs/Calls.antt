-- What the call of a stage answers: what the stage gives, on the types that carry it, or why it is refused. Want of memory is free.
use Rattle.std.specs.Prelude.{◌≡◌, ◌⊎◌, ℕ, List, None, Some, Result, Ok, Err}
use Rattle.std.specs.Global.{Vec}
use Rattle.fq_core.specs.Refusals.{IfRefused}
use Rattle.fq_core.specs.declared.refusal.Fault.{Fault}
use Rattle.fq_core.specs.declared.refusal.Place.TheVariants as place
use Rattle.fq_core.specs.declared.refusal.Refusal.{Refusal}
use Rattle.c_front.specs.Automata.{IsAutomatonOf, IsRefused}
use Rattle.c_lex.specs.declared.token.SourceText.{SourceText}
use Rattle.c_meaning.specs.declared.ends.Ends.{Ends}
use Rattle.c_meaning.specs.declared.input.Input.{Input}
use Rattle.cfa.specs.declared.parts.GraphParts.{GraphParts}
use Rattle.cfa.specs.declared.state.Predicates.{Predicates}
use Rattle.goals.specs.declared.plan.Plan.{Plan}
use Rattle.trace_file.specs.declared.trace.Trace.{Trace}
use Rattle.c_front.specs.typed_sources.Trees.{IsTypedOf}
use Rattle.command_words.specs.Reading.{Text}
use Rattle.command.specs.declared.types.Automaton.{Automaton}
use Rattle.command.specs.declared.types.Certificate.{Certificate}
use Rattle.suite_problem.specs.declared.entry.Entry.{Entry}
use Rattle.suite_problem.specs.declared.planned.Planned.{Planned}
use Rattle.command.specs.declared.types.Trees.{Trees}
use Rattle.command.specs.CertificateFile as certificates
use Rattle.command.specs.CertificateFile.{AreCertificateOf}
use Rattle.command.specs.Entries.{seen}
use Rattle.command.specs.Inputs as inputs
use Rattle.command.specs.Inputs.{AreInputsOf}
use Rattle.command.specs.Queries as queries
use Rattle.command.specs.Queries.{IsPlanned}
use Rattle.command.specs.Reads.{Reads}
use Rattle.command.specs.Runs.{entry_of}
use Rattle.command.specs.Sources.{AreRefused, HaveAutomaton, HaveTrees, IsReadUpTo}
use Rattle.command.specs.TraceFile as traces
use Rattle.command.specs.TraceFile.{AreTracesOf}

-- ---- sources

-- one of the sources isn't read, or they are refused
abbrev pub AreNotGiven : Reads → List Text → Refusal → Type 0
AreNotGiven r names x = IsReadUpTo r names x ⊎ AreRefused r.holds names x

abbrev pub HaveAutomatonAs : Reads → List Text → Result Automaton Fault → Type 0
HaveAutomatonAs r names (Ok automaton) = HaveAutomaton r.holds names automaton.graph
HaveAutomatonAs r names (Err e) = IfRefused e (AreNotGiven r names)

abbrev pub HaveTreesAs : Reads → List Text → Result Trees Fault → Type 0
HaveTreesAs r names (Ok trees) = HaveTrees r.holds names trees.automaton.graph trees.typed
HaveTreesAs r names (Err e) = IfRefused e (AreNotGiven r names)

-- of texts that are known
abbrev pub AreTreesAs : List SourceText → Result Trees Fault → Type 0
AreTreesAs texts (Ok trees) = IsAutomatonOf texts trees.automaton.graph × IsTypedOf texts trees.typed
AreTreesAs texts (Err e) = IfRefused e (λ x. IsRefused texts x.code x.place)

-- ---- the entry and the query

-- no run can begin at a function of this name
abbrev pub IsNoEntry : GraphParts → Text → Refusal → Type 0
IsNoEntry graph name x = (x ≡ record { code = 36; place = place.Nowhere }) × (entry_of graph name ≡ None)

abbrev pub IsEntryAs : GraphParts → Text → Result Entry Fault → Type 0
IsEntryAs graph name (Ok entry) = (entry.graph.now ≡ graph) × (entry_of graph name ≡ Some (seen entry))
IsEntryAs graph name (Err e) = IfRefused e (IsNoEntry graph name)

abbrev pub IsQueryAs : GraphParts → Text → Result (Predicates × Plan) Fault → Type 0
IsQueryAs graph query (Ok made) = IsPlanned graph query made.0 made.1
IsQueryAs graph query (Err e) = IfRefused e (queries.IsRefused graph query)

-- no run can begin at the entry, or one can, and the query is refused
abbrev pub IsNotPlanned : GraphParts → Text → Text → Refusal → Type 0
IsNotPlanned graph name query x =
    IsNoEntry graph name x ⊎ ((entry : Entry) × (entry_of graph name ≡ Some (seen entry)) × queries.IsRefused graph query x)

abbrev pub IsPlannedAs : GraphParts → Text → Text → Result Planned Fault → Type 0
IsPlannedAs graph name query (Ok planned) =
    (planned.entry.graph.now ≡ graph) × (entry_of graph name ≡ Some (seen planned.entry))
    × IsPlanned graph query planned.predicates planned.plan
IsPlannedAs graph name query (Err e) = IfRefused e (IsNotPlanned graph name query)

-- ---- other files

abbrev pub AreInputsAs : Reads → Text → ℕ → Result (Vec Input) Fault → Type 0
AreInputsAs r file parameters (Ok inputs) = AreInputsOf r file parameters inputs.items
AreInputsAs r file parameters (Err e) = IfRefused e (inputs.AreRefused r file parameters)

abbrev pub AreTracesAs : Reads → Planned → Ends → Text → Result (Vec Trace) Fault → Type 0
AreTracesAs r planned ends file (Ok traces) =
    AreTracesOf r planned.entry.graph.now planned.entry.function.now ends file planned.predicates traces.items
AreTracesAs r planned ends file (Err e) =
    IfRefused e (traces.AreRefused r planned.entry.graph.now planned.entry.function.now ends file)

abbrev pub IsCertificateAs : Reads → Text → Result Certificate Fault → Type 0
IsCertificateAs r file (Ok certificate) = AreCertificateOf r file certificate.formula certificate.derivation
IsCertificateAs r file (Err e) = IfRefused e (certificates.IsRefused r file)

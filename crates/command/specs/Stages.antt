-- The stages of a command. Each says its refusal, or leads to what is due of what it gives.
use Rattle.std.specs.Prelude.{◌≡◌, ◌⊎◌, ◌-◌, ℕ, List, [], MatchOption, slice_get}
use Rattle.fq_core.specs.declared.refusal.Place.TheVariants as place
use Rattle.fq_core.specs.declared.refusal.Refusal.{Refusal}
use Rattle.cfa.specs.declared.parts.Function.{Function}
use Rattle.cfa.specs.declared.parts.GraphParts.{GraphParts}
use Rattle.cfa.specs.declared.state.Predicates.{Predicates}
use Rattle.c_meaning.specs.declared.ends.Ends.{Ends}
use Rattle.c_meaning.specs.declared.input.Input.{Input}
use Rattle.c_front.specs.Automata.{IsAutomatonOf}
use Rattle.c_front.specs.Automata as automata
use Rattle.c_lex.specs.declared.token.SourceText.{SourceText}
use Rattle.cnf.specs.declared.derivation.Derivation.{Derivation}
use Rattle.cnf.specs.declared.formula.Formula.{Formula}
use Rattle.goals.specs.GoalForm.{GoalForm}
use Rattle.goals.specs.declared.plan.Plan.{Plan}
use Rattle.trace_file.specs.declared.trace.Trace.{Trace}
use Rattle.c_typed_trees.specs.declared.unit.Typed.{Typed}
use Rattle.command_words.specs.Reading.{Text}
use Rattle.command.specs.CertificateFile.{AreCertificateOf}
use Rattle.command.specs.CertificateFile as certificates
use Rattle.command.specs.Inputs.{AreInputsOf}
use Rattle.command.specs.Inputs as inputs
use Rattle.command.specs.Queries.{IsPlanned}
use Rattle.command.specs.Queries as queries
use Rattle.command.specs.Reads.{Reads}
use Rattle.command.specs.Refusal.{said_by}
use Rattle.command.specs.Runs.{EntryFunction, entry_of}
use Rattle.command.specs.Said.{Said}
use Rattle.command.specs.Sources.{AreRefused, HaveAutomaton, HaveTrees, IsReadUpTo}
use Rattle.command.specs.TraceFile as traces
use Rattle.command.specs.TraceFile.{AreTracesOf}

-- ---- refusals whose place names no source

abbrev pub nowhere : ℕ → Said
nowhere code = said_by [] (record { code = code; place = place.Nowhere })

-- the words are no command
abbrev pub usage : Said
usage = nowhere 2

-- no run can begin at the entry
abbrev pub no_such_entry : Said
no_such_entry = nowhere 36

-- the query has no goal of this number
abbrev pub no_such_goal : Said
no_such_goal = said_by [] (record { code = 74; place = place.QueryWhole })

-- ---- the stages

-- a refusal that is P is said, where the sources have these names
abbrev pub Says : List Text → (Refusal → Type 0) → Said → Type 0
Says sources P said = (refusal : Refusal) × P refusal × (said ≡ said_by sources refusal)

-- the sources: one isn't read, they are refused, or they have this automaton
abbrev pub OfSources : Reads → List Text → (GraphParts → Said → Type 0) → Said → Type 0
OfSources r sources Then said =
    Says sources (IsReadUpTo r sources) said
    ⊎ (Says sources (AreRefused r.holds sources) said
    ⊎ ((graph : GraphParts) × HaveAutomaton r.holds sources graph × Then graph said))

-- the sources, where their typed tree is asked for too: one isn't read, they are refused, or they have this automaton and this
-- typed tree
abbrev pub OfTrees : Reads → List Text → (GraphParts → Typed → Said → Type 0) → Said → Type 0
OfTrees r sources Then said =
    Says sources (IsReadUpTo r sources) said
    ⊎ (Says sources (AreRefused r.holds sources) said
    ⊎ ((graph : GraphParts) × ((typed : Typed) × HaveTrees r.holds sources graph typed × Then graph typed said)))

-- sources whose texts are known: they are refused, or they have this automaton
abbrev pub OfTexts : List Text → List SourceText → (GraphParts → Said → Type 0) → Said → Type 0
OfTexts sources texts Then said =
    Says sources (λ refusal. automata.IsRefused texts refusal.code refusal.place) said
    ⊎ ((graph : GraphParts) × IsAutomatonOf texts graph × Then graph said)

-- the entry: no run can begin at a function of this name, or one can at this one
abbrev pub OfEntry : GraphParts → Text → (EntryFunction → Said → Type 0) → Said → Type 0
OfEntry graph name Then said = MatchOption (entry_of graph name) (said ≡ no_such_entry) (λ entry. Then entry said)

-- the query: it is refused, or has these predicates and this plan
abbrev pub OfQuery : List Text → GraphParts → Text → (Predicates → Plan → Said → Type 0) → Said → Type 0
OfQuery sources graph query Then said =
    Says sources (queries.IsRefused graph query) said
    ⊎ ((p : Predicates) × ((plan : Plan) × IsPlanned graph query p plan × Then p plan said))

-- the goal of a number, from 1: the plan has none, or this one
abbrev pub OfGoal : Plan → ℕ → (GoalForm → Said → Type 0) → Said → Type 0
OfGoal plan number Then said = MatchOption (slice_get plan.goals (number - 1)) (said ≡ no_such_goal) (λ goal. Then goal said)

-- the file of inputs: it isn't read or is refused, or has these inputs, of so many words each
abbrev pub OfInputs : Reads → List Text → Text → ℕ → (List Input → Said → Type 0) → Said → Type 0
OfInputs r sources file parameters Then said =
    Says sources (inputs.AreRefused r file parameters) said
    ⊎ ((given : List Input) × AreInputsOf r file parameters given × Then given said)

-- the trace file: it isn't read or is refused, or has these traces
abbrev pub OfTraces : Reads → List Text → GraphParts → Function → Ends → Text → Predicates → (List Trace → Said → Type 0) → Said → Type 0
OfTraces r sources graph entry ends file p Then said =
    Says sources (traces.AreRefused r graph entry ends file) said
    ⊎ ((given : List Trace) × AreTracesOf r graph entry ends file p given × Then given said)

-- the certificate's file: it isn't read or is no certificate, or is that of this formula and derivation
abbrev pub OfCertificate : Reads → List Text → Text → (Formula → Derivation → Said → Type 0) → Said → Type 0
OfCertificate r sources file Then said =
    Says sources (certificates.IsRefused r file) said
    ⊎ ((formula : Formula) × ((derivation : Derivation) × AreCertificateOf r file formula derivation × Then formula derivation said))

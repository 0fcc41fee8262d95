-- What is due of each command, where the automaton, the entry and the query are known.
use Rattle.std.proofs.Common.{◌≡◌, ℕ, [], ◌∷◌, length}
use Rattle.c_meaning.specs.declared.ends.Ends.TheVariants as counted
use Rattle.report.specs.Generated.{sample_text}
use Rattle.command.specs.Asked.{sample_file}
use Rattle.command.specs.Sample.{default_bounds, default_budget}
use Rattle.cfa.specs.declared.parts.GraphParts.{GraphParts}
use Rattle.cfa.specs.declared.state.Predicates.{Predicates}
use Rattle.cnf.specs.declared.derivation.Derivation.{Derivation}
use Rattle.cnf.specs.declared.formula.Formula.{Formula}
use Rattle.goals.specs.GoalForm.{GoalForm}
use Rattle.goals.specs.declared.plan.Plan.{Plan}
use Rattle.unwinder_reach.specs.declared.reached.bounds.Bounds.{Bounds}
use Rattle.c_typed_trees.specs.declared.unit.Typed.{Typed}
use Rattle.command_words.specs.Request.{Checking, CheckingBounds, Generating, Measuring, Proving, Replaying, Running, Sufficing, Tracing}
use Rattle.command.specs.declared.bounds.Form.{Form}
use Rattle.command.specs.Bounds.{IsAskedOfBounds}
use Rattle.command.specs.Check.{IsChecked, IsCheckedAt}
use Rattle.command.specs.CheckBounds.{IsCheckedBounds}
use Rattle.command.specs.Events.{AreEvents}
use Rattle.command.specs.Generate.{IsGeneration, generated_report}
use Rattle.command.specs.Least.{IsLowered}
use Rattle.command.specs.Measure.{IsMeasured}
use Rattle.command.specs.Prove.{IsProved}
use Rattle.command.specs.Ranges.{within}
use Rattle.command.specs.Reads.{Reads}
use Rattle.command.specs.RunList.{IsRecorded}
use Rattle.command.specs.Runs.{EntryFunction}
use Rattle.command.specs.Said.{Said}
use Rattle.command.specs.Stages.{OfCertificate, OfGoal, OfInputs, OfTraces}
use Rattle.command.specs.TraceFile.{inputs_in, longest}
use Rattle.command.specs.Traces.{IsTraced}
use Rattle.command.specs.Trees.{ended}

-- ---- past the entry and the query

abbrev pub MeasureThen : Reads → Measuring → GraphParts → EntryFunction → Predicates → Plan → Said → Type 0
MeasureThen r m graph entry p plan =
    OfInputs r m.sources m.inputs (length entry.function.parameters) (IsMeasured graph entry p plan m.ends m.steps m.json)

abbrev pub ReplayThen : Reads → Replaying → GraphParts → EntryFunction → Predicates → Plan → Said → Type 0
ReplayThen r m graph entry p plan =
    OfTraces r m.sources graph entry.function m.ends m.traces p (λ given. IsMeasured graph entry p plan m.ends (longest given) m.json (inputs_in given))

abbrev pub GenerateAt : Generating → Bounds → GraphParts → EntryFunction → Predicates → Plan → Said → Type 0
GenerateAt m bounds graph entry p plan =
    IsGeneration m.sources graph entry p plan bounds m.ends m.budget (generated_report graph entry.number plan bounds m.ends m.budget m.json)

abbrev pub GenerateThen : Generating → GraphParts → EntryFunction → Predicates → Plan → Said → Type 0
GenerateThen m = GenerateAt m (within m.bounds)

abbrev pub ProveAt : Proving → GraphParts → EntryFunction → Predicates → Plan → Bounds → GoalForm → Said → Type 0
ProveAt m graph entry p plan bounds goal said = IsProved graph entry p plan bounds m.ends m.goal goal m.sources m.budget said

abbrev pub ProveThen : Proving → GraphParts → EntryFunction → Predicates → Plan → Said → Type 0
ProveThen m graph entry p plan = OfGoal plan m.goal (ProveAt m graph entry p plan (within m.bounds))

abbrev pub LeastAt : Proving → GraphParts → EntryFunction → Predicates → Plan → Bounds → GoalForm → Said → Type 0
LeastAt m graph entry p plan bounds goal said = IsLowered graph entry p plan bounds m.ends m.goal goal m.sources m.budget said

abbrev pub LeastThen : Proving → GraphParts → EntryFunction → Predicates → Plan → Said → Type 0
LeastThen m graph entry p plan = OfGoal plan m.goal (LeastAt m graph entry p plan (within m.bounds))

abbrev pub CheckAt : Reads → Checking → GraphParts → EntryFunction → Predicates → Plan → GoalForm → Said → Type 0
CheckAt r m graph entry p plan goal = OfCertificate r m.sources m.certificate (IsChecked m graph entry p plan goal)

abbrev pub CheckedAt : Checking → GraphParts → EntryFunction → Predicates → Plan → Bounds → GoalForm → Formula → Derivation → Said → Type 0
CheckedAt m graph entry p plan bounds goal theirs derivation said = IsCheckedAt m.sources graph entry p plan bounds m.ends m.goal goal theirs derivation said

abbrev pub CheckThen : Reads → Checking → GraphParts → EntryFunction → Predicates → Plan → Said → Type 0
CheckThen r m graph entry p plan = OfGoal plan m.goal (CheckAt r m graph entry p plan)

-- ---- past the entry

abbrev pub RunsThen : Reads → Running → GraphParts → EntryFunction → Said → Type 0
RunsThen r m graph entry = OfInputs r m.sources m.inputs (length entry.function.parameters) (IsRecorded graph entry m.steps)

abbrev pub TracesThen : Reads → Tracing → GraphParts → EntryFunction → Said → Type 0
TracesThen r m graph entry = OfInputs r m.sources m.inputs (length entry.function.parameters) (IsTraced graph entry m.ends m.steps)

abbrev pub TreesThen : Reads → Running → Typed → GraphParts → EntryFunction → Said → Type 0
TreesThen r m typed graph entry =
    OfInputs r m.sources m.inputs (length entry.function.parameters) (λ given said. said ≡ ended graph typed entry m.steps given)

abbrev pub EventsThen : Reads → Running → Typed → GraphParts → EntryFunction → Said → Type 0
EventsThen r m typed graph entry =
    OfInputs r m.sources m.inputs (length entry.function.parameters) (AreEvents graph typed entry m.steps)

abbrev pub BoundsThen : Form → Sufficing → GraphParts → EntryFunction → Said → Type 0
BoundsThen form m graph entry = IsAskedOfBounds form graph entry (within m.bounds) m.sources m.budget

abbrev pub CheckBoundsThen : Reads → CheckingBounds → GraphParts → EntryFunction → Said → Type 0
CheckBoundsThen r m graph entry = OfCertificate r m.sources m.certificate (IsCheckedBounds m graph entry)

abbrev pub SampleThen : ℕ → GraphParts → EntryFunction → Predicates → Plan → Said → Type 0
SampleThen number graph entry p plan =
    IsGeneration (sample_file ∷ []) graph entry p plan default_bounds counted.Returned default_budget (λ made. sample_text number graph plan made.answers)

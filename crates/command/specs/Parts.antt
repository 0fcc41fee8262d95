-- What the parts of a command answer, of what stands on the types that they are given.
use Rattle.std.specs.Prelude.{◌≡◌, ◌<◌, ◌^◌, ℕ, Bool, List, [], ◌∷◌, Result, Ok, Err, length}
use Rattle.std.specs.List.{All}
use Rattle.fq_core.specs.Refusals.{IfRefused}
use Rattle.fq_core.specs.declared.refusal.Fault.{Fault}
use Rattle.c_meaning.specs.declared.ends.Ends.{Ends}
use Rattle.c_meaning.specs.declared.input.Input.{Input}
use Rattle.cfa.specs.declared.parts.Function.{Function}
use Rattle.cfa.specs.declared.parts.GraphParts.{GraphParts}
use Rattle.goals.specs.GoalForm.{GoalForm}
use Rattle.input_text.specs.Laws.{HasWords}
use Rattle.path_runner.specs.declared.path.RunEnd.{RunEnd}
use Rattle.report.specs.Generated.{sample_text}
use Rattle.report.specs.Made.{parameter_kinds}
use Rattle.suite.specs.Generated.{IsGenerateFault, IsGenerated, Shown}
use Rattle.suite.specs.declared.decided.Decided.{Decided}
use Rattle.suite_problem.specs.declared.generated.Generated.{Generated}
use Rattle.command_words.specs.Reading.{Text}
use Rattle.command.specs.declared.types.Certificate.{Certificate}
use Rattle.suite_problem.specs.declared.given.Given.{Given}
use Rattle.suite_problem.specs.declared.goal.Goal.{Goal}
use Rattle.suite_problem.specs.declared.planned.Planned.{Planned}
use Rattle.command.specs.Asked.{sample_file}
use Rattle.command.specs.Check.{IsCheckedAt}
use Rattle.command.specs.Entries.{seen}
use Rattle.command.specs.Generate.{IsGeneration, IsOpenWhereShort, generated_report}
use Rattle.command.specs.Least.{IsLowered}
use Rattle.command.specs.Measure.{AreAllHits, IsMeasured}
use Rattle.command.specs.Prove.{IsProved, IsSaidOf}
use Rattle.command.specs.Runs.{ends_of, runs_of}
use Rattle.command.specs.Said.{Said, answered}
use Rattle.command.specs.Sample.{default_budget}
use Rattle.command.specs.Watched.{IsShown, IsShownNone, Watched}

-- ---- measuring

module _ (planned : Planned) (ends : Ends) (steps : ℕ) where
  abbrev graph_by : GraphParts
  graph_by = planned.entry.graph.now

  abbrev entry_by : Function
  entry_by = planned.entry.function.now

  -- so end the runs of inputs, and these goals each of them hits
  abbrev pub AreHitsOf : List Input → List RunEnd → List (List ℕ) → Type 0
  AreHitsOf inputs run_ends hits =
      (run_ends ≡ ends_of (runs_of graph_by entry_by planned.predicates steps inputs))
      × AreAllHits planned.plan ends (runs_of graph_by entry_by planned.predicates steps inputs) hits

  -- the report of measuring these inputs
  abbrev pub IsReportOf : Bool → List Input → List ℕ → Type 0
  IsReportOf json inputs text =
      IsMeasured graph_by (seen planned.entry) planned.predicates planned.plan ends steps json inputs (answered text)

-- ---- making inputs

module _ (given : Given) where
  abbrev graph_of : GraphParts
  graph_of = given.planned.entry.graph.now

  -- what a report asks of what was made
  pub record IsReportable (made : Generated) : Type 0 where
    pub words : All (HasWords (length (parameter_kinds given.planned.entry.graph.now given.planned.entry.number))) made.inputs
    pub taken : length made.taken ≡ length made.inputs
    pub answers : length made.answers ≡ length given.planned.plan.goals
    pub few : length made.hits < 2 ^ 32

  -- a text is said of what was made for the goals
  abbrev pub IsGenerationFor : ℕ → (Generated → List ℕ) → List Text → Said → Type 0
  IsGenerationFor budget text names =
      IsGeneration names graph_of (seen given.planned.entry) given.planned.predicates given.planned.plan given.bounds given.ends budget text

  -- the report of it
  abbrev pub report_for : ℕ → Bool → Generated → List ℕ
  report_for budget json =
      generated_report graph_of given.planned.entry.number given.planned.plan given.bounds given.ends budget json

  -- the line of it, where the goals are those of a sample
  abbrev pub IsSampleFor : ℕ → Said → Type 0
  IsSampleFor number =
      IsGenerationFor default_budget (λ made. sample_text number graph_of given.planned.plan made.answers) (sample_file ∷ [])

  -- inputs were made, each answer being true, and the watch was shown the undecided goals; or there is too much work, and it
  -- was shown nothing
  abbrev pub IsMadeAs : ℕ → Watched → Result Generated Fault → Type 0
  IsMadeAs budget w (Ok made) =
      (shown : List Shown)
      × IsGenerated graph_of given.planned.entry.function.now given.planned.predicates given.planned.plan given.bounds given.ends budget made shown
      × IsOpenWhereShort graph_of given.planned.entry.function.now given.planned.predicates given.planned.plan given.bounds budget made
      × IsShown shown w
  IsMadeAs budget w (Err e) =
      IsGenerateFault graph_of given.planned.entry.function.now given.planned.predicates given.planned.plan given.bounds given.ends e
      × IfRefused e (λ _. IsShownNone w)

-- ---- one goal

module _ (goal : Goal) where
  abbrev graph_at : GraphParts
  graph_at = goal.given.now.planned.entry.graph.now

  module _ (one : GoalForm) where
    abbrev pub IsSaidFor : Decided → Said → Type 0
    IsSaidFor decided said =
        IsSaidOf graph_at (seen goal.given.now.planned.entry) goal.given.now.planned.predicates goal.given.now.planned.plan goal.given.now.bounds goal.given.now.ends goal.number one decided said

    abbrev pub IsProvedFor : ℕ → List Text → Said → Type 0
    IsProvedFor budget names said =
        IsProved graph_at (seen goal.given.now.planned.entry) goal.given.now.planned.predicates goal.given.now.planned.plan goal.given.now.bounds goal.given.now.ends goal.number one names budget said

    abbrev pub IsLoweredFor : ℕ → List Text → Said → Type 0
    IsLoweredFor budget names said =
        IsLowered graph_at (seen goal.given.now.planned.entry) goal.given.now.planned.predicates goal.given.now.planned.plan goal.given.now.bounds goal.given.now.ends goal.number one names budget said

    abbrev pub IsCheckedFor : Certificate → List Text → Said → Type 0
    IsCheckedFor theirs names said =
        IsCheckedAt names graph_at (seen goal.given.now.planned.entry) goal.given.now.planned.predicates goal.given.now.planned.plan goal.given.now.bounds goal.given.now.ends goal.number one theirs.formula theirs.derivation said

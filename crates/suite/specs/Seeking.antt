-- What is said of what is given and of one goal of it, over what stands on their types.
use Rattle.std.specs.Prelude.{◌≡◌, ℕ, ◌-◌, ◌<◌, ◌≤◌, ◌^◌, List, Option, Some, length, slice_get}
use Rattle.c_meaning.specs.Runs.{IsRun, Run}
use Rattle.c_meaning.specs.declared.input.Input.{Input}
use Rattle.cfa.specs.declared.parts.Function.{Function}
use Rattle.cfa.specs.declared.parts.GraphParts.{GraphParts}
use Rattle.fq_core.specs.declared.refusal.Fault.{Fault}
use Rattle.fq_core.specs.declared.refusal.Refusal.{Refusal}
use Rattle.suite_problem.specs.declared.given.Given.{Given}
use Rattle.suite_problem.specs.declared.goal.Goal.{Goal}
use Rattle.goal_formula.specs.Exact.{IsExact}
use Rattle.goal_formula.specs.Sizes.{goal_size}
use Rattle.goal_formula.specs.declared.goal.GoalFormula.{GoalFormula}
use Rattle.goals.specs.GoalForm.{GoalForm}
use Rattle.goals.specs.declared.answer.Answer.{Answer}
use Rattle.goals.specs.declared.answer.Answer.TheVariants.{Undecided}
use Rattle.path_runner.specs.Paths.{record_of}
use Rattle.path_runner.specs.declared.path.PathRecord.{PathRecord}
use Rattle.unwinder.specs.Unwinding.{IsUnwindFault, IsUnwound}
use Rattle.unwinder.specs.declared.unwound.Unwound.{Unwound}
use Rattle.suite.specs.Generated.{IsGenerateFault, IsGenerated, Shown}
use Rattle.suite.specs.Made.{FallsShort, HasRunWithin, IsDecided, IsMadeFor, IsOpenWhereShort, NoneHits}
use Rattle.suite.specs.OneGoal.{IsGoalRefused, IsGoalWithin}
use Rattle.suite.specs.Progress.{AddsInput, AllAnswered, IsNext}
use Rattle.suite.specs.declared.decided.Decided.{Decided}
use Rattle.suite_problem.specs.declared.generated.Generated.{Generated}

-- a goal of what is given, and how many pairs of node and context are reached within the bounds
pub record Seeking : Type 0 where
  pub goal : Goal
  pub pairs : ℕ

-- ---- what is given

module _ (given : Given) where
  abbrev graph_of : GraphParts
  graph_of = given.planned.entry.graph.now

  abbrev function_of : Function
  function_of = given.planned.entry.function.now

  abbrev pub IsUnwindingOf : Unwound → Type 0
  IsUnwindingOf u = IsUnwound graph_of given.planned.predicates function_of given.planned.entry.number given.bounds given.ends u

  abbrev pub CannotUnwind : Fault → Type 0
  CannotUnwind fault = IsUnwindFault graph_of given.planned.predicates given.bounds function_of fault

  -- an input of the entry has a run that is counted and within the bounds
  abbrev pub HasRun : Input → Type 0
  HasRun input = HasRunWithin graph_of function_of given.bounds given.ends input

  -- what is recorded of the run of an input
  abbrev pub IsRecordOf : Input → PathRecord → Type 0
  IsRecordOf input path =
      (run : Run) → IsRun graph_of function_of input given.ends run → path ≡ record_of graph_of input given.planned.predicates run

  -- all goals are answered, and this was shown
  abbrev pub IsGenerationOf : ℕ → Generated → List Shown → Type 0
  IsGenerationOf budget made shown =
      IsGenerated graph_of function_of given.planned.predicates given.planned.plan given.bounds given.ends budget made shown

  abbrev pub CannotGenerate : Fault → Type 0
  CannotGenerate fault = IsGenerateFault graph_of function_of given.planned.predicates given.planned.plan given.bounds given.ends fault

  -- a goal stays undecided only where the budget falls short
  abbrev pub AreOpenWhereShort : ℕ → Generated → Type 0
  AreOpenWhereShort budget made =
      (place : ℕ) (form : GoalForm) → slice_get given.planned.plan.goals place ≡ Some form → slice_get made.answers place ≡ Some Undecided
      → FallsShort graph_of function_of given.planned.predicates given.planned.plan given.bounds form budget

  -- the first goals are answered, all of them where there are as many answers
  abbrev pub AreAnsweredOf : ℕ → Generated → Option (List Shown) → Option (List Shown) → Type 0
  AreAnsweredOf budget made before after =
      AllAnswered graph_of function_of given.planned.predicates given.planned.plan given.bounds given.ends budget made before after

-- ---- one goal

module _ (goal : Goal) where
  abbrev graph_at : GraphParts
  graph_at = goal.given.now.planned.entry.graph.now

  abbrev function_at : Function
  function_at = goal.given.now.planned.entry.function.now

  abbrev pub IsGoalOf : GoalForm → Type 0
  IsGoalOf form = slice_get goal.given.now.planned.plan.goals (goal.number - 1) ≡ Some form

  -- its size over so many pairs is within its limit
  abbrev pub IsSmall : ℕ → Type 0
  IsSmall pairs = (form : GoalForm) → IsGoalOf form → goal_size goal.given.now.planned.plan form pairs ≤ 8388608

  -- the pairs, their size sum and its own size are within their limits
  abbrev pub IsWithin : Type 0
  IsWithin =
      (form : GoalForm) → IsGoalOf form → IsGoalWithin graph_at function_at goal.given.now.planned.predicates goal.given.now.planned.plan goal.given.now.bounds form

  -- or one of them isn't
  abbrev pub IsRefused : Refusal → Type 0
  IsRefused refusal =
      (form : GoalForm) → IsGoalOf form
      → IsGoalRefused graph_at function_at goal.given.now.planned.predicates goal.given.now.planned.plan goal.given.now.bounds form refusal

  -- a formula is exact for it, and has few variables
  pub record IsFormulaFor (formula : GoalFormula) : Type 0 where
    pub form : GoalForm
    pub is : IsGoalOf form
    pub exact : IsExact graph_at goal.given.now.planned.predicates function_at goal.given.now.bounds goal.given.now.ends goal.given.now.planned.plan form formula
    pub few : formula.formula.variables < 2 ^ 30

  module _ (form : GoalForm) where
    -- an input was made for its form
    abbrev pub IsMadeAs : Input → Type 0
    IsMadeAs input =
        IsMadeFor graph_at function_at goal.given.now.planned.predicates goal.given.now.planned.plan goal.given.now.bounds goal.given.now.ends form input

    abbrev pub IsDecidedAs : ℕ → Decided → Type 0
    IsDecidedAs budget decided =
        IsDecided graph_at function_at goal.given.now.planned.predicates goal.given.now.planned.plan goal.given.now.bounds goal.given.now.ends form budget decided

    abbrev pub IsOpenAs : ℕ → Decided → Type 0
    IsOpenAs budget decided =
        IsOpenWhereShort graph_at function_at goal.given.now.planned.predicates goal.given.now.planned.plan goal.given.now.bounds form budget decided

    -- an input that was made for it is added
    abbrev pub AddsAs : Input → Generated → Generated → Type 0
    AddsAs input old new =
        AddsInput graph_at function_at goal.given.now.planned.predicates goal.given.now.planned.plan goal.given.now.bounds goal.given.now.ends form input old new

    -- it is the next one that is answered
    abbrev pub IsNextAs : ℕ → Generated → Generated → Option (List Shown) → Option (List Shown) → Answer → Type 0
    IsNextAs budget old new before after answer =
        IsNext graph_at function_at goal.given.now.planned.predicates goal.given.now.planned.plan goal.given.now.bounds goal.given.now.ends budget goal.number form old new before after answer

  -- an input was made for the goal
  abbrev pub IsMadeFrom : Input → Type 0
  IsMadeFrom input = (form : GoalForm) → IsGoalOf form → IsMadeAs form input

  -- no input at all hits it
  abbrev pub IsNoneFrom : Type 0
  IsNoneFrom =
      (form : GoalForm) → IsGoalOf form
      → NoneHits graph_at function_at goal.given.now.planned.predicates goal.given.now.planned.plan goal.given.now.bounds goal.given.now.ends form

  -- what is found of the goal is so
  abbrev pub IsDecidedAt : ℕ → Decided → Type 0
  IsDecidedAt budget decided = (form : GoalForm) → IsGoalOf form → IsDecidedAs form budget decided

  -- it stays undecided only where the budget falls short
  abbrev pub IsOpenAt : ℕ → Decided → Type 0
  IsOpenAt budget decided = (form : GoalForm) → IsGoalOf form → IsOpenAs form budget decided

-- another goal of the same
pub record IsTurned (old : Seeking) (number : ℕ) (new : Seeking) : Type 0 where
  pub given : new.goal.given ≡ old.goal.given
  pub number_is : new.goal.number ≡ number
  pub pairs : new.pairs ≡ old.pairs

-- some goal of the same
pub record IsOfSame (old new : Seeking) : Type 0 where
  pub given : new.goal.given ≡ old.goal.given
  pub pairs : new.pairs ≡ old.pairs

-- there is a goal of this number, and its size is within its limit
pub record CanTurn (old : Seeking) (number : ℕ) : Type 0 where
  pub some : 1 ≤ number
  pub there : number ≤ length old.goal.given.now.planned.plan.goals
  pub small : (form : GoalForm) → slice_get old.goal.given.now.planned.plan.goals (number - 1) ≡ Some form → goal_size old.goal.given.now.planned.plan form old.pairs ≤ 8388608

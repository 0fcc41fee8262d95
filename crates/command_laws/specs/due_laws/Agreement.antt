-- What is said of a goal by one text that is due is never denied by another.
use Rattle.std.specs.Prelude.{◌≡◌, ℕ, ◌+◌, List, length, Some, slice_get}
use Rattle.cfa.specs.declared.parts.GraphParts.{GraphParts}
use Rattle.cfa.specs.declared.state.Predicates.{Predicates}
use Rattle.c_meaning.specs.declared.ends.Ends.{Ends}
use Rattle.c_meaning.specs.declared.input.Input.{Input}
use Rattle.cnf.specs.declared.derivation.Derivation.{Derivation}
use Rattle.goal_formula.specs.declared.goal.GoalFormula.{GoalFormula}
use Rattle.goals.specs.GoalForm.{GoalForm}
use Rattle.goals.specs.declared.answer.Answer.TheVariants as answer
use Rattle.goals.specs.declared.plan.Plan.{Plan}
use Rattle.least_input.specs.Answers.{IsAnswered}
use Rattle.least_input.specs.declared.least.Fixed.{Fixed}
use Rattle.least_input.specs.declared.least.Least.TheVariants as least
use Rattle.unwinder_reach.specs.declared.reached.bounds.Bounds.{Bounds}
use Rattle.report.specs.Generated.{refuted_count, undecided_count}
use Rattle.report.specs.Texts.{covered_count}
use Rattle.suite.specs.Generated.{IsGenerated, Shown}
use Rattle.suite.specs.Made.{IsDecided, NoneHits}
use Rattle.suite.specs.declared.decided.Decided.TheVariants as decided
use Rattle.suite_problem.specs.declared.generated.Generated.{Generated}
use Rattle.command_words.specs.Reading.{Text}
use Rattle.command.specs.Runs.{EntryFunction, entry_of}

module _ (graph : GraphParts) (entry : EntryFunction) (p : Predicates) (plan : Plan) (bounds : Bounds) (ends : Ends) (goal : GoalForm) where
  -- `generate` answers that an input covers the goal, `prove` does, or `least` finds one, with any budgets
  pub data IsSaidCovered : Type 0 where
    by_generate : (budget : ℕ) (made : Generated) (shown : List Shown) (place covering : ℕ) → IsGenerated graph entry.function p plan bounds ends budget made shown
        → slice_get plan.goals place ≡ Some goal → slice_get made.answers place ≡ Some (answer.Covered covering) → IsSaidCovered
    by_prove : (budget : ℕ) (input : Input) → IsDecided graph entry.function p plan bounds ends goal budget (decided.Covered input) → IsSaidCovered
    by_least : (budget : ℕ) (input : Input) (formula : GoalFormula) (fixed : List Fixed) → IsAnswered graph entry.function p plan bounds ends goal budget (least.Found input formula fixed) → IsSaidCovered

  -- `generate` answers that the goal is refuted, `prove` or `least` does, or `check` accepts a certificate of it
  pub data IsSaidRefuted : Type 0 where
    by_generate : (budget : ℕ) (made : Generated) (shown : List Shown) (place : ℕ) → IsGenerated graph entry.function p plan bounds ends budget made shown
        → slice_get plan.goals place ≡ Some goal → slice_get made.answers place ≡ Some answer.Refuted → IsSaidRefuted
    by_prove : (budget : ℕ) (formula : GoalFormula) (derivation : Derivation) → IsDecided graph entry.function p plan bounds ends goal budget (decided.Refuted formula derivation) → IsSaidRefuted
    by_least : (budget : ℕ) (formula : GoalFormula) (derivation : Derivation) → IsAnswered graph entry.function p plan bounds ends goal budget (least.Refuted formula derivation) → IsSaidRefuted
    by_check : NoneHits graph entry.function p plan bounds ends goal → IsSaidRefuted

-- a goal that is covered by one text is refuted by none, over the same automaton, entry, plan, bounds and ends
abbrev pub CoveredIsNeverRefuted : Type 0
CoveredIsNeverRefuted =
    (graph : GraphParts) (name : Text) (entry : EntryFunction) (p : Predicates) (plan : Plan) (bounds : Bounds) (ends : Ends) (goal : GoalForm)
    → entry_of graph name ≡ Some entry → IsSaidCovered graph entry p plan bounds ends goal → ¬ IsSaidRefuted graph entry p plan bounds ends goal

-- the goals that are covered, refuted and undecided are all goals
abbrev pub CountsAddUp : Type 0
CountsAddUp =
    (graph : GraphParts) (entry : EntryFunction) (p : Predicates) (plan : Plan) (bounds : Bounds) (ends : Ends) (budget : ℕ) (made : Generated) (shown : List Shown)
    → IsGenerated graph entry.function p plan bounds ends budget made shown
    → covered_count made.answers + refuted_count made.answers + undecided_count made.answers ≡ length plan.goals

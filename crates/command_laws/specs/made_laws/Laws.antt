-- What the inputs and the answers of a generation say of all runs.
use Rattle.std.specs.Prelude.{◌≡◌, ℕ, ◌<◌, List, [], length, Option, Some, slice_get}
use Rattle.cfa.specs.Graph.{IsGraph}
use Rattle.cfa.specs.declared.parts.Function.{Function}
use Rattle.cfa.specs.declared.parts.GraphParts.{GraphParts}
use Rattle.cfa.specs.declared.state.Predicates.{Predicates}
use Rattle.cfa.specs.declared.state.Trap.{Trap}
use Rattle.c_meaning.specs.Runs.{IsRun, Run}
use Rattle.c_meaning.specs.declared.ends.Ends.{Ends}
use Rattle.c_meaning.specs.declared.ends.Ends.TheVariants as counted
use Rattle.c_meaning.specs.declared.input.Input.{Input}
use Rattle.c_meaning.specs.declared.stepped.Stepped.TheVariants.{Returned, Trapped}
use Rattle.goals.specs.GoalForm.{GoalForm}
use Rattle.goals.specs.declared.answer.Answer.TheVariants.{Refuted}
use Rattle.goals.specs.declared.plan.Plan.{Plan}
use Rattle.unwinder_reach.specs.declared.reached.bounds.Bounds.{Bounds}
use Rattle.measurer_hits.specs.run_laws.Ends.{EndsIn}
use Rattle.unwinder.specs.Lists.{IsInputFor}
use Rattle.bounds_check_laws.specs.ending_laws.Asking.{AsksFor, AsksForEachEnd, EndsAreRefuted, ReturnsPlainly}
use Rattle.bounds_check_laws.specs.ending_laws.Ends.{EndsSoon}
use Rattle.bounds_check.specs.Leaving.{NoneLeaves}
use Rattle.suite.specs.Generated.{IsGenerated, Shown}
use Rattle.suite_problem.specs.declared.generated.Generated.{Generated}

-- ---- inputs

-- Each run of an input that was made has fewer than 50,000 edges, so that measuring it with as many is enough.
abbrev pub MadeRunsAreShort : Type 0
MadeRunsAreShort =
    (graph : GraphParts) (k : ℕ) (f : Function) (p : Predicates) (plan : Plan) (bounds : Bounds) (ends : Ends) (budget : ℕ) (made : Generated) (shown : List Shown) →
    IsGraph graph → slice_get graph.functions k ≡ Some f → f.arrays ≡ [] → IsGenerated graph f p plan bounds ends budget made shown →
    (place : ℕ) (input : Input) (run : Run) → slice_get made.inputs place ≡ Some input → IsRun graph f input ends run → length run.moves < 50000

-- ---- answers

-- each goal is answered as refuted but one that asks for the exit of the function
abbrev pub OthersAreRefuted : Function → Plan → Generated → Type 0
OthersAreRefuted f plan made = (place : ℕ) (goal : GoalForm) → slice_get plan.goals place ≡ Some goal → ¬ AsksFor f.exit goal → slice_get made.answers place ≡ Some Refuted

-- A plan asks for each end, no input leaves the bounds, and of a generation within them all goals but that of the exit are refuted.
pub record RefutesEnds (graph : GraphParts) (f : Function) (p : Predicates) (plan : Plan) (bounds : Bounds) (ends : Ends) : Type 0 where
  pub plainly : ReturnsPlainly graph f
  pub asks : AsksForEachEnd graph f plan
  pub stay : NoneLeaves graph f bounds
  pub budget : ℕ
  pub made : Generated
  pub shown : List Shown
  pub generated : IsGenerated graph f p plan bounds ends budget made shown
  pub others : OthersAreRefuted f plan made

-- so the ends are refuted
abbrev pub AnswersRefuteEnds : Type 0
AnswersRefuteEnds =
    (graph : GraphParts) (f : Function) (p : Predicates) (plan : Plan) (bounds : Bounds) (ends : Ends) →
    RefutesEnds graph f p plan bounds ends → EndsAreRefuted bounds.turns bounds.frames bounds.answers graph f p plan ends

-- with traps counted, no input at all ends in a trap
abbrev pub NoneTraps : Type 0
NoneTraps =
    (graph : GraphParts) (k : ℕ) (f : Function) (p : Predicates) (plan : Plan) (bounds : Bounds) →
    IsGraph graph → slice_get graph.functions k ≡ Some f → RefutesEnds graph f p plan bounds counted.Trapped →
    (input : Input) → IsInputFor f input → (trap : Trap) → ¬ EndsIn graph f input (Trapped trap)

-- with any end counted, every input returns, after fewer than 50,000 edges
abbrev pub EachReturns : Type 0
EachReturns =
    (graph : GraphParts) (k : ℕ) (f : Function) (p : Predicates) (plan : Plan) (bounds : Bounds) →
    IsGraph graph → slice_get graph.functions k ≡ Some f → RefutesEnds graph f p plan bounds counted.Any →
    (input : Input) → IsInputFor f input → (value : Option ℕ) × EndsSoon graph f input 50000 (Returned value)

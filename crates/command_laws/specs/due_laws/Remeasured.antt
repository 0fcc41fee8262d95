-- What `measure` says of the inputs that `generate` made.
use Rattle.std.specs.Prelude.{◌≡◌, ℕ, ◌+◌, ◌≤◌, List, length, Option, None, Some, slice_get}
use Rattle.c_meaning.specs.Runs.{IsRun, Run}
use Rattle.c_meaning.specs.declared.ends.Ends.{Ends}
use Rattle.c_meaning.specs.declared.input.Input.{Input}
use Rattle.cfa.specs.Graph.{IsGraph}
use Rattle.cfa.specs.declared.parts.Function.{Function}
use Rattle.cfa.specs.declared.parts.GraphParts.{GraphParts}
use Rattle.cfa.specs.declared.state.Predicates.{Predicates}
use Rattle.goals.specs.GoalForm.{GoalForm}
use Rattle.goals.specs.declared.answer.Answer.{Answer}
use Rattle.goals.specs.declared.answer.Answer.TheVariants.{Covered, Missed, Refuted, Undecided}
use Rattle.goals.specs.declared.plan.Plan.{Plan}
use Rattle.unwinder_reach.specs.declared.reached.bounds.Bounds.{Bounds}
use Rattle.suite.specs.Generated.{IsGenerated, Shown}
use Rattle.suite_problem.specs.declared.generated.Generated.{Generated}
use Rattle.command_words.specs.Reading.{Text}
use Rattle.command.specs.Measure.{AreAllHits, answer_of}
use Rattle.command.specs.Runs.{EntryFunction, entry_of, runs_of}

-- the runs of these inputs, where they are counted, have at most so many edges
abbrev pub EndWithin : GraphParts → Function → Ends → ℕ → List Input → Type 0
EndWithin graph f ends steps inputs = (place : ℕ) (input : Input) (run : Run) → slice_get inputs place ≡ Some input → IsRun graph f input ends run → length run.moves ≤ steps

-- What was said of a goal where inputs were made, and what is measured of it: a goal that is covered is covered by the same input,
-- and one that is refuted is missed.
abbrev pub IsMeasuredAlike : Option Answer → Answer → Type 0
IsMeasuredAlike None measured = ⊥
IsMeasuredAlike (Some (Covered input)) measured = measured ≡ Covered input
IsMeasuredAlike (Some Missed) measured = ⊥
IsMeasuredAlike (Some Refuted) measured = measured ≡ Missed
IsMeasuredAlike (Some Undecided) measured = Unit {0}

-- Where the inputs of a generation are measured by the same query and ends, with steps that are enough for their runs, the goals
-- that each input hits are those that were found, so the suite is the same one, and each goal is measured as it was answered.
abbrev pub MadeInputsAreMeasured : Type 0
MadeInputsAreMeasured =
    (graph : GraphParts) (name : Text) (entry : EntryFunction) (p : Predicates) (plan : Plan) (bounds : Bounds) (ends : Ends) (budget : ℕ) (made : Generated) (shown : List Shown)
    (steps : ℕ) (hits : List (List ℕ))
    → entry_of graph name ≡ Some entry → IsGenerated graph entry.function p plan bounds ends budget made shown
    → EndWithin graph entry.function ends steps made.inputs → AreAllHits plan ends (runs_of graph entry.function p steps made.inputs) hits
    → (hits ≡ made.hits)
    × ((place : ℕ) (goal : GoalForm) → slice_get plan.goals place ≡ Some goal → IsMeasuredAlike (slice_get made.answers place) (answer_of hits (place + 1)))

-- A run of an input that was made has fewer than 50,000 edges. So with as many steps as that or more, which the default of 100,000
-- is, nothing need be known of the runs.
abbrev pub MadeInputsAreMeasuredWhole : Type 0
MadeInputsAreMeasuredWhole =
    (graph : GraphParts) (name : Text) (entry : EntryFunction) (p : Predicates) (plan : Plan) (bounds : Bounds) (ends : Ends) (budget : ℕ) (made : Generated) (shown : List Shown)
    (steps : ℕ) (hits : List (List ℕ))
    → IsGraph graph → entry_of graph name ≡ Some entry → IsGenerated graph entry.function p plan bounds ends budget made shown
    → 49999 ≤ steps → AreAllHits plan ends (runs_of graph entry.function p steps made.inputs) hits
    → (hits ≡ made.hits)
    × ((place : ℕ) (goal : GoalForm) → slice_get plan.goals place ≡ Some goal → IsMeasuredAlike (slice_get made.answers place) (answer_of hits (place + 1)))

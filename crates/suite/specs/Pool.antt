-- What the inputs of a pool are. No public clause needs it.
use Rattle.std.specs.Prelude.{◌≡◌, ℕ, ◌-◌, List, Some, slice_get, true}
use Rattle.std.specs.List.{AllZip}
use Rattle.c_meaning.specs.Runs.{Run}
use Rattle.c_meaning.specs.declared.ends.Ends.{Ends}
use Rattle.c_meaning.specs.declared.input.Input.{Input}
use Rattle.cfa.specs.declared.parts.Function.{Function}
use Rattle.cfa.specs.declared.parts.GraphParts.{GraphParts}
use Rattle.cfa.specs.declared.state.Predicates.{Predicates}
use Rattle.goals.specs.GoalForm.{GoalForm}
use Rattle.goals.specs.declared.plan.Plan.{Plan}
use Rattle.measurer_hits.specs.hits.Hits.{AreHits}
use Rattle.measurer.specs.Measurers.{IsMadeFor as MeasuresFor, hits_of}
use Rattle.path_runner.specs.Paths.{record_of}
use Rattle.unwinder_reach.specs.declared.reached.bounds.Bounds.{Bounds}
use Rattle.suite.specs.Made.{IsMade, IsMadeFor, NoneHits}
use Rattle.suite.specs.declared.pool.Pool.{Pool}

module _ (parts : GraphParts) (f : Function) (p : Predicates) (plan : Plan) (bounds : Bounds) (ends : Ends) where
  -- an input was made: it has a run within the bounds, and exactly the answers that this reads; these are the goals that the
  -- run hits
  pub record IsPooled (input : Input) (numbers : List ℕ) : Type 0 where
    pub run : Run
    pub made : IsMade parts f p bounds ends input run
    pub hits : AreHits plan ends (record_of parts input p run) numbers

  -- each input of the pool was made, and has the hits of its run; and no input hits a goal that is noted as refuted
  pub record IsPool (pool : Pool) : Type 0 where
    pub measures : MeasuresFor plan pool.measurer
    pub inputs : AllZip IsPooled pool.inputs (hits_of pool.measurer)
    pub refuted : (place : ℕ) (goal : GoalForm) → slice_get plan.goals place ≡ Some goal → slice_get pool.refuted.items place ≡ Some true → NoneHits parts f p plan bounds ends goal

-- an input was made for the goal of a number, of whatever plan the pool is one
abbrev pub IsForGoal : Pool → ℕ → Input → Type 0
IsForGoal pool goal input =
    (parts : GraphParts) (f : Function) (p : Predicates) (plan : Plan) (bounds : Bounds) (ends : Ends) (g : GoalForm) →
    IsPool parts f p plan bounds ends pool → slice_get plan.goals (goal - 1) ≡ Some g → IsMadeFor parts f p plan bounds ends g input

-- no input hits the goal of a number, of whatever plan the pool is one
abbrev pub IsNoneFor : Pool → ℕ → Type 0
IsNoneFor pool goal =
    (parts : GraphParts) (f : Function) (p : Predicates) (plan : Plan) (bounds : Bounds) (ends : Ends) (g : GoalForm) →
    IsPool parts f p plan bounds ends pool → slice_get plan.goals (goal - 1) ≡ Some g → NoneHits parts f p plan bounds ends g

-- where no input hits the goal of a number, the new pool is one as the old one was
abbrev pub IsNoted : Pool → Pool → ℕ → Type 0
IsNoted old new goal =
    (parts : GraphParts) (f : Function) (p : Predicates) (plan : Plan) (bounds : Bounds) (ends : Ends) →
    IsPool parts f p plan bounds ends old → ((g : GoalForm) → slice_get plan.goals (goal - 1) ≡ Some g → NoneHits parts f p plan bounds ends g) → IsPool parts f p plan bounds ends new

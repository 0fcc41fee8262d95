-- Which goals of a plan the run of an input hits, with no limit, and within bounds.
use Rattle.std.specs.Prelude.{ℕ}
use Rattle.cfa.specs.declared.parts.Function.{Function}
use Rattle.cfa.specs.declared.parts.GraphParts.{GraphParts}
use Rattle.cfa.specs.declared.state.Predicates.{Predicates}
use Rattle.c_meaning.specs.Pairs.{IsRunWithin}
use Rattle.c_meaning.specs.Runs.{IsRun, Run}
use Rattle.c_meaning.specs.declared.ends.Ends.{Ends}
use Rattle.c_meaning.specs.declared.input.Input.{Input}
use Rattle.path_runner.specs.Paths.{record_of}
use Rattle.goals.specs.GoalForm.{GoalForm}
use Rattle.goals.specs.declared.plan.Plan.{Plan}
use Rattle.measurer_hits.specs.hits.Hits.{Hits}

module _ (parts : GraphParts) (entry : Function) (p : Predicates) (plan : Plan) (ends : Ends) where
  -- the input has a run from the entry whose end is counted, and this run hits the goal
  pub record InputHits (goal : GoalForm) (input : Input) : Type 0 where
    pub run : Run
    pub is_run : IsRun parts entry input ends run
    pub hits : Hits plan ends goal (record_of parts input p run)

  -- and at each of the run's states no loop's counter is above the turns, and there are no more frames and no more answers
  -- taken than these
  pub record InputHitsWithin (turns frames answers : ℕ) (goal : GoalForm) (input : Input) : Type 0 where
    pub run : Run
    pub is_run : IsRun parts entry input ends run
    pub within : IsRunWithin turns frames answers parts entry run
    pub hits : Hits plan ends goal (record_of parts input p run)

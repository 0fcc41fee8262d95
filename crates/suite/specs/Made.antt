-- What is said of a goal where inputs are made: an input that hits it within the bounds, that no input does, or that the
-- search spent its budget.
use Rattle.std.specs.Prelude.{◌≡◌, ℕ, ◌<◌, ◌^◌, All, List, map}
use Rattle.std.specs.List.{AllZip}
use Rattle.c_meaning.specs.Pairs.{IsRunWithin}
use Rattle.c_meaning.specs.Runs.{IsRun, Run}
use Rattle.c_meaning.specs.declared.ends.Ends.{Ends}
use Rattle.c_meaning.specs.declared.input.Input.{Input}
use Rattle.c_values.specs.Kind.{IsValue}
use Rattle.c_values.specs.declared.kinds.Kind.{Kind}
use Rattle.certificate.specs.Certificates.{IsPair}
use Rattle.cfa.specs.Contexts.{Pair}
use Rattle.cfa.specs.declared.parts.Function.{Function}
use Rattle.cfa.specs.declared.parts.GraphParts.{GraphParts}
use Rattle.cfa.specs.declared.state.Predicates.{Predicates}
use Rattle.cnf.specs.declared.formula.Formula.{Formula}
use Rattle.goal_formula.specs.Exact.{IsExact, most_variables}
use Rattle.goals.specs.GoalForm.{GoalForm}
use Rattle.goals.specs.declared.plan.Plan.{Plan}
use Rattle.measurer_hits.specs.hits.Hits.{Hits}
use Rattle.measurer_hits.specs.hits.Inputs.{InputHitsWithin}
use Rattle.path_runner.specs.Paths.{record_of}
use Rattle.unwinder_reach.specs.reached.Reaching.{AreReached}
use Rattle.unwinder_reach.specs.declared.reached.bounds.Bounds.{Bounds}
use Rattle.unwinder_reach.specs.declared.reached.step.Step.{Step}
use Rattle.search.specs.Nexts.{IsFound, IsRefutation}
use Rattle.search.specs.declared.found.Found.TheVariants.{Spent}
use Rattle.search.specs.declared.moves.History.{History}
use Rattle.unwinder.specs.Lists.{IsInputFor}
use Rattle.suite.specs.declared.decided.Decided.{Decided}
use Rattle.suite.specs.declared.decided.Decided.TheVariants.{Covered, Refuted, Undecided}

-- as many moves as the budget, from the first state of the search of a formula to one that isn't finished
abbrev pub IsSpent : Formula → ℕ → History → Type 0
IsSpent formula budget history = IsFound formula budget (Spent history)

-- An input that was made has this run: it is counted and within the bounds; the input's answers are exactly those that the
-- run reads; and all its words are values of their kinds.
pub record IsMade (parts : GraphParts) (f : Function) (p : Predicates) (bounds : Bounds) (ends : Ends) (input : Input) (run : Run) : Type 0 where
  pub is_run : IsRun parts f input ends run
  pub within : IsRunWithin bounds.turns bounds.frames bounds.answers parts f run
  pub answers : map (λ (taken : Kind × ℕ). taken.1) (record_of parts input p run).taken ≡ input.answers
  pub answers_fit : All (λ (taken : Kind × ℕ). IsValue taken.0 taken.1) (record_of parts input p run).taken
  pub words_fit : AllZip IsValue f.parameters input.words

-- An input of the function has a run that is counted and within the bounds.
pub record HasRunWithin (parts : GraphParts) (f : Function) (bounds : Bounds) (ends : Ends) (input : Input) : Type 0 where
  pub given : IsInputFor f input
  pub run : Run
  pub is_run : IsRun parts f input ends run
  pub within : IsRunWithin bounds.turns bounds.frames bounds.answers parts f run

module _ (parts : GraphParts) (f : Function) (p : Predicates) (plan : Plan) (bounds : Bounds) (ends : Ends) where
  -- an input that was made, whose run hits the goal
  pub record IsMadeFor (goal : GoalForm) (input : Input) : Type 0 where
    pub run : Run
    pub made : IsMade parts f p bounds ends input run
    pub hits : Hits plan ends goal (record_of parts input p run)

  -- no input at all has a run within the bounds that hits the goal
  abbrev pub NoneHits : GoalForm → Type 0
  NoneHits goal = (input : Input) → IsInputFor f input → InputHitsWithin parts f p plan ends bounds.turns bounds.frames bounds.answers goal input → ⊥

  -- what is said of a goal with a budget of so many moves; a certificate can write what refutes it
  abbrev pub IsDecided : GoalForm → ℕ → Decided → Type 0
  IsDecided goal budget (Covered input) = IsMadeFor goal input
  IsDecided goal budget (Refuted formula derivation) =
      IsExact parts p f bounds ends plan goal formula × IsRefutation formula.formula budget derivation × NoneHits goal × IsPair formula.formula derivation
  IsDecided goal budget (Undecided formula history) =
      IsExact parts p f bounds ends plan goal formula × IsSpent formula.formula budget history

-- A budget of so many moves is below 3 to the most variables that a goal's formula has, over the pairs that are reached
-- within the bounds.
pub record FallsShort (parts : GraphParts) (f : Function) (p : Predicates) (plan : Plan) (bounds : Bounds) (goal : GoalForm) (budget : ℕ) : Type 0 where
  pub pairs : List Pair
  pub steps : List (List Step)
  pub reached : AreReached parts bounds f pairs steps
  pub short : budget < 3 ^ most_variables parts p f bounds plan goal pairs steps

-- a goal stays undecided only where its budget falls short
abbrev pub IsOpenWhereShort : GraphParts → Function → Predicates → Plan → Bounds → GoalForm → ℕ → Decided → Type 0
IsOpenWhereShort parts f p plan bounds goal budget (Covered input) = Unit {0}
IsOpenWhereShort parts f p plan bounds goal budget (Refuted formula derivation) = Unit {0}
IsOpenWhereShort parts f p plan bounds goal budget (Undecided formula history) = FallsShort parts f p plan bounds goal budget

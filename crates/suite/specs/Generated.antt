-- What is said of all goals of a plan where inputs are made.
use Rattle.std.specs.Prelude.{◌≡◌, ◌⊎◌, ℕ, ◌+◌, ◌-◌, ◌<◌, ◌≤◌, ◌++◌, List, [], ◌∷◌, length, map, Option, Some, slice_get}
use Rattle.std.specs.List.Sorted.{IsStrictlyIncreasing}
use Rattle.std.specs.Option.{option_map}
use Rattle.c_meaning.specs.Runs.{Run}
use Rattle.c_meaning.specs.declared.ends.Ends.{Ends}
use Rattle.c_meaning.specs.declared.input.Input.{Input}
use Rattle.cfa.specs.Contexts.{Pair}
use Rattle.cfa.specs.declared.parts.Function.{Function}
use Rattle.cfa.specs.declared.parts.GraphParts.{GraphParts}
use Rattle.cfa.specs.declared.state.Predicates.{Predicates}
use Rattle.cnf.specs.declared.formula.Formula.{Formula}
use Rattle.fq_core.specs.Refusals.{refusal}
use Rattle.fq_core.specs.declared.refusal.Fault.{Fault}
use Rattle.fq_core.specs.declared.refusal.Fault.TheVariants as fault
use Rattle.fq_core.specs.declared.refusal.Place.TheVariants as place
use Rattle.goal_formula.specs.Exact.{IsExact}
use Rattle.goal_formula.specs.Sizes.{goal_size}
use Rattle.goal_formula.specs.declared.goal.GoalFormula.{GoalFormula}
use Rattle.goals.specs.GoalForm.{GoalForm}
use Rattle.goals.specs.declared.answer.Answer.{Answer}
use Rattle.goals.specs.declared.answer.Answer.TheVariants.{Covered, Missed, Refuted, Undecided}
use Rattle.goals.specs.declared.plan.Plan.{Plan}
use Rattle.measurer_hits.specs.hits.Hits.{AreHits}
use Rattle.measurer_hits.specs.hits.Inputs.{InputHits, InputHitsWithin}
use Rattle.path_runner.specs.Paths.{record_of}
use Rattle.unwinder_reach.specs.reached.Reaching.{AreReached}
use Rattle.unwinder_reach.specs.declared.reached.bounds.Bounds.{Bounds}
use Rattle.unwinder_reach.specs.declared.reached.step.Step.{Step}
use Rattle.search.specs.declared.moves.History.{History}
use Rattle.unwinder.specs.Unwinding.{IsUnwindFault}
use Rattle.unwinder_reach.specs.unwinding_size.Sizes.{size_sum}
use Rattle.suite.specs.Made.{IsMade, IsSpent, NoneHits}
use Rattle.suite_problem.specs.declared.generated.Generated.{Generated}

-- a goal's number with the formula and the history of its search
abbrev pub Shown : Type 0
Shown = ℕ × Formula × History

-- the numbers, from this one on, of the goals that stay undecided
abbrev pub undecided_from : ℕ → List Answer → List ℕ
undecided_from number [] = []
undecided_from number (Undecided ∷ answers) = number ∷ undecided_from (number + 1) answers
undecided_from number (Covered input ∷ answers) = undecided_from (number + 1) answers
undecided_from number (Missed ∷ answers) = undecided_from (number + 1) answers
undecided_from number (Refuted ∷ answers) = undecided_from (number + 1) answers

module _ (parts : GraphParts) (f : Function) (p : Predicates) (plan : Plan) (bounds : Bounds) (ends : Ends) where
  -- The pairs that are reached within the bounds, their size sum and the size of each goal are within their limits.
  pub record IsWithinLimits : Type 0 where
    pub pairs : List Pair
    pub steps : List (List Step)
    pub reached : AreReached parts bounds f pairs steps
    pub few_pairs : length pairs ≤ 50000
    pub small : size_sum parts p f pairs steps ≤ 4194304
    pub goals : (place : ℕ) (goal : GoalForm) → slice_get plan.goals place ≡ Some goal → goal_size plan goal (length pairs) ≤ 8388608

  -- The pairs and their size sum are within their limits, and the size of some goal isn't.
  pub record HasTooLargeGoal : Type 0 where
    pub pairs : List Pair
    pub steps : List (List Step)
    pub reached : AreReached parts bounds f pairs steps
    pub few_pairs : length pairs ≤ 50000
    pub small : size_sum parts p f pairs steps ≤ 4194304
    pub place : ℕ
    pub goal : GoalForm
    pub there : slice_get plan.goals place ≡ Some goal
    pub large : 8388608 < goal_size plan goal (length pairs)

  -- codes 80 and 81 are those of the unwinding, 82 says that some goal is too large, and want of memory is free
  abbrev pub IsGenerateFault : Fault → Type 0
  IsGenerateFault (fault.Refused r) =
      IsUnwindFault parts p bounds f (fault.Refused r) ⊎ ((fault.Refused r ≡ refusal 82 (place.Limit 8388608)) × HasTooLargeGoal)
  IsGenerateFault fault.Memory = Unit {0}

  -- An input with the numbers of the goals that its run hits, and the answers that the run reads, with their kinds.
  pub record IsMeasuredInput (made : Generated) (place : ℕ) (input : Input) : Type 0 where
    pub run : Run
    pub is_made : IsMade parts f p bounds ends input run
    pub numbers : List ℕ
    pub listed : slice_get made.hits place ≡ Some numbers
    pub hits : AreHits plan ends (record_of parts input p run) numbers
    pub taken : slice_get made.taken place ≡ Some (record_of parts input p run).taken

  -- An input of this number is the first that hits a goal, and it was made for this goal or an earlier one. `made_for` has
  -- the number of the goal for which each input was made.
  pub record IsCovered (inputs : List Input) (made_for : List ℕ) (number : ℕ) (goal : GoalForm) (covering : ℕ) : Type 0 where
    pub some : 0 < covering
    pub input : Input
    pub input_is : slice_get inputs (covering - 1) ≡ Some input
    pub goal_of : ℕ
    pub goal_is : slice_get made_for (covering - 1) ≡ Some goal_of
    pub not_later : goal_of ≤ number
    pub hits : InputHitsWithin parts f p plan ends bounds.turns bounds.frames bounds.answers goal input
    pub first : (place : ℕ) (earlier : Input) → place + 1 < covering → slice_get inputs place ≡ Some earlier → InputHits parts f p plan ends goal earlier → ⊥

  -- no input that was made for an earlier goal hits this one
  abbrev pub NoEarlierHits : List Input → List ℕ → ℕ → GoalForm → Type 0
  NoEarlierHits inputs made_for number goal =
      (place goal_of : ℕ) (input : Input) → slice_get inputs place ≡ Some input → slice_get made_for place ≡ Some goal_of → goal_of < number → InputHits parts f p plan ends goal input → ⊥

  -- a goal's answer is true of it
  abbrev pub IsAnswer : List Input → List ℕ → ℕ → GoalForm → Answer → Type 0
  IsAnswer inputs made_for number goal (Covered covering) = IsCovered inputs made_for number goal covering
  IsAnswer inputs made_for number goal Missed = ⊥
  IsAnswer inputs made_for number goal Refuted = NoneHits parts f p plan bounds ends goal
  IsAnswer inputs made_for number goal Undecided = NoEarlierHits inputs made_for number goal

  -- What was shown of a goal: a formula that is exact for it, whose search spent the budget.
  pub record IsShown (budget : ℕ) (shown : Shown) : Type 0 where
    pub goal : GoalForm
    pub some : 0 < shown.0
    pub there : slice_get plan.goals (shown.0 - 1) ≡ Some goal
    pub formula : GoalFormula
    pub formula_is : formula.formula ≡ shown.1
    pub exact : IsExact parts p f bounds ends plan goal formula
    pub spent : IsSpent shown.1 budget shown.2

  -- The first goals of the plan, as many as there are answers, have their true answers, in order. Each input was made for one of
  -- them, which it covers, and the inputs are numbered in the order of these goals. Those that stay undecided, in order, and
  -- nothing else was shown.
  pub record AreAnswered (budget : ℕ) (made : Generated) (made_for : List ℕ) (shown : List Shown) : Type 0 where
    pub rise : IsStrictlyIncreasing made_for
    pub made_for_count : length made_for ≡ length made.inputs
    pub taken_count : length made.taken ≡ length made.inputs
    pub hits_count : length made.hits ≡ length made.inputs
    pub inputs : (place : ℕ) (input : Input) → slice_get made.inputs place ≡ Some input → IsMeasuredInput made place input
    pub covers : (place goal_of : ℕ) → slice_get made_for place ≡ Some goal_of → (0 < goal_of) × (slice_get made.answers (goal_of - 1) ≡ Some (Covered (place + 1)))
    pub answers : (place : ℕ) (goal : GoalForm) (answer : Answer) → slice_get plan.goals place ≡ Some goal → slice_get made.answers place ≡ Some answer → IsAnswer made.inputs made_for (place + 1) goal answer
    pub shown_numbers : map (λ (one : Shown). one.0) shown ≡ undecided_from 1 made.answers
    pub shown_each : (place : ℕ) (one : Shown) → slice_get shown place ≡ Some one → IsShown budget one

  -- All goals of the plan are answered so, and the counts of the unwinding and of the goals are within their limits.
  pub record IsGenerated (budget : ℕ) (made : Generated) (shown : List Shown) : Type 0 where
    pub limits : IsWithinLimits
    pub answer_count : length made.answers ≡ length plan.goals
    pub made_for : List ℕ
    pub answered : AreAnswered budget made made_for shown

-- what a watch had seen, and then this
abbrev pub seen_also : Option (List Shown) → List Shown → Option (List Shown)
seen_also seen shown = option_map (λ list. list ++ shown) seen

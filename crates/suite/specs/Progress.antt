-- What only the parts of generation ask of each other.
use Rattle.std.specs.Prelude.{◌≡◌, ◌⊎◌, ℕ, ◌<◌, ◌≤◌, ◌++◌, List, [], ◌∷◌, length, Option, None, Some, slice_get}
use Rattle.c_meaning.specs.Runs.{Run}
use Rattle.c_meaning.specs.declared.ends.Ends.{Ends}
use Rattle.c_meaning.specs.declared.input.Input.{Input}
use Rattle.cfa.specs.declared.parts.Function.{Function}
use Rattle.cfa.specs.declared.parts.GraphParts.{GraphParts}
use Rattle.cfa.specs.declared.state.Predicates.{Predicates}
use Rattle.fq_core.specs.Refusals.{refusal}
use Rattle.fq_core.specs.declared.refusal.Fault.{Fault}
use Rattle.fq_core.specs.declared.refusal.Fault.TheVariants as fault
use Rattle.fq_core.specs.declared.refusal.Place.TheVariants as place
use Rattle.goal_formula.specs.Sizes.{goal_size}
use Rattle.goals.specs.GoalForm.{GoalForm}
use Rattle.goals.specs.declared.answer.Answer.{Answer}
use Rattle.goals.specs.declared.answer.Answer.TheVariants.{Covered, Missed, Refuted, Undecided}
use Rattle.goals.specs.declared.plan.Plan.{Plan}
use Rattle.measurer_hits.specs.hits.Hits.{AreHits, Hits}
use Rattle.measurer.specs.Firsts.{first_hit}
use Rattle.measurer.specs.Measurers.{hits_of}
use Rattle.path_runner.specs.Paths.{record_of}
use Rattle.unwinder_reach.specs.declared.reached.bounds.Bounds.{Bounds}
use Rattle.suite.specs.Generated.{AreAnswered, IsShown, Shown, seen_also}
use Rattle.suite.specs.Made.{IsMade, NoneHits}
use Rattle.suite_problem.specs.declared.generated.Generated.{Generated}
use Rattle.suite.specs.declared.making.Making.{Making}

-- no goal is too large over so many pairs
abbrev pub AreSmall : Plan → ℕ → Type 0
AreSmall plan pairs = (place : ℕ) (goal : GoalForm) → slice_get plan.goals place ≡ Some goal → goal_size plan goal pairs ≤ 8388608

-- some goal is
pub record SomeIsLarge (plan : Plan) (pairs : ℕ) : Type 0 where
  pub place : ℕ
  pub goal : GoalForm
  pub there : slice_get plan.goals place ≡ Some goal
  pub large : 8388608 < goal_size plan goal pairs

abbrev pub IsSizeFault : Plan → ℕ → Fault → Type 0
IsSizeFault plan pairs (fault.Refused r) = (fault.Refused r ≡ refusal 82 (place.Limit 8388608)) × SomeIsLarge plan pairs
IsSizeFault plan pairs fault.Memory = Unit {0}

-- nothing is made
abbrev pub nothing : Generated
nothing = record { answers = []; inputs = []; taken = []; hits = [] }

-- what is made so far
abbrev pub so_far : Making → Generated
so_far m = record { answers = m.answers; inputs = m.inputs; taken = m.taken; hits = hits_of m.measurer }

-- an input that was made for a goal is added, with what its run reads and hits
pub record AddsInput (parts : GraphParts) (f : Function) (p : Predicates) (plan : Plan) (bounds : Bounds) (ends : Ends) (goal : GoalForm) (input : Input) (old new : Generated) : Type 0 where
  pub run : Run
  pub made : IsMade parts f p bounds ends input run
  pub hit : Hits plan ends goal (record_of parts input p run)
  pub numbers : List ℕ
  pub hits : AreHits plan ends (record_of parts input p run) numbers
  pub is : new ≡ record {
    answers = old.answers;
    inputs = old.inputs ++ input ∷ [];
    taken = old.taken ++ (record_of parts input p run).taken ∷ [];
    hits = old.hits ++ numbers ∷ [];
  }

-- what trying a goal that no input hits so far comes to, by its answer
abbrev pub Tried : GraphParts → Function → Predicates → Plan → Bounds → Ends → ℕ → ℕ → GoalForm → Generated → Generated → Option (List Shown) → Option (List Shown) → Answer → Type 0
Tried parts f p plan bounds ends budget number goal old new seen_before seen_after (Covered covering) =
    (input : Input) × AddsInput parts f p plan bounds ends goal input old new × (covering ≡ length new.inputs) × (seen_after ≡ seen_before)
Tried parts f p plan bounds ends budget number goal old new seen_before seen_after Missed = ⊥
Tried parts f p plan bounds ends budget number goal old new seen_before seen_after Refuted =
    NoneHits parts f p plan bounds ends goal × (new ≡ old) × (seen_after ≡ seen_before)
Tried parts f p plan bounds ends budget number goal old new seen_before seen_after Undecided =
    (one : Shown) × (one.0 ≡ number) × IsShown parts f p plan bounds ends budget one × (new ≡ old) × (seen_after ≡ seen_also seen_before (one ∷ []))

-- an earlier input hits the goal, or it is tried
abbrev pub IsNext : GraphParts → Function → Predicates → Plan → Bounds → Ends → ℕ → ℕ → GoalForm → Generated → Generated → Option (List Shown) → Option (List Shown) → Answer → Type 0
IsNext parts f p plan bounds ends budget number goal old new seen_before seen_after answer =
    ((covering : ℕ) × (answer ≡ Covered covering) × (first_hit old.hits number ≡ Some covering) × (new ≡ old) × (seen_after ≡ seen_before))
    ⊎ ((first_hit old.hits number ≡ None) × Tried parts f p plan bounds ends budget number goal old new seen_before seen_after answer)

-- one goal more is answered
pub record AnswersMore (parts : GraphParts) (f : Function) (p : Predicates) (plan : Plan) (bounds : Bounds) (ends : Ends) (budget : ℕ) (new : Generated) (shown : List Shown) (seen_before seen_after : Option (List Shown)) : Type 0 where
  pub made_for : List ℕ
  pub more : List Shown
  pub answered : AreAnswered parts f p plan bounds ends budget new made_for (shown ++ more)
  pub seen : seen_after ≡ seen_also seen_before more

-- the goals so far are all answered, and the watch was shown those that stay undecided
pub record AllAnswered (parts : GraphParts) (f : Function) (p : Predicates) (plan : Plan) (bounds : Bounds) (ends : Ends) (budget : ℕ) (made : Generated) (seen_before seen_after : Option (List Shown)) : Type 0 where
  pub made_for : List ℕ
  pub shown : List Shown
  pub answered : AreAnswered parts f p plan bounds ends budget made made_for shown
  pub seen : seen_after ≡ seen_also seen_before shown

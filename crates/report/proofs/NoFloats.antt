-- What is printed as JSON has no float.
use Rattle.std.proofs.Common.{◌≡◌, ℕ, ℤ, pos, negsuc, false, List, [], ◌∷◌, map, refl}
use Rattle.std.specs.Prelude.{Option, None, Some}
use Rattle.c_values.specs.declared.kinds.Kind.{Kind}
use Rattle.cfa.specs.declared.parts.GraphParts.{GraphParts}
use Rattle.c_meaning.specs.declared.ends.Ends.{Ends}
use Rattle.c_meaning.specs.declared.ends.Ends.TheVariants as counted
use Rattle.c_meaning.specs.declared.input.Input.{Input}
use Rattle.c_values.specs.Kind.{number_of}
use Rattle.goals.specs.declared.answer.Answer.{Answer}
use Rattle.goals.specs.declared.answer.Answer.TheVariants as answer
use Rattle.goals.specs.declared.plan.Plan.{Plan}
use Rattle.goals.specs.GoalForm.{GoalForm}
use Rattle.path_runner.specs.declared.path.RunEnd.{RunEnd}
use Rattle.serde_json.specs.Data.{Data, Members, number}
use Rattle.serde_json.specs.Find.{of_integer}
use Rattle.serde_json.specs.View.{items_of}
use Rattle.serde_json.specs.Written.{has_float, items_have_float, members_have_float}
use Rattle.report.specs.Ends.{end_value, result_kind}
use Rattle.input_text.specs.Printed.{arguments_data, input_data, word_data}
use Rattle.unwinder_reach.specs.declared.reached.bounds.Bounds.{Bounds}
use Rattle.suite_problem.specs.declared.generated.Generated.{Generated}
use Rattle.report.specs.GeneratedJson.{generated_data, inputs_data}
use Rattle.report.specs.Made.{parameter_kinds}
use Rattle.report.specs.Json.{count_data, end_data, goal_data, goals_data, measured_data, value_member, with_ends}
use Rattle.report.specs.Letters.{word_text}

items_no_float : {X : Type 0} (f : X → Data) → ((x : X) → has_float (f x) ≡ false) → (xs : List X) → items_have_float (items_of (map f xs)) ≡ false
items_no_float f none [] = refl
items_no_float f none (x ∷ xs) = rw (none x, items_no_float f none xs) refl

number_no_float : (n : ℤ) → has_float (number (of_integer n)) ≡ false
number_no_float (pos n) = refl
number_no_float (negsuc n) = refl

value_no_float : (value : Option ℤ) → members_have_float (value_member value) ≡ false
value_no_float None = refl
value_no_float (Some n) = rw (number_no_float n) refl

goal_no_float : (said : Answer) (text : List ℕ) → has_float (goal_data said text) ≡ false
goal_no_float (answer.Covered input) text = refl
goal_no_float answer.Missed text = refl
goal_no_float answer.Refuted text = refl
goal_no_float answer.Undecided text = refl

goals_no_float : (graph : GraphParts) (plan : Plan) (answers : List Answer) (goals : List GoalForm) → items_have_float (items_of (goals_data graph plan answers goals)) ≡ false
goals_no_float graph plan [] goals = refl
goals_no_float graph plan (said ∷ answers) [] = refl
goals_no_float graph plan (said ∷ answers) (goal ∷ goals) =
    rw (goal_no_float said (word_text graph plan goal.word), goals_no_float graph plan answers goals) refl

ends_no_float : (ends : Ends) (rest : Members) → members_have_float rest ≡ false → members_have_float (with_ends ends rest) ≡ false
ends_no_float counted.Returned rest none = none
ends_no_float counted.Trapped rest none = none
ends_no_float counted.Any rest none = none

pub measured_no_float : (graph : GraphParts) (plan : Plan) (entry : ℕ) (results : List RunEnd) (answers : List Answer) (kept : List ℕ) (ends : Ends)
    → has_float (measured_data graph plan entry results answers kept ends) ≡ false
measured_no_float graph plan entry results answers kept ends = ends_no_float ends _ (rw (
  goals_no_float graph plan answers plan.goals,
  items_no_float (end_data (result_kind graph entry)) (λ run_end. value_no_float (end_value (result_kind graph entry) run_end)) results,
  items_no_float count_data (λ n. refl) kept,
) refl)

arguments_no_float : (words : List ℕ) (kinds : List Kind) → items_have_float (items_of (arguments_data words kinds)) ≡ false
arguments_no_float [] kinds = refl
arguments_no_float (word ∷ words) [] = refl
arguments_no_float (word ∷ words) (kind ∷ kinds) = rw (number_no_float (number_of kind word), arguments_no_float words kinds) refl

input_no_float : (kinds : List Kind) (input : Input) (taken : List (Kind × ℕ)) → has_float (input_data input kinds taken) ≡ false
input_no_float kinds input taken = rw (
  items_no_float (λ (answer : Kind × ℕ). word_data answer.0 answer.1) (λ answer. number_no_float (number_of answer.0 answer.1)) taken,
  arguments_no_float input.words kinds,
) refl

inputs_no_float : (kinds : List Kind) (inputs : List Input) (taken : List (List (Kind × ℕ))) → items_have_float (items_of (inputs_data kinds inputs taken)) ≡ false
inputs_no_float kinds [] taken = refl
inputs_no_float kinds (input ∷ inputs) [] = refl
inputs_no_float kinds (input ∷ inputs) (answers ∷ taken) = rw (input_no_float kinds input answers, inputs_no_float kinds inputs taken) refl

pub generated_no_float : (graph : GraphParts) (plan : Plan) (entry : ℕ) (made : Generated) (kept : List ℕ)
    (bounds : Bounds) (budget : ℕ) (ends : Ends) → has_float (generated_data graph plan entry made kept bounds budget ends) ≡ false
generated_no_float graph plan entry made kept bounds budget ends = ends_no_float ends _ (rw (
  goals_no_float graph plan made.answers plan.goals,
  inputs_no_float (parameter_kinds graph entry) made.inputs made.taken,
  items_no_float count_data (λ n. refl) kept,
) refl)

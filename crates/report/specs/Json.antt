-- What was measured, as JSON: an object whose keys stand in the order of their bytes, on one line with no spaces.
use Rattle.std.specs.Prelude.{ℕ, ℤ, List, [], ◌∷◌, ◌++◌, Option, None, Some, codes, map, nat_lt, if◌then◌else◌}
use Rattle.std.specs.Str.{is_utf8}
use Rattle.c_values.specs.declared.kinds.Kind.{Kind}
use Rattle.cfa.specs.declared.parts.GraphParts.{GraphParts}
use Rattle.c_meaning.specs.declared.ends.Ends.{Ends}
use Rattle.c_meaning.specs.declared.ends.Ends.TheVariants as counted
use Rattle.goals.specs.declared.answer.Answer.{Answer}
use Rattle.goals.specs.declared.answer.Answer.TheVariants as answer
use Rattle.goals.specs.declared.plan.Plan.{Plan}
use Rattle.goals.specs.GoalForm.{GoalForm}
use Rattle.path_runner.specs.declared.path.RunEnd.{RunEnd}
use Rattle.serde_json.specs.Data.{Data, Members, array, member, no_members, number, object, string, unsigned}
use Rattle.serde_json.specs.Find.{of_integer}
use Rattle.serde_json.specs.View.{items_of}
use Rattle.serde_json.specs.Written.{compact_text}
use Rattle.report.specs.Ends.{end_name, end_value, result_kind}
use Rattle.report.specs.Letters.{word_text}
use Rattle.report.specs.Texts.{covered_count}

-- a byte above 127 as `?`
abbrev pub masked : ℕ → ℕ
masked byte = if nat_lt byte 128 then byte else 63

-- bytes as a text: themselves where they are UTF-8, and else each byte above 127 as `?`
abbrev pub json_text : List ℕ → List ℕ
json_text bytes = if is_utf8 bytes then bytes else map masked bytes

abbrev pub text_data : List ℕ → Data
text_data bytes = string (json_text bytes)

abbrev pub count_data : ℕ → Data
count_data n = number (unsigned n)

-- how a run ended, and the value that it returned where there is one
abbrev pub value_member : Option ℤ → Members
value_member None = no_members
value_member (Some n) = member (codes "value") (number (of_integer n)) no_members

abbrev pub end_data : Option Kind → RunEnd → Data
end_data kind run_end = object (member (codes "end") (string (end_name run_end)) (value_member (end_value kind run_end)))

-- a goal's text, with its answer and the input that covers it
abbrev pub goal_data : Answer → List ℕ → Data
goal_data (answer.Covered input) text =
    object (member (codes "answer") (string (codes "covered"))
    (member (codes "input") (count_data input) (member (codes "text") (text_data text) no_members)))
goal_data answer.Missed text =
    object (member (codes "answer") (string (codes "missed")) (member (codes "text") (text_data text) no_members))
goal_data answer.Refuted text =
    object (member (codes "answer") (string (codes "refuted")) (member (codes "text") (text_data text) no_members))
goal_data answer.Undecided text =
    object (member (codes "answer") (string (codes "undecided")) (member (codes "text") (text_data text) no_members))

-- each goal with its answer
abbrev pub goals_data : GraphParts → Plan → List Answer → List GoalForm → List Data
goals_data graph plan (said ∷ answers) (goal ∷ goals) =
    goal_data said (word_text graph plan goal.word) ∷ goals_data graph plan answers goals
goals_data graph plan _ _ = []

-- before other members, the ends that count, where others than returns do
abbrev pub with_ends : Ends → Members → Members
with_ends counted.Returned rest = rest
with_ends counted.Trapped rest = member (codes "ends") (string (codes "trapped")) rest
with_ends counted.Any rest = member (codes "ends") (string (codes "any")) rest

abbrev pub measured_data : GraphParts → Plan → ℕ → List RunEnd → List Answer → List ℕ → Ends → Data
measured_data graph plan entry results answers kept ends =
    object (member (codes "covered") (count_data (covered_count answers))
    (with_ends ends (member (codes "goals") (array (items_of (goals_data graph plan answers plan.goals)))
    (member (codes "inputs") (array (items_of (map (end_data (result_kind graph entry)) results)))
    (member (codes "suite") (array (items_of (map count_data kept))) no_members)))))

-- the line
abbrev pub measured_json : GraphParts → Plan → ℕ → List RunEnd → List Answer → List ℕ → Ends → List ℕ
measured_json graph plan entry results answers kept ends =
    compact_text (measured_data graph plan entry results answers kept ends) ++ codes "\n"

-- The texts that are printed.
use Rattle.std.specs.Prelude.{ℕ, ◌+◌, Bool, true, false, List, [], ◌∷◌, ◌++◌, codes, count_by, length}
use Rattle.std.specs.Fmt.{decimal}
use Rattle.std.specs.List.{flat_map}
use Rattle.c_values.specs.declared.kinds.Kind.{Kind}
use Rattle.cfa.specs.declared.parts.GraphParts.{GraphParts}
use Rattle.c_meaning.specs.declared.ends.Ends.{Ends}
use Rattle.c_meaning.specs.declared.ends.Ends.TheVariants as counted
use Rattle.goals.specs.declared.answer.Answer.{Answer}
use Rattle.goals.specs.declared.answer.Answer.TheVariants as answer
use Rattle.goals.specs.declared.plan.Plan.{Plan}
use Rattle.goals.specs.GoalForm.{GoalForm}
use Rattle.path_runner.specs.declared.path.RunEnd.{RunEnd}
use Rattle.report.specs.Ends.{end_text, result_kind}
use Rattle.report.specs.Letters.{word_text}
use Rattle.std.specs.Prelude.{Option}

-- each number after a space
abbrev pub spaced : List ℕ → List ℕ
spaced numbers = flat_map (λ number. codes " " ++ decimal number) numbers

-- ---- goals

abbrev pub is_covered : Answer → Bool
is_covered (answer.Covered input) = true
is_covered _ = false

abbrev pub covered_count : List Answer → ℕ
covered_count answers = count_by is_covered answers

-- what is said of a goal
abbrev pub answer_text : Answer → List ℕ
answer_text (answer.Covered input) = codes "covered " ++ decimal input
answer_text answer.Missed = codes "missed"
answer_text answer.Refuted = codes "refuted"
answer_text answer.Undecided = codes "undecided"

abbrev pub goal_line : GraphParts → Plan → ℕ → Answer → GoalForm → List ℕ
goal_line graph plan number said goal =
    codes "goal " ++ decimal number ++ codes " " ++ answer_text said ++ codes " " ++ word_text graph plan goal.word ++ codes "\n"

-- a line for each goal, from this number on, with its answer
abbrev pub goal_lines : GraphParts → Plan → ℕ → List Answer → List GoalForm → List ℕ
goal_lines graph plan number (said ∷ answers) (goal ∷ goals) =
    goal_line graph plan number said goal ++ goal_lines graph plan (number + 1) answers goals
goal_lines graph plan number _ _ = []

-- a line for each goal, from this number on, with no answer
abbrev pub listed_lines : GraphParts → Plan → ℕ → List GoalForm → List ℕ
listed_lines graph plan number [] = []
listed_lines graph plan number (goal ∷ goals) =
    codes "goal " ++ decimal number ++ codes " " ++ word_text graph plan goal.word ++ codes "\n"
    ++ listed_lines graph plan (number + 1) goals

abbrev pub goals_text : GraphParts → Plan → List ℕ
goals_text graph plan = codes "goals " ++ decimal (length plan.goals) ++ codes "\n" ++ listed_lines graph plan 1 plan.goals

-- ---- runs

abbrev pub input_line : Option Kind → ℕ → RunEnd → List ℕ
input_line kind number run_end = codes "input " ++ decimal number ++ codes " " ++ end_text kind run_end ++ codes "\n"

-- a line for each input, from this number on
abbrev pub input_lines : Option Kind → ℕ → List RunEnd → List ℕ
input_lines kind number [] = []
input_lines kind number (run_end ∷ ends) = input_line kind number run_end ++ input_lines kind (number + 1) ends

-- how the runs of inputs from this entry end
abbrev pub inputs_text : GraphParts → ℕ → List RunEnd → List ℕ
inputs_text graph entry ends = input_lines (result_kind graph entry) 1 ends

abbrev pub run_line : Option Kind → ℕ → RunEnd → List ℕ → List ℕ
run_line kind number run_end edges =
    codes "input " ++ decimal number ++ codes " " ++ end_text kind run_end ++ codes " edges" ++ spaced edges ++ codes "\n"

-- a line for each input, from this number on, with the edges that its run takes
abbrev pub run_lines : Option Kind → ℕ → List (RunEnd × List ℕ) → List ℕ
run_lines kind number [] = []
run_lines kind number (run ∷ runs) = run_line kind number run.0 run.1 ++ run_lines kind (number + 1) runs

-- the runs of inputs from this entry
abbrev pub runs_text : GraphParts → ℕ → List (RunEnd × List ℕ) → List ℕ
runs_text graph entry runs = run_lines (result_kind graph entry) 1 runs

-- ---- what was measured

-- the ends that count, where others than returns do
abbrev pub ends_text : Ends → List ℕ
ends_text counted.Returned = []
ends_text counted.Trapped = codes " ends trapped"
ends_text counted.Any = codes " ends any"

abbrev pub head_line : ℕ → ℕ → Ends → List ℕ
head_line goals inputs ends = codes "goals " ++ decimal goals ++ codes " inputs " ++ decimal inputs ++ ends_text ends ++ codes "\n"

abbrev pub suite_line : List ℕ → List ℕ
suite_line kept = codes "suite" ++ spaced kept ++ codes "\n"

abbrev pub total_line : ℕ → ℕ → List ℕ
total_line covered goals = codes "covered " ++ decimal covered ++ codes " of " ++ decimal goals ++ codes "\n"

-- What was measured of the goals of a plan, with inputs to this entry: how each input's run ended; the answer of each goal;
-- the inputs that are kept in the reduced suite; how many goals are covered; the ends that count.
abbrev pub measured_text : GraphParts → Plan → ℕ → List RunEnd → List Answer → List ℕ → Ends → List ℕ
measured_text graph plan entry results answers kept ends =
    head_line (length plan.goals) (length results) ends
    ++ input_lines (result_kind graph entry) 1 results
    ++ goal_lines graph plan 1 answers plan.goals
    ++ suite_line kept
    ++ total_line (covered_count answers) (length plan.goals)

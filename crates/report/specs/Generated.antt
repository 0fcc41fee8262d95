-- The texts of generation.
use Rattle.std.specs.Prelude.{ℕ, Bool, true, false, List, ◌++◌, codes, count_by, length}
use Rattle.std.specs.Fmt.{decimal}
use Rattle.c_meaning.specs.declared.ends.Ends.{Ends}
use Rattle.c_meaning.specs.declared.input.Input.{Input}
use Rattle.c_values.specs.declared.kinds.Kind.{Kind}
use Rattle.cfa.specs.declared.parts.GraphParts.{GraphParts}
use Rattle.goals.specs.declared.answer.Answer.{Answer}
use Rattle.goals.specs.declared.answer.Answer.TheVariants as answer
use Rattle.goals.specs.declared.plan.Plan.{Plan}
use Rattle.unwinder_reach.specs.declared.reached.bounds.Bounds.{Bounds}
use Rattle.suite_problem.specs.declared.generated.Generated.{Generated}
use Rattle.report.specs.Made.{made_lines, made_text, parameter_kinds}
use Rattle.report.specs.Texts.{covered_count, ends_text, goal_lines, suite_line}

abbrev pub is_refuted : Answer → Bool
is_refuted answer.Refuted = true
is_refuted _ = false

abbrev pub is_undecided : Answer → Bool
is_undecided answer.Undecided = true
is_undecided _ = false

abbrev pub refuted_count : List Answer → ℕ
refuted_count answers = count_by is_refuted answers

abbrev pub undecided_count : List Answer → ℕ
undecided_count answers = count_by is_undecided answers

-- how many goals are covered, refuted and undecided
abbrev pub counts_text : List Answer → List ℕ
counts_text answers =
    codes "covered " ++ decimal (covered_count answers) ++ codes " refuted " ++ decimal (refuted_count answers)
    ++ codes " undecided " ++ decimal (undecided_count answers)

-- the bounds of an unwinding: turns of a loop, frames, answers of input functions
abbrev pub bounds_text : Bounds → List ℕ
bounds_text bounds =
    codes " turns " ++ decimal bounds.turns ++ codes " frames " ++ decimal bounds.frames ++ codes " answers " ++ decimal bounds.answers

abbrev pub generated_head : ℕ → Bounds → ℕ → Ends → List ℕ
generated_head goals bounds budget ends =
    codes "goals " ++ decimal goals ++ bounds_text bounds ++ codes " budget " ++ decimal budget ++ ends_text ends
    ++ codes "\n"

abbrev pub generated_total : List Answer → ℕ → List ℕ
generated_total answers goals = counts_text answers ++ codes " of " ++ decimal goals ++ codes "\n"

-- What was found of the goals of a plan by making inputs to this entry: the bounds and the budget of the search, and the
-- ends that count; each input, with the answers that its run takes; the answer of each goal; the inputs that are kept in the
-- reduced suite; how many goals are covered, refuted and undecided.
abbrev pub generated_text : GraphParts → Plan → ℕ → Generated → List ℕ → Bounds → ℕ → Ends → List ℕ
generated_text graph plan entry made kept bounds budget ends =
    generated_head (length plan.goals) bounds budget ends
    ++ made_lines (parameter_kinds graph entry) 1 made.inputs made.taken
    ++ goal_lines graph plan 1 made.answers plan.goals
    ++ suite_line kept
    ++ generated_total made.answers (length plan.goals)

-- ---- one goal

-- a goal is covered by an input to this entry, whose run takes these answers
abbrev pub proved_text : GraphParts → ℕ → ℕ → Input → List (Kind × ℕ) → List ℕ
proved_text graph entry number input taken =
    codes "goal " ++ decimal number ++ codes " covered" ++ made_text (parameter_kinds graph entry) input taken ++ codes "\n"

-- a goal is undecided
abbrev pub undecided_text : ℕ → List ℕ
undecided_text number = codes "goal " ++ decimal number ++ codes " undecided\n"

-- a goal is refuted within these bounds, for runs with these ends
abbrev pub refuted_text : ℕ → Bounds → Ends → List ℕ
refuted_text number bounds ends =
    codes "goal " ++ decimal number ++ codes " refuted" ++ bounds_text bounds ++ ends_text ends ++ codes "\n"

-- ---- samples

-- what was found of the goals of the program that is made from a number
abbrev pub sample_text : ℕ → GraphParts → Plan → List Answer → List ℕ
sample_text number graph plan answers =
    codes "sample " ++ decimal number ++ codes " edges " ++ decimal (length graph.edges) ++ codes " goals " ++ decimal (length plan.goals)
    ++ codes " " ++ counts_text answers ++ codes "\n"

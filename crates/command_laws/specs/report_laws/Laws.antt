-- The answers in the text report of a generation.
use Rattle.std.specs.Prelude.{◌≡◌, ◌==◌, ◌<◌, ◌^◌, ℕ, false, List, ◌++◌, All, Some, codes, length, slice_get}
use Rattle.std.specs.List.{flat_map}
use Rattle.cfa.specs.declared.parts.Function.{Function}
use Rattle.cfa.specs.declared.parts.GraphParts.{GraphParts}
use Rattle.cfa.specs.declared.state.Predicates.{Predicates}
use Rattle.c_meaning.specs.declared.ends.Ends.{Ends}
use Rattle.goals.specs.declared.answer.Answer.{Answer}
use Rattle.goals.specs.declared.answer.Answer.TheVariants as answer
use Rattle.goals.specs.declared.plan.Plan.{Plan}
use Rattle.unwinder_reach.specs.declared.reached.bounds.Bounds.{Bounds}
use Rattle.report.specs.Generated.{generated_head, generated_text}
use Rattle.report.specs.Texts.{goal_lines}
use Rattle.suite.specs.Generated.{IsGenerated, Shown}
use Rattle.suite_problem.specs.declared.generated.Generated.{Generated}

-- no byte of it ends a line
abbrev pub IsInLine : List ℕ → Type 0
IsInLine text = All (λ byte. (byte == 10) ≡ false) text

-- the line of an input, with what stands behind the word
abbrev pub line_of_input : List ℕ → List ℕ
line_of_input rest = codes "input" ++ rest ++ codes "\n"

-- a number of 64 bits names the input that covers a goal
abbrev pub IsSmall : Answer → Type 0
IsSmall (answer.Covered input) = input < 2 ^ 64
IsSmall answer.Missed = Unit {0}
IsSmall answer.Refuted = Unit {0}
IsSmall answer.Undecided = Unit {0}

-- A report, line by line: its first line; lines of inputs, of which nothing more is asked; for each goal of the plan, in order, its line
-- with one of these answers; and the suite's line, with what follows.
pub record HasAnswers (graph : GraphParts) (plan : Plan) (head text : List ℕ) (answers : List Answer) : Type 0 where
  pub inputs : List (List ℕ)
  pub in_lines : All IsInLine inputs
  pub count : length answers ≡ length plan.goals
  pub small : All IsSmall answers
  pub rest : List ℕ
  pub is : text ≡ head ++ flat_map line_of_input inputs ++ goal_lines graph plan 1 answers plan.goals ++ codes "suite" ++ rest

-- The lines of a report of fewer than 2^64 bytes have the answers of the generation, and no others.
abbrev pub AnswersAreRead : Type 0
AnswersAreRead =
    (graph : GraphParts) (entry : ℕ) (f : Function) (p : Predicates) (plan : Plan) (bounds : Bounds) (ends : Ends) (budget : ℕ) (made : Generated) (shown : List Shown) (kept text : List ℕ)
    (answers : List Answer) →
    slice_get graph.functions entry ≡ Some f → IsGenerated graph f p plan bounds ends budget made shown →
    text ≡ generated_text graph plan entry made kept bounds budget ends → length text < 2 ^ 64 →
    HasAnswers graph plan (generated_head (length plan.goals) bounds budget ends) text answers → made.answers ≡ answers

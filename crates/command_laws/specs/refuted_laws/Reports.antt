-- What the report of a generation, with a line of bounds, says of how all runs end.
use Rattle.std.specs.Prelude.{◌≡◌, ◌≢◌, ◌<◌, ◌^◌, ℕ, false, List, [], length, Option, Some, slice_get}
use Rattle.cfa.specs.declared.parts.Function.{Function}
use Rattle.cfa.specs.declared.state.Predicates.{Predicates}
use Rattle.cfa.specs.declared.state.Trap.{Trap}
use Rattle.c_meaning.specs.declared.ends.Ends.TheVariants as counted
use Rattle.c_meaning.specs.declared.input.Input.{Input}
use Rattle.c_meaning.specs.declared.stepped.Stepped.TheVariants.{Returned, Trapped}
use Rattle.goals.specs.GoalForm.{GoalForm}
use Rattle.goals.specs.declared.answer.Answer.{Answer}
use Rattle.goals.specs.declared.answer.Answer.TheVariants.{Refuted}
use Rattle.goals.specs.declared.plan.Plan.{Plan}
use Rattle.report.specs.Generated.{generated_head, generated_text}
use Rattle.measurer_hits.specs.run_laws.Ends.{EndsIn}
use Rattle.suite.specs.Generated.{IsGenerated, Shown}
use Rattle.suite_reduction.specs.Suite.{kept_of}
use Rattle.suite_problem.specs.declared.generated.Generated.{Generated}
use Rattle.unwinder.specs.Lists.{IsInputFor}
use Rattle.bounds_check_laws.specs.asked_ends.Laws.{asking_for_ends}
use Rattle.bounds_check_laws.specs.ending_laws.Asking.{AsksFor}
use Rattle.bounds_check_laws.specs.ending_laws.Ends.{EndsSoon}
use Rattle.command_laws.specs.report_laws.Laws.{HasAnswers}
use Rattle.command_words.specs.Request.{generate, Generating}
use Rattle.command.specs.Due.{IsDueOf}
use Rattle.command.specs.Queries.{IsPlanned}
use Rattle.command.specs.Ranges.{within}
use Rattle.command.specs.Reads.{Reads}
use Rattle.command.specs.Said.{Said}
use Rattle.command_laws.specs.printed_laws.Bounds.{SaysSuffice}
use Rattle.command_laws.specs.printed_laws.Named.{NamedEntry}
use Rattle.command_laws.specs.refuted_laws.Laws.{HoldTheSame}

-- ---- reports

-- The text report of a generation is written: the sources have an automaton, the query has this plan over it, and each answer is true of
-- the inputs that were made.
pub record WritesReport (r : Reads) (m : Generating) (said : Said) : Type 0 where
  pub of : NamedEntry r m.sources m.entry
  pub predicates : Predicates
  pub plan : Plan
  pub planned : IsPlanned of.graph m.query predicates plan
  pub made : Generated
  pub shown : List Shown
  pub generated : IsGenerated of.graph of.entry.function predicates plan (within m.bounds) m.ends m.budget made shown
  pub written : said.out ≡ generated_text of.graph plan of.entry.number made (kept_of made.hits) (within m.bounds) m.budget m.ends

-- so it is of what is due of `generate` without `--json`, where something is written
abbrev pub ReportsAreTrue : Type 0
ReportsAreTrue = (r : Reads) (m : Generating) (said : Said) → m.json ≡ false → IsDueOf r (generate m) said → said.out ≢ [] → WritesReport r m said

-- ---- ends

-- each goal of the plan, but one of the exit of the function, is among these answers as refuted
abbrev pub OtherGoalsAreRefuted : Function → Plan → List Answer → Type 0
OtherGoalsAreRefuted f plan answers = (place : ℕ) (goal : GoalForm) → slice_get plan.goals place ≡ Some goal → ¬ AsksFor f.exit goal → slice_get answers place ≡ Some Refuted

-- The query of a report is `cover NODES(ID)$`, its lines say of each goal but that of the entry's exit that it is refuted, and a line of
-- the same entry, sources and bounds says that these suffice.
pub record RefutesOtherEnds (before after : Reads) (m : Generating) (said other : Said) : Type 0 where
  pub report : WritesReport before m said
  pub short : length said.out < 2 ^ 64
  pub answers : List Answer
  pub lines : HasAnswers report.of.graph report.plan (generated_head (length report.plan.goals) (within m.bounds) m.budget m.ends) said.out answers
  pub query : m.query ≡ asking_for_ends
  pub others : OtherGoalsAreRefuted report.of.entry.function report.plan answers
  pub same : HoldTheSame before after m.sources
  pub suffices : SaysSuffice after m.sources m.entry (within m.bounds) other

-- with traps counted, no input at all ends in a trap then
abbrev pub ReportsRefuteTraps : Type 0
ReportsRefuteTraps =
    (before after : Reads) (m : Generating) (said other : Said) (h : RefutesOtherEnds before after m said other) → m.ends ≡ counted.Trapped →
    (input : Input) → IsInputFor h.report.of.entry.function input → (trap : Trap) → ¬ EndsIn h.report.of.graph h.report.of.entry.function input (Trapped trap)

-- with any end counted, every input returns then, after fewer than 50,000 edges
abbrev pub ReportsLetReturn : Type 0
ReportsLetReturn =
    (before after : Reads) (m : Generating) (said other : Said) (h : RefutesOtherEnds before after m said other) → m.ends ≡ counted.Any →
    (input : Input) → IsInputFor h.report.of.entry.function input → (value : Option ℕ) × EndsSoon h.report.of.graph h.report.of.entry.function input 50000 (Returned value)

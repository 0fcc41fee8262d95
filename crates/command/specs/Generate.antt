-- What is due of making inputs that cover the goals of a query.
use Rattle.std.specs.Prelude.{◌≡◌, ◌⊎◌, ℕ, Bool, List, [], Some, slice_get, if◌then◌else◌}
use Rattle.std.specs.List.{list_any}
use Rattle.fq_core.specs.declared.refusal.Fault.TheVariants as fault
use Rattle.fq_core.specs.declared.refusal.Refusal.{Refusal}
use Rattle.cfa.specs.declared.parts.Function.{Function}
use Rattle.cfa.specs.declared.parts.GraphParts.{GraphParts}
use Rattle.cfa.specs.declared.state.Predicates.{Predicates}
use Rattle.c_meaning.specs.declared.ends.Ends.{Ends}
use Rattle.goals.specs.GoalForm.{GoalForm}
use Rattle.goals.specs.declared.answer.Answer.{Answer}
use Rattle.goals.specs.declared.answer.Answer.TheVariants.{Undecided}
use Rattle.goals.specs.declared.plan.Plan.{Plan}
use Rattle.unwinder_reach.specs.declared.reached.bounds.Bounds.{Bounds}
use Rattle.report.specs.Generated.{generated_text, is_undecided}
use Rattle.report.specs.GeneratedJson.{generated_json}
use Rattle.suite.specs.Generated.{IsGenerateFault, IsGenerated, Shown}
use Rattle.suite.specs.Made.{FallsShort}
use Rattle.suite_reduction.specs.Suite.{kept_of}
use Rattle.suite_problem.specs.declared.generated.Generated.{Generated}
use Rattle.command_words.specs.Reading.{Text}
use Rattle.command_words.specs.Request.{Generating}
use Rattle.command.specs.Ranges.{within}
use Rattle.command.specs.Runs.{EntryFunction}
use Rattle.command.specs.Said.{Said, status_with}
use Rattle.command.specs.Stages.{OfEntry, OfQuery, Says}

-- some goal stays undecided
abbrev pub is_open : List Answer → Bool
is_open answers = list_any is_undecided answers

-- a text is said of what was made, and the watch is shown this; it is left open where some goal stays undecided
abbrev pub concluded : Generated → List ℕ → List Shown → Said
concluded made text shown = record { status = Some (status_with (is_open made.answers)); out = text; err = []; shown = shown }

-- A goal stays undecided only where the budget is below 3 to the most variables of a formula for it.
abbrev pub IsOpenWhereShort : GraphParts → Function → Predicates → Plan → Bounds → ℕ → Generated → Type 0
IsOpenWhereShort graph f p plan bounds budget made =
    (place : ℕ) (goal : GoalForm) → slice_get plan.goals place ≡ Some goal → slice_get made.answers place ≡ Some Undecided
    → FallsShort graph f p plan bounds goal budget

-- Inputs are made for the goals of a plan, each answer being true (`IsGenerated`) and open only where the budget falls short, and
-- a text of them is said; or the pairs of node and context that are reached within the bounds, their size or that of some goal
-- are too many.
abbrev pub IsGeneration : List Text → GraphParts → EntryFunction → Predicates → Plan → Bounds → Ends → ℕ → (Generated → List ℕ) → Said → Type 0
IsGeneration names graph entry p plan bounds ends budget text said =
    Says names (λ (refusal : Refusal). IsGenerateFault graph entry.function p plan bounds ends (fault.Refused refusal)) said
    ⊎ ((made : Generated) × ((shown : List Shown) × IsGenerated graph entry.function p plan bounds ends budget made shown
    × IsOpenWhereShort graph entry.function p plan bounds budget made × (said ≡ concluded made (text made) shown)))

-- The report: the inputs that were made, the answer of each goal, and the reduced suite, with the bounds, the budget and the ends.
abbrev pub generated_report : GraphParts → ℕ → Plan → Bounds → Ends → ℕ → Bool → Generated → List ℕ
generated_report graph entry plan bounds ends budget json made =
    if json
    then generated_json graph plan entry made (kept_of made.hits) bounds budget ends
    else generated_text graph plan entry made (kept_of made.hits) bounds budget ends

-- what is due of `generate`, by the sources' automaton
abbrev pub IsDueOfGenerate : Generating → GraphParts → Said → Type 0
IsDueOfGenerate m graph said =
    OfEntry graph m.entry (λ entry. OfQuery m.sources graph m.query (λ p plan.
    IsGeneration m.sources graph entry p plan (within m.bounds) m.ends m.budget
    (generated_report graph entry.number plan (within m.bounds) m.ends m.budget m.json))) said

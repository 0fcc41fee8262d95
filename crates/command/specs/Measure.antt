-- What is measured: which goals of a plan the runs of inputs hit.
--
-- `hits` lists, for each input in order, the goals that its run hits. A run that wasn't over within the step limit, or whose
-- end the ends don't count, hits none. Goals and inputs are numbered from 1.
use Rattle.std.specs.Prelude.{◌≡◌, ℕ, Bool, List, length, map, if◌then◌else◌}
use Rattle.std.specs.List.{AllZip, range_with_len}
use Rattle.std.specs.Option.{option_map_or}
use Rattle.cfa.specs.declared.parts.GraphParts.{GraphParts}
use Rattle.cfa.specs.declared.state.Predicates.{Predicates}
use Rattle.c_meaning.specs.declared.ends.Ends.{Ends}
use Rattle.c_meaning.specs.declared.input.Input.{Input}
use Rattle.path_runner.specs.declared.path.PathRecord.{PathRecord}
use Rattle.goals.specs.declared.answer.Answer.{Answer}
use Rattle.goals.specs.declared.answer.Answer.TheVariants as answer
use Rattle.goals.specs.declared.plan.Plan.{Plan}
use Rattle.measurer_hits.specs.hits.Hits.{AreHits}
use Rattle.measurer.specs.Firsts.{first_hit}
use Rattle.suite_reduction.specs.Suite.{kept_of}
use Rattle.report.specs.Json.{measured_json}
use Rattle.report.specs.Texts.{measured_text}
use Rattle.command.specs.Runs.{EntryFunction, ends_of, runs_of}
use Rattle.command.specs.Said.{Said, answered}

-- each of these lists has the numbers of exactly the goals that the run beside it hits
abbrev pub AreAllHits : Plan → Ends → List PathRecord → List (List ℕ) → Type 0
AreAllHits plan ends runs hits = AllZip (AreHits plan ends) runs hits

-- a goal is covered by the first input that hits it, and missed where none does
abbrev pub answer_of : List (List ℕ) → ℕ → Answer
answer_of hits goal = option_map_or answer.Covered (first_hit hits goal) answer.Missed

-- the answers of so many goals, in order
abbrev pub answers_of : List (List ℕ) → ℕ → List Answer
answers_of hits count = map (answer_of hits) (range_with_len 1 count)

-- the report: how each run ends, the answer of each goal, and a reduced suite
abbrev pub report_of : GraphParts → ℕ → Plan → Ends → Bool → List PathRecord → List (List ℕ) → List ℕ
report_of graph entry plan ends json runs hits =
    if json then measured_json graph plan entry (ends_of runs) (answers_of hits (length plan.goals)) (kept_of hits) ends
    else measured_text graph plan entry (ends_of runs) (answers_of hits (length plan.goals)) (kept_of hits) ends

-- the report of measuring these inputs is said, each run being cut after so many edges, where these ends count
abbrev pub IsMeasured : GraphParts → EntryFunction → Predicates → Plan → Ends → ℕ → Bool → List Input → Said → Type 0
IsMeasured graph entry p plan ends steps json inputs said =
    (hits : List (List ℕ)) × AreAllHits plan ends (runs_of graph entry.function p steps inputs) hits
    × (said ≡ answered (report_of graph entry.number plan ends json (runs_of graph entry.function p steps inputs) hits))

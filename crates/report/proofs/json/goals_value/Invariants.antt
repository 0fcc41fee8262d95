use Rattle.std.proofs.Common.{◌≡◌, ◌++◌, drop, map}
use Rattle.serde_json.specs.View.{view}
use Rattle.report.specs.Json.{goals_data}
use Rattle.report.proofs.json.goals_value.Given as goal

abbrev pub invariant-loop-place : goal.invariant-loop-place
invariant-loop-place l =
    map view l.values.items ++ goals_data l.graph l.plan (drop l.place l.answers) (drop l.place l.goals)
    ≡ goals_data l.graph l.plan l.answers l.goals

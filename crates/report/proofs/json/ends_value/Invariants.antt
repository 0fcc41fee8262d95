use Rattle.std.proofs.Common.{◌≡◌, ◌++◌, drop, map}
use Rattle.serde_json.specs.View.{view}
use Rattle.report.specs.Json.{end_data}
use Rattle.report.proofs.json.ends_value.Given as goal

abbrev pub invariant-loop-end : goal.invariant-loop-end
invariant-loop-end l =
    map view l.values.items ++ map (end_data l.kind) (drop l.end-index l.ends) ≡ map (end_data l.kind) l.ends

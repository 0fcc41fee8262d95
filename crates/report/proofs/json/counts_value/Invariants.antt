use Rattle.std.proofs.Common.{◌≡◌, ◌++◌, drop, map}
use Rattle.serde_json.specs.View.{view}
use Rattle.report.specs.Json.{count_data}
use Rattle.report.proofs.json.counts_value.Given as goal

abbrev pub invariant-loop-count : goal.invariant-loop-count
invariant-loop-count l =
    map view l.values.items ++ map count_data (drop l.count-index l.counts) ≡ map count_data l.counts

use Rattle.std.proofs.Common.{◌≡◌, ◌++◌, drop, map}
use Rattle.serde_json.specs.View.{view}
use Rattle.report.specs.GeneratedJson.{inputs_data}
use Rattle.report.proofs.generated_values.inputs_value.Given as goal

abbrev pub invariant-loop-place : goal.invariant-loop-place
invariant-loop-place l =
    map view l.values.items ++ inputs_data l.kinds (drop l.place l.inputs) (drop l.place l.taken) ≡ inputs_data l.kinds l.inputs l.taken

use Rattle.std.proofs.Common.{◌≡◌, ◌++◌, drop, map}
use Rattle.serde_json.specs.View.{view}
use Rattle.input_text.specs.Printed.{arguments_data}
use Rattle.input_text.proofs.printed.arguments.Given as goal

abbrev pub invariant-loop-place : goal.invariant-loop-place
invariant-loop-place l = map view l.values.items ++ arguments_data (drop l.place l.words) (drop l.place l.kinds) ≡ arguments_data l.words l.kinds

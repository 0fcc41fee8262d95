use Rattle.std.proofs.Common.{◌≡◌, ◌++◌, drop}
use Rattle.std.specs.List.{flat_map}
use Rattle.trace_file.specs.Written.{spaced_value}
use Rattle.trace_file.proofs.written.push_values.Given as goal

abbrev pub invariant-loop-value : goal.invariant-loop-value
invariant-loop-value l =
    l.text.items ++ flat_map (λ value. spaced_value value.0 value.1) (drop l.value-index l.values)
    ≡ l.initial.text.items ++ flat_map (λ value. spaced_value value.0 value.1) l.values

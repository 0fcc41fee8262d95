use Rattle.std.proofs.Common.{◌≡◌, ◌+◌, ◌≤◌, drop, vec_len}
use Rattle.serde_json.specs.View.{items_view}
use Rattle.input_text.specs.Json.{object_parts}
use Rattle.input_text.specs.Outcome.{after, most_inputs, numbered}
use Rattle.input_text.proofs.json.inputs_in_array.Given as goal

abbrev pub invariant-loop-value : goal.invariant-loop-value
invariant-loop-value l = record {
  so_far : numbered 1 (object_parts l.parameters (items_view l.values))
      ≡ after l.inputs.items (numbered (vec_len l.inputs + 1) (object_parts l.parameters (items_view (drop l.value-index l.values))));
  few : vec_len l.inputs ≤ most_inputs;
}

use Rattle.std.proofs.Common.{◌≡◌, ◌+◌, ◌≤◌, length, vec_len}
use Rattle.std.specs.Prelude.{◌==◌}
use Rattle.std.specs.Option.{option_map_or}
use Rattle.input_text.specs.Lines.{line_parts, parts_of_lines}
use Rattle.input_text.specs.Outcome.{after, most_inputs, numbered}
use Rattle.input_text.proofs.LineLaws.{parts_left}
use Rattle.input_text.proofs.lines.inputs_in_lines.Given as goal

abbrev pub invariant-loop-left : goal.invariant-loop-left
invariant-loop-left l = record {
  so_far : numbered 1 (line_parts l.parameters l.bytes)
      ≡ after l.inputs.items (numbered (vec_len l.inputs + 1) (parts_of_lines l.parameters (parts_left (λ byte. byte == 10) l.left)));
  few : vec_len l.inputs ≤ most_inputs;
}

abbrev pub decreases-loop-left : goal.decreases-loop-left
decreases-loop-left l = option_map_or (λ text. length text.now + 1) l.left 0

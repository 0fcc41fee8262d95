use Rattle.std.proofs.Common.{◌≡◌, ◌+◌, ◌++◌, length, map}
use Rattle.std.specs.Prelude.{◌==◌}
use Rattle.std.specs.Option.{option_map_or}
use Rattle.input_text.proofs.LineLaws.{parts_left}
use Rattle.trace_file.specs.Form.{parts_of}
use Rattle.trace_file.proofs.parts.parts_of.Given as goal

abbrev pub invariant-loop-left : goal.invariant-loop-left
invariant-loop-left l = map (λ part. part.now) l.parts.items ++ parts_left (λ byte. byte == 32) l.left ≡ parts_of l.line

abbrev pub decreases-loop-left : goal.decreases-loop-left
decreases-loop-left l = option_map_or (λ text. length text.now + 1) l.left 0

use Rattle.std.proofs.Common.{◌≡◌, ◌+◌, ◌++◌, length, map}
use Rattle.std.specs.Option.{option_map_or}
use Rattle.input_text.specs.Lines.{filled, is_blank, texts_in}
use Rattle.input_text.proofs.LineLaws.{parts_left}
use Rattle.input_text.proofs.lines.texts.Given as goal

abbrev pub invariant-loop-left : goal.invariant-loop-left
invariant-loop-left l = map (λ text. text.now) l.texts.items ++ filled (parts_left is_blank l.left) ≡ texts_in l.line

abbrev pub decreases-loop-left : goal.decreases-loop-left
decreases-loop-left l = option_map_or (λ text. length text.now + 1) l.left 0

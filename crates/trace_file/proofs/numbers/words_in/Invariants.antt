use Rattle.std.proofs.Common.{◌≡◌, drop, map}
use Rattle.input_text.proofs.LineLaws.{after}
use Rattle.trace_file.specs.Form.{words_in}
use Rattle.trace_file.proofs.numbers.words_in.Given as goal

abbrev pub invariant-loop-text : goal.invariant-loop-text
invariant-loop-text l = words_in (map (λ text. text.now) l.texts) ≡ after l.words (words_in (map (λ text. text.now) (drop l.text-index l.texts)))

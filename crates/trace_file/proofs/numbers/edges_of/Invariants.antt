use Rattle.std.proofs.Common.{◌≡◌, drop, map}
use Rattle.input_text.proofs.LineLaws.{after}
use Rattle.trace_file.specs.Form.{edges_of}
use Rattle.trace_file.proofs.numbers.edges_of.Given as goal

abbrev pub invariant-loop-text : goal.invariant-loop-text
invariant-loop-text l = edges_of (map (λ text. text.now) l.texts) ≡ after l.edges (edges_of (map (λ text. text.now) (drop l.text-index l.texts)))

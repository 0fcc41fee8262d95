use Rattle.std.proofs.Common.{◌≡◌, drop}
use Rattle.std.specs.Prelude.{find}
use Rattle.std.specs.Str.{bytes_eq}
use Rattle.c_parse.specs.Signs.{type_spelling}
use Rattle.c_parse.proofs.sign.type_word_spelled.Given as goal

abbrev pub invariant-loop-word : goal.invariant-loop-word
invariant-loop-word l = find (λ w. bytes_eq (type_spelling w) l.text) (drop l.word-index l.words) ≡ find (λ w. bytes_eq (type_spelling w) l.text) l.words

use Rattle.std.proofs.Common.{◌≡◌, drop}
use Rattle.std.specs.Prelude.{find}
use Rattle.std.specs.Str.{bytes_eq}
use Rattle.c_parse.specs.Signs.{spelling}
use Rattle.c_parse.proofs.sign.symbol_spelled.Given as goal

abbrev pub invariant-loop-symbol : goal.invariant-loop-symbol
invariant-loop-symbol l = find (λ m. bytes_eq (spelling m) l.text) (drop l.symbol-index l.symbols) ≡ find (λ m. bytes_eq (spelling m) l.text) l.symbols

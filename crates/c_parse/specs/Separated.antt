-- One or more forms with commas between them, and a symbol behind the last.
-- Public contracts rest on this.
use Rattle.std.specs.Prelude.{◌≡◌, Bool, true, List, [], ◌∷◌, ◌++◌}
use Rattle.fq_core.specs.declared.span.Span.{Span}
use Rattle.c_parse.specs.declared.sign.Symbol.{Symbol}
use Rattle.c_parse.specs.declared.sign.Symbol.TheVariants as symbols
use Rattle.c_parse.specs.declared.sign.Terminal.{Terminal}
use Rattle.c_parse.specs.Grammar.{symbol}

-- where it is allowed, a comma may stand before the symbol (6.7.2.2, 6.7.9)
pub data DerivesSeparated {Y : Type 0} (One : Y → List Terminal → Type 0) (comma : Bool) (last : Symbol) : List Y → List Terminal → Type 0 where
  the_only : {y : Y} {ts : List Terminal} (q : Span) → One y ts → DerivesSeparated One comma last (y ∷ []) (ts ++ symbol last q ∷ [])
  the_only_with_comma : {y : Y} {ts : List Terminal} (p q : Span) → comma ≡ true → One y ts → DerivesSeparated One comma last (y ∷ []) (ts ++ symbol symbols.Comma p ∷ symbol last q ∷ [])
  and_others : {y : Y} {ys : List Y} {ts us : List Terminal} (q : Span) → One y ts → DerivesSeparated One comma last ys us
      → DerivesSeparated One comma last (y ∷ ys) (ts ++ symbol symbols.Comma q ∷ us)

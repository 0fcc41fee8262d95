-- The numbers among the tokens of texts are values of their kinds, as the law `numbers_are_values` promises.
use Rattle.std.specs.Prelude.{⊤, List, [], ◌∷◌}
use Rattle.c_values.specs.Kind.{IsValue}
use Rattle.c_lex.specs.declared.token.SourceText.{SourceText}
use Rattle.c_lex.specs.declared.token.Token.{Token}
use Rattle.c_lex.specs.declared.token.TokenKind.{TokenKind}
use Rattle.c_lex.specs.declared.token.TokenKind.TheVariants.{Number}
use Rattle.c_lex.specs.Lexed.{Lexed}

-- a number is a value of its kind
abbrev pub HasValue : TokenKind → Type 0
HasValue (Number value kind) = IsValue kind value
HasValue _ = ⊤

abbrev pub HaveValues : List Token → Type 0
HaveValues [] = ⊤
HaveValues (t ∷ ts) = HasValue t.kind × HaveValues ts

abbrev pub NumbersAreValues : Type 0
NumbersAreValues = (texts : List SourceText) (tokens : List Token) → Lexed texts tokens → HaveValues tokens

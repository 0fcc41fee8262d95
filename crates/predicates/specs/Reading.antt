-- The expressions that predicates are read as.
use Rattle.std.specs.Prelude.{ℕ, List, [], ◌∷◌, map}
use Rattle.std.specs.List.{AllZip, Any}
use Rattle.fq_core.specs.declared.refusal.Place.{Place}
use Rattle.c_lex.specs.declared.token.SourceText.{SourceText}
use Rattle.c_lex.specs.declared.token.Token.{Token}
use Rattle.c_lex.specs.Lexed.{Lexed}
use Rattle.c_lex.specs.Lexed as tokens
use Rattle.c_parse.specs.declared.expr.ExprTree.{ExprTree}
use Rattle.c_parse.specs.Expression.{IsExpression, IsRefusedExpression}
use Rattle.c_parse.specs.Signs.{terminal_of}

-- a predicate's text, as the one source of a unit (ISO/IEC 9899:2011, 5.1.1.1)
abbrev pub source_of : List ℕ → List SourceText
source_of text = record { name = []; bytes = text } ∷ []

-- The text is read as this expression: its tokens, with comments and directives gone and macros replaced, are the
-- expression, which has no sequence point.
pub record IsTreeOf (text : List ℕ) (t : ExprTree) : Type 0 where
  pub tokens : List Token
  pub cut : Lexed (source_of text) tokens
  pub spelled : IsExpression (map terminal_of tokens) t

-- The text isn't read: it is refused as a source (codes 10 to 15), or its tokens are refused as an expression (20 to 22).
pub data IsUnread (text : List ℕ) : Type 0 where
  at_tokens : (code : ℕ) (p : Place) → tokens.Refused (source_of text) code p → IsUnread text
  at_expression : (ts : List Token) (code : ℕ) (p : Place) → Lexed (source_of text) ts → IsRefusedExpression (map terminal_of ts) code p → IsUnread text

-- the texts are read as these expressions, in order
abbrev pub AreTreesOf : List (List ℕ) → List ExprTree → Type 0
AreTreesOf texts trees = AllZip IsTreeOf texts trees

-- some text isn't read
abbrev pub HasUnread : List (List ℕ) → Type 0
HasUnread texts = Any IsUnread texts

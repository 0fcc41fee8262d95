-- What the grammar calls a token (ISO/IEC 9899:2011, 5.1.1.2p1, phase 7).
-- Public contracts rest on this.
use Rattle.std.specs.Prelude.{ℕ, if◌then◌else◌, List, [], ◌∷◌, find, Option, Some, None, codes}
use Rattle.std.specs.Str.{bytes_eq}
use Rattle.c_lex.specs.declared.token.Token.{Token}
use Rattle.c_lex.specs.declared.token.TokenKind.{TokenKind}
use Rattle.c_lex.specs.declared.token.TokenKind.TheVariants as kind
use Rattle.c_lex.specs.Constants.{is_among, is_foreign_word, foreign_marks}
use Rattle.c_parse.specs.declared.sign.Symbol.{Symbol}
use Rattle.c_parse.specs.declared.sign.Symbol.TheVariants as symbols
use Rattle.c_parse.specs.declared.sign.TypeWord.{TypeWord}
use Rattle.c_parse.specs.declared.sign.TypeWord.TheVariants as words
use Rattle.c_parse.specs.declared.sign.Sign.{Sign}
use Rattle.c_parse.specs.declared.sign.Sign.TheVariants as sign
use Rattle.c_parse.specs.declared.sign.Terminal.{Terminal}

-- how a punctuator (6.4.6) or a keyword (6.4.1) is spelled
abbrev pub spelling : Symbol → List ℕ
spelling symbols.Open = codes "("
spelling symbols.Close = codes ")"
spelling symbols.OpenIndex = codes "["
spelling symbols.CloseIndex = codes "]"
spelling symbols.OpenBrace = codes "{"
spelling symbols.CloseBrace = codes "}"
spelling symbols.Semicolon = codes ";"
spelling symbols.Comma = codes ","
spelling symbols.Question = codes "?"
spelling symbols.Colon = codes ":"
spelling symbols.Plus = codes "+"
spelling symbols.Minus = codes "-"
spelling symbols.Star = codes "*"
spelling symbols.Slash = codes "/"
spelling symbols.Percent = codes "%"
spelling symbols.Tilde = codes "~"
spelling symbols.Not = codes "!"
spelling symbols.And = codes "&"
spelling symbols.Caret = codes "^"
spelling symbols.Or = codes "|"
spelling symbols.Less = codes "<"
spelling symbols.Greater = codes ">"
spelling symbols.LessEqual = codes "<="
spelling symbols.GreaterEqual = codes ">="
spelling symbols.Equal = codes "=="
spelling symbols.NotEqual = codes "!="
spelling symbols.Shl = codes "<<"
spelling symbols.Shr = codes ">>"
spelling symbols.AndAnd = codes "&&"
spelling symbols.OrOr = codes "||"
spelling symbols.Assign = codes "="
spelling symbols.AddAssign = codes "+="
spelling symbols.SubAssign = codes "-="
spelling symbols.MulAssign = codes "*="
spelling symbols.DivAssign = codes "/="
spelling symbols.RemAssign = codes "%="
spelling symbols.ShlAssign = codes "<<="
spelling symbols.ShrAssign = codes ">>="
spelling symbols.AndAssign = codes "&="
spelling symbols.XorAssign = codes "^="
spelling symbols.OrAssign = codes "|="
spelling symbols.Increment = codes "++"
spelling symbols.Decrement = codes "--"
spelling symbols.Static = codes "static"
spelling symbols.Extern = codes "extern"
spelling symbols.Inline = codes "inline"
spelling symbols.Const = codes "const"
spelling symbols.Enum = codes "enum"
spelling symbols.Void = codes "void"
spelling symbols.If = codes "if"
spelling symbols.Else = codes "else"
spelling symbols.While = codes "while"
spelling symbols.Do = codes "do"
spelling symbols.For = codes "for"
spelling symbols.Switch = codes "switch"
spelling symbols.Case = codes "case"
spelling symbols.Default = codes "default"
spelling symbols.Break = codes "break"
spelling symbols.Continue = codes "continue"
spelling symbols.Return = codes "return"
spelling symbols.Assert = codes "assert"
spelling symbols.Assume = codes "assume"

-- the words that types are made of: type specifiers (6.7.2p1), and names of `<stdint.h>` (7.20.1.1) and `<stddef.h>` (7.19p2)
abbrev pub type_spelling : TypeWord → List ℕ
type_spelling words.Char = codes "char"
type_spelling words.Short = codes "short"
type_spelling words.Int = codes "int"
type_spelling words.Long = codes "long"
type_spelling words.Signed = codes "signed"
type_spelling words.Unsigned = codes "unsigned"
type_spelling words.Int8 = codes "int8_t"
type_spelling words.Int16 = codes "int16_t"
type_spelling words.Int32 = codes "int32_t"
type_spelling words.Int64 = codes "int64_t"
type_spelling words.Uint8 = codes "uint8_t"
type_spelling words.Uint16 = codes "uint16_t"
type_spelling words.Uint32 = codes "uint32_t"
type_spelling words.Uint64 = codes "uint64_t"
type_spelling words.Size = codes "size_t"

abbrev pub punctuators : List Symbol
punctuators =
    symbols.Open ∷ symbols.Close ∷ symbols.OpenIndex ∷ symbols.CloseIndex ∷ symbols.OpenBrace ∷ symbols.CloseBrace ∷ symbols.Semicolon ∷
    symbols.Comma ∷ symbols.Question ∷ symbols.Colon ∷ symbols.Plus ∷ symbols.Minus ∷ symbols.Star ∷ symbols.Slash ∷ symbols.Percent ∷
    symbols.Tilde ∷ symbols.Not ∷ symbols.And ∷ symbols.Caret ∷ symbols.Or ∷ symbols.Less ∷ symbols.Greater ∷ symbols.LessEqual ∷
    symbols.GreaterEqual ∷ symbols.Equal ∷ symbols.NotEqual ∷ symbols.Shl ∷ symbols.Shr ∷ symbols.AndAnd ∷ symbols.OrOr ∷ symbols.Assign ∷
    symbols.AddAssign ∷ symbols.SubAssign ∷ symbols.MulAssign ∷ symbols.DivAssign ∷ symbols.RemAssign ∷ symbols.ShlAssign ∷
    symbols.ShrAssign ∷ symbols.AndAssign ∷ symbols.XorAssign ∷ symbols.OrAssign ∷ symbols.Increment ∷ symbols.Decrement ∷
    []

abbrev pub keywords : List Symbol
keywords =
    symbols.Static ∷ symbols.Extern ∷ symbols.Inline ∷ symbols.Const ∷ symbols.Enum ∷ symbols.Void ∷ symbols.If ∷ symbols.Else ∷
    symbols.While ∷ symbols.Do ∷ symbols.For ∷ symbols.Switch ∷ symbols.Case ∷ symbols.Default ∷ symbols.Break ∷ symbols.Continue ∷
    symbols.Return ∷ symbols.Assert ∷ symbols.Assume ∷ []

abbrev pub type_words : List TypeWord
type_words =
    words.Char ∷ words.Short ∷ words.Int ∷ words.Long ∷ words.Signed ∷ words.Unsigned ∷ words.Int8 ∷ words.Int16 ∷
    words.Int32 ∷ words.Int64 ∷ words.Uint8 ∷ words.Uint16 ∷ words.Uint32 ∷ words.Uint64 ∷ words.Size ∷ []

-- a word of the grammar, a word of a type, a word that the profile leaves out, or a name (6.4.2.1p4)
abbrev pub name_or_foreign : List ℕ → Sign
name_or_foreign text = if is_foreign_word text then sign.Foreign else sign.Name text

abbrev pub type_or_name : Option TypeWord → List ℕ → Sign
type_or_name (Some w) text = sign.Type w
type_or_name None text = name_or_foreign text

abbrev pub keyword_or_other : Option Symbol → List ℕ → Sign
keyword_or_other (Some m) text = sign.Symbol m
keyword_or_other None text = type_or_name (find (λ w. bytes_eq (type_spelling w) text) type_words) text

unfoldable pub word_sign : List ℕ → Sign
word_sign text = keyword_or_other (find (λ m. bytes_eq (spelling m) text) keywords) text

-- a punctuator of the grammar, or one that the profile leaves out
abbrev pub foreign_or_unknown : List ℕ → Sign
foreign_or_unknown text = if is_among foreign_marks text then sign.Foreign else sign.Unknown

abbrev pub punctuator_or_foreign : Option Symbol → List ℕ → Sign
punctuator_or_foreign (Some m) text = sign.Symbol m
punctuator_or_foreign None text = foreign_or_unknown text

unfoldable pub punctuator_sign : List ℕ → Sign
punctuator_sign text = punctuator_or_foreign (find (λ m. bytes_eq (spelling m) text) punctuators) text

abbrev pub sign_of : TokenKind → List ℕ → Sign
sign_of kind.Word text = word_sign text
sign_of (kind.Number value k) text = sign.Number value k
sign_of kind.Mark text = punctuator_sign text
sign_of kind.Foreign text = sign.Foreign

-- a token as the grammar sees it
abbrev pub terminal_of : Token → Terminal
terminal_of t = record { sign = sign_of t.kind t.text; span = t.span }

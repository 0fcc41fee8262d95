-- The tokens of texts, or the first place at which one is refused. What `tokens` promises stands here.
use Rattle.std.specs.Prelude.{◌≡◌, ℕ, ◌+◌, ◌≤◌, ◌<◌, ◌^◌, slice_index_or, Vec, List, [], ◌∷◌, ◌++◌, length, map, drop, Option, Some, None, Result, Ok, Err, ⊤}
use Rattle.std.specs.declared.alloc.Global.{Global}
use Rattle.fq_core.specs.declared.span.Span.{Span}
use Rattle.fq_core.specs.declared.refusal.Place.{Place}
use Rattle.fq_core.specs.declared.refusal.Place.TheVariants as place
use Rattle.fq_core.specs.declared.refusal.Fault.{Fault}
use Rattle.fq_core.specs.declared.refusal.Fault.TheVariants as fault
use Rattle.c_lex.specs.declared.piece.Piece.{Piece}
use Rattle.c_lex.specs.declared.piece.Piece.TheVariants as piece
use Rattle.c_lex.specs.declared.directive.Directive.{Directive}
use Rattle.c_lex.specs.declared.directive.Directive.TheVariants as says
use Rattle.c_lex.specs.declared.macros.Replacement.{Replacement}
use Rattle.c_lex.specs.declared.macros.Macro.{Macro}
use Rattle.c_lex.specs.declared.token.SourceText.{SourceText}
use Rattle.c_lex.specs.declared.token.Token.{Token}
use Rattle.c_lex.specs.declared.token.TokenKind.{TokenKind}
use Rattle.c_lex.specs.Constants.{token_kind}
use Rattle.c_lex.specs.Directives.{directive_of, list_of}
use Rattle.c_lex.specs.Macros.{macro_of, Expands, Loops}
use Rattle.c_lex.specs.Pieces.{part, ArePieces, AreLineTokens}
use Rattle.c_lex.specs.Places.{position_at, span_of}

-- the greatest number of tokens, and that of replacements, over all texts
abbrev pub most : ℕ
most = 200000

abbrev pub IsWithin : (tokens replacements : ℕ) → Type 0
IsWithin tokens replacements = (tokens ≤ most) × (replacements ≤ most)

-- what comes of a text: tokens, and how many tokens and replacements there are by then over all texts; or a refusal
pub data Outcome : Type 0 where
  accepted : List Token → (made replaced : ℕ) → Outcome
  refused : (code : ℕ) → Place → Outcome

-- these tokens, and then what comes of the rest
abbrev pub after : List Token → Outcome → Outcome
after tokens (accepted more made replaced) = accepted (tokens ++ more) made replaced
after tokens (refused code place) = refused code place

-- a token of a macro's list has the place of the macro's use (6.10.3p9)
abbrev pub token_at : Span → Replacement → Token
token_at span r = record { kind = r.kind; span = span; text = r.text }

-- the line of a span, and that of a byte of a text, as the place of a refusal
abbrev pub line_of_span : Span → Place
line_of_span span = place.Source span.file span.line

abbrev pub line_of : (file : ℕ) → List ℕ → ℕ → Place
line_of file text at = place.Source file (position_at text at).line

abbrev pub the_limit : Place
the_limit = place.Limit most

-- ---- what one piece of a text comes to

-- tokens, so many replaced words, and the macros from there on; or a refusal
pub data Effect : Type 0 where
  gives : List Token → (replaced : ℕ) → List Macro → Effect
  stops : (code : ℕ) → Place → Effect

-- a token with these bytes at this span, where these macros are defined and so many tokens were made and so many words
-- replaced before. It is refused if it is a number that is too wide for its kinds; else if a word is met within its own
-- replacement (6.10.3.4p2); else if more tokens or replacements than the limits allow are made.
pub data TokenComesTo (table : List Macro) (bytes : List ℕ) (span : Span) (made replaced : ℕ) : Effect → Type 0 where
  too_wide : token_kind bytes ≡ None → TokenComesTo table bytes span made replaced (stops 13 (line_of_span span))
  loops : {kind : TokenKind} → token_kind bytes ≡ Some kind → Loops table (record { kind = kind; text = bytes } ∷ [])
      → TokenComesTo table bytes span made replaced (stops 14 (line_of_span span))
  too_many : {kind : TokenKind} (us : List Replacement) (m : ℕ) → token_kind bytes ≡ Some kind
      → Expands table (record { kind = kind; text = bytes } ∷ []) us m → (IsWithin (made + length us) (replaced + m) → ⊥)
      → TokenComesTo table bytes span made replaced (stops 15 the_limit)
  expands : {kind : TokenKind} (us : List Replacement) (m : ℕ) → token_kind bytes ≡ Some kind
      → Expands table (record { kind = kind; text = bytes } ∷ []) us m → IsWithin (made + length us) (replaced + m)
      → TokenComesTo table bytes span made replaced (gives (map (token_at span) us) m table)

-- a macro, by the macro that its name has before, and its list, if no number in it is too wide
abbrev pub effect_of_definition : List Macro → (place : Place) → (name : List ℕ) → Option (List Replacement) → Option (List Replacement) → Effect
effect_of_definition table place name (Some before) list = stops 12 place
effect_of_definition table place name None None = stops 13 place
effect_of_definition table place name None (Some list) = gives [] 0 (table ++ record { name = name; list = list } ∷ [])

abbrev pub effect_of_directive : List Macro → (line : List ℕ) → (place : Place) → List Piece → Directive → Effect
effect_of_directive table line place tokens says.Include = gives [] 0 table
effect_of_directive table line place tokens says.UnknownByte = stops 10 place
effect_of_directive table line place tokens says.Wrong = stops 12 place
effect_of_directive table line place tokens (says.Define at n) =
    effect_of_definition table place (part line at n) (macro_of table (part line at n)) (list_of line (drop 2 tokens))

-- a directive line, whose `#` has this place
pub record LineComesTo (table : List Macro) (line : List ℕ) (place : Place) (e : Effect) : Type 0 where
  pub tokens : List Piece
  pub cut : AreLineTokens line tokens
  pub effect : e ≡ effect_of_directive table line place tokens (directive_of line tokens)

-- a piece of a text
abbrev pub ComesTo : (file : ℕ) → (text : List ℕ) → List Macro → (made replaced : ℕ) → Piece → Effect → Type 0
ComesTo file text table made replaced (piece.Gap at n) e = e ≡ gives [] 0 table
ComesTo file text table made replaced (piece.Directive at n) e = LineComesTo table (part text at n) (line_of file text at) e
ComesTo file text table made replaced (piece.Token at n) e = TokenComesTo table (part text at n) (span_of file text at n) made replaced e
ComesTo file text table made replaced (piece.Unknown at) e = e ≡ stops 10 (line_of file text at)
ComesTo file text table made replaced (piece.Open at) e = e ≡ stops 11 (line_of file text at)

-- ---- what comes of texts

-- what comes of pieces of a text, in their order, up to the first that is refused, where these macros are defined and so
-- many tokens were made and so many words replaced before
pub data Reads (file : ℕ) (text : List ℕ) : List Macro → (made replaced : ℕ) → List Piece → Outcome → Type 0 where
  all_read : {table : List Macro} {made replaced : ℕ} → Reads file text table made replaced [] (accepted [] made replaced)
  is_refused : {table : List Macro} {made replaced : ℕ} {ps : List Piece} (p : Piece) (code : ℕ) (place : Place)
      → ComesTo file text table made replaced p (stops code place) → Reads file text table made replaced (p ∷ ps) (refused code place)
  goes_on : {table : List Macro} {made replaced : ℕ} {ps : List Piece} {o : Outcome} (p : Piece) (us : List Token) (m : ℕ) (new : List Macro)
      → ComesTo file text table made replaced p (gives us m new) → Reads file text new (made + length us) (replaced + m) ps o
      → Reads file text table made replaced (p ∷ ps) (after us o)

-- what comes of the pieces of a text. No macro is defined at its begin.
pub record ReadsText (file : ℕ) (text : List ℕ) (made replaced : ℕ) (o : Outcome) : Type 0 where
  pub pieces : List Piece
  pub cut : ArePieces text pieces
  pub read : Reads file text [] made replaced pieces o

-- the texts in turn, up to the first that is refused
pub data ReadsTexts : (file made replaced : ℕ) → List SourceText → Outcome → Type 0 where
  no_text : {file made replaced : ℕ} → ReadsTexts file made replaced [] (accepted [] made replaced)
  refuses : {file made replaced code : ℕ} {place : Place} {t : SourceText} {ts : List SourceText} → ReadsText file t.bytes made replaced (refused code place)
      → ReadsTexts file made replaced (t ∷ ts) (refused code place)
  accepts : {file made replaced m r : ℕ} {us : List Token} {o : Outcome} {t : SourceText} {ts : List SourceText} → ReadsText file t.bytes made replaced (accepted us m r)
      → ReadsTexts (file + 1) m r ts o → ReadsTexts file made replaced (t ∷ ts) (after us o)

-- these are the tokens of the texts
abbrev pub Lexed : List SourceText → List Token → Type 0
Lexed texts tokens = (made replaced : ℕ) × ReadsTexts 0 0 0 texts (accepted tokens made replaced)

-- the texts are refused with this code, at this place
abbrev pub Refused : List SourceText → (code : ℕ) → Place → Type 0
Refused texts code place = ReadsTexts 0 0 0 texts (refused code place)

-- each text has fewer than 2^32 bytes
abbrev pub AreSmall : List SourceText → Type 0
AreSmall texts = (i : ℕ) (d : SourceText) → i < length texts → length (slice_index_or texts i d).bytes < 2 ^ 32

-- the answer on texts: their tokens, or the first refusal, or want of memory
abbrev pub Answers : List SourceText → Result (Vec Token Global) Fault → Type 0
Answers texts (Ok tokens) = Lexed texts tokens.items
Answers texts (Err (fault.Refused r)) = Refused texts r.code r.place
Answers texts (Err fault.Memory) = ⊤

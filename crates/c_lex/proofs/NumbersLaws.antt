-- The numbers among the tokens of texts are values of their kinds.
use Rattle.std.proofs.Common.{◌≡◌, ℕ, Bool, true, false, List, [], ◌∷◌, ◌++◌, drop, map, refl}
use Rattle.std.specs.Prelude.{Option, Some, None, option_map, ⊤, if◌then◌else◌}
use Rattle.std.specs.Str.{bytes_eq}
use Rattle.containers.specs.Lists.{all_there, before}
use Rattle.fq_core.specs.declared.span.Span.{Span}
use Rattle.fq_core.specs.declared.refusal.Place.{Place}
use Rattle.c_lex.specs.declared.directive.Directive.{Directive}
use Rattle.c_lex.specs.declared.directive.Directive.TheVariants as says
use Rattle.c_lex.specs.declared.piece.Piece.{Piece}
use Rattle.c_lex.specs.declared.piece.Piece.TheVariants as piece
use Rattle.c_lex.specs.declared.macros.Replacement.{Replacement}
use Rattle.c_lex.specs.declared.macros.Macro.{Macro}
use Rattle.c_lex.specs.declared.token.Token.{Token}
use Rattle.c_lex.specs.declared.token.TokenKind.{TokenKind}
use Rattle.c_lex.specs.declared.token.SourceText.{SourceText}
use Rattle.c_lex.specs.Constants.{token_kind}
use Rattle.c_lex.specs.Pieces.{part}
use Rattle.c_lex.specs.Directives.{replacement_at, list_of, directive_of}
use Rattle.c_lex.specs.Macros.{macro_of, Expands, nothing, stays, is_replaced}
use Rattle.c_lex.specs.Lexed as lexed
use Rattle.c_lex.specs.Lexed.{Outcome, accepted, refused, after, token_at, Effect, gives, stops, TokenComesTo, LineComesTo, ComesTo, effect_of_definition, effect_of_directive, Reads, ReadsText, ReadsTexts}
use Rattle.c_lex.specs.NumbersOfKinds.{HasValue, HaveValues}
use Rattle.c_lex.proofs.ValuesLaws.{token_has}

abbrev Have : List Replacement → Type 0
Have [] = ⊤
Have (r ∷ rs) = HasValue r.kind × Have rs

abbrev TableHas : List Macro → Type 0
TableHas [] = ⊤
TableHas (m ∷ ms) = Have m.list × TableHas ms

abbrev Gives : Outcome → Type 0
Gives (accepted tokens made replaced) = HaveValues tokens
Gives (refused code place) = ⊤

have_both : (xs ys : List Replacement) → Have xs → Have ys → Have (xs ++ ys)
have_both [] ys h k = k
have_both (x ∷ xs) ys h k = (h.0, have_both xs ys h.1 k)

tokens_have : (span : Span) (rs : List Replacement) → Have rs → HaveValues (map (token_at span) rs)
tokens_have span [] h = tt
tokens_have span (r ∷ rs) h = (h.0, tokens_have span rs h.1)

more_have : (ts us : List Token) → HaveValues ts → HaveValues us → HaveValues (ts ++ us)
more_have [] us h k = k
more_have (t ∷ ts) us h k = (h.0, more_have ts us h.1 k)

after_gives : (ts : List Token) (o : Outcome) → HaveValues ts → Gives o → Gives (after ts o)
after_gives ts (accepted us m r) h k = more_have ts us h k
after_gives ts (refused c p) h k = tt

-- ---- macros

macro_by : (m : Macro) (ms : List Macro) (q : List ℕ) (list : List Replacement) (v : Bool) → TableHas (m ∷ ms) → (macro_of ms q ≡ Some list → Have list) → (if v then Some m.list else macro_of ms q) ≡ Some list → Have list
macro_by m ms q list true all rest h = let s : m.list ≡ list = cc in rw (← s) all.0
macro_by m ms q list false all rest h = rest h

macro_has : (table : List Macro) (q : List ℕ) (list : List Replacement) → TableHas table → macro_of table q ≡ Some list → Have list
unfolding macro_of
macro_has [] q list all h = cc
macro_has (m ∷ ms) q list all h = macro_by m ms q list (bytes_eq m.name q) all (macro_has ms q list all.1) h

expands_has : {table : List Macro} {rs us : List Replacement} {n : ℕ} → TableHas table → Expands table rs us n → Have rs → Have us
expands_has all nothing h = tt
expands_has all (stays e d) h = (h.0, expands_has all d h.1)
expands_has {table = table} all (is_replaced {r = r} {rs = rs} list e d) h = expands_has all d (have_both list rs (macro_has table r.text list all e) h.1)

table_more : (table : List Macro) (m : Macro) → TableHas table → Have m.list → TableHas (table ++ m ∷ [])
table_more [] m all h = (h, tt)
table_more (x ∷ xs) m all h = (all.0, table_more xs m all.1 h)

replacement_by : (text : List ℕ) (k : Option TokenKind) (r : Replacement) → token_kind text ≡ k → option_map (λ kind. record { kind = kind; text = text }) k ≡ Some r → HasValue r.kind
replacement_by text None r e h = cc
replacement_by text (Some kind) r e h = let s : ◌≡◌ {A = Replacement} (record { kind = kind; text = text }) r = cc in rw (← s) (token_has text kind e)

at_has : (line : List ℕ) (p : Piece) (r : Replacement) → replacement_at line p ≡ Some r → HasValue r.kind
at_has line (piece.Gap at n) r h = cc
at_has line (piece.Token at n) r h = replacement_by (part line at n) (token_kind (part line at n)) r refl h
at_has line (piece.Directive at n) r h = cc
at_has line (piece.Unknown at) r h = cc
at_has line (piece.Open at) r h = cc

before_has : (x : Option Replacement) (ys : Option (List Replacement)) (list : List Replacement) → ((r : Replacement) → x ≡ Some r → HasValue r.kind) → ((rs : List Replacement) → ys ≡ Some rs → Have rs) → before x ys ≡ Some list → Have list
before_has None ys list f g h = cc
before_has (Some x) None list f g h = cc
before_has (Some x) (Some ys) list f g h = let s : x ∷ ys ≡ list = cc in rw (← s) (f x refl, g ys refl)

list_has : (line : List ℕ) (ps : List Piece) (list : List Replacement) → list_of line ps ≡ Some list → Have list
unfolding list_of
list_has line [] list h = let s : [] ≡ list = cc in rw (← s) tt
list_has line (p ∷ ps) list h = before_has (replacement_at line p) (all_there (map (replacement_at line) ps)) list (at_has line p) (list_has line ps) h

-- ---- texts

abbrev EffectHas : Effect → Type 0
EffectHas (gives us m table) = HaveValues us × TableHas table
EffectHas (stops code place) = ⊤

module _ (table : List Macro) (all : TableHas table) where
  token_gives : {bytes : List ℕ} {span : Span} {made replaced : ℕ} {e : Effect} → TokenComesTo table bytes span made replaced e → EffectHas e
  token_gives (lexed.too_wide w) = tt
  token_gives (lexed.loops k l) = tt
  token_gives (lexed.too_many us m k x w) = tt
  token_gives {bytes = bytes} {span = span} (lexed.expands {kind = kind} us m k x w) = (tokens_have span us (expands_has all x (token_has bytes kind k, tt)), all)

  defined_gives : (place : Place) (name : List ℕ) (o l : Option (List Replacement)) → ((list : List Replacement) → l ≡ Some list → Have list) → EffectHas (effect_of_definition table place name o l)
  defined_gives place name (Some before) l h = tt
  defined_gives place name None None h = tt
  defined_gives place name None (Some list) h = (tt, table_more table _ all (h list refl))

  directive_gives : (line : List ℕ) (place : Place) (tokens : List Piece) (d : Directive) → EffectHas (effect_of_directive table line place tokens d)
  directive_gives line place tokens says.Include = (tt, all)
  directive_gives line place tokens says.UnknownByte = tt
  directive_gives line place tokens says.Wrong = tt
  directive_gives line place tokens (says.Define at n) = defined_gives place (part line at n) _ _ (list_has line (drop 2 tokens))

  line_gives : {line : List ℕ} {place : Place} {e : Effect} → LineComesTo table line place e → EffectHas e
  line_gives {line = line} {place = place} x = let h = directive_gives line place x.tokens (directive_of line x.tokens) in rw x.effect h

  piece_gives : (file : ℕ) (text : List ℕ) (made replaced : ℕ) (p : Piece) (e : Effect) → ComesTo file text table made replaced p e → EffectHas e
  piece_gives file text made replaced (piece.Gap at n) e x = rw x (tt, all)
  piece_gives file text made replaced (piece.Directive at n) e x = line_gives x
  piece_gives file text made replaced (piece.Token at n) e x = token_gives x
  piece_gives file text made replaced (piece.Unknown at) e x = rw x tt
  piece_gives file text made replaced (piece.Open at) e x = rw x tt

reads_has : {file : ℕ} {text : List ℕ} {table : List Macro} {made replaced : ℕ} {ps : List Piece} {o : Outcome} → TableHas table → Reads file text table made replaced ps o → Gives o
reads_has all lexed.all_read = tt
reads_has all (lexed.is_refused p code place x) = tt
reads_has {file = file} {text = text} {table = table} {made = made} {replaced = replaced} all (lexed.goes_on {o = o} p us m new x d) = let h = piece_gives table all file text made replaced p (gives us m new) x in after_gives us o h.0 (reads_has h.1 d)

texts_have : {file made replaced : ℕ} {texts : List SourceText} {o : Outcome} → ReadsTexts file made replaced texts o → Gives o
texts_have lexed.no_text = tt
texts_have (lexed.refuses x) = tt
texts_have (lexed.accepts {us = us} {o = o} x d) = after_gives us o (reads_has tt x.read) (texts_have d)

pub numbers : (texts : List SourceText) (tokens : List Token) → lexed.Lexed texts tokens → HaveValues tokens
numbers texts tokens l = texts_have l.2

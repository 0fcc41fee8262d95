-- The lines of the tokens of texts.
use Rattle.std.proofs.Common.{◌≡◌, ℕ, ◌+◌, Bool, true, List, [], ◌∷◌, map, Some, None, refl, sym, ap, suc, ◌∙◌, arith}
use Rattle.std.specs.Prelude.{IsTrue, Option, slice_get, ◌==◌}
use Rattle.std.specs.List.{AllByRecursion, list_all}
use Rattle.std.proofs.lemmas.Bool.Decides.{Decides-eqb}
use Rattle.fq_core.specs.declared.span.Span.{Span}
use Rattle.fq_core.specs.declared.refusal.Place.{Place}
use Rattle.c_values.specs.declared.kinds.Kind.{Kind}
use Rattle.c_values.proofs.Fitting.{and_both}
use Rattle.c_lex.specs.declared.directive.Directive.{Directive}
use Rattle.c_lex.specs.declared.directive.Directive.TheVariants as says
use Rattle.c_lex.specs.declared.piece.Piece.{Piece}
use Rattle.c_lex.specs.declared.piece.Piece.TheVariants as piece
use Rattle.c_lex.specs.declared.macros.Macro.{Macro}
use Rattle.c_lex.specs.declared.macros.Replacement.{Replacement}
use Rattle.c_lex.specs.declared.token.SourceText.{SourceText}
use Rattle.c_lex.specs.declared.token.Token.{Token}
use Rattle.c_lex.specs.Directives.{directive_of}
use Rattle.c_lex.specs.Lexed as lexed
use Rattle.c_lex.specs.Lexed.{Lexed, Outcome, accepted, refused, after, Effect, gives, stops, TokenComesTo, LineComesTo, ComesTo, effect_of_definition, effect_of_directive, Reads, ReadsTexts, no_text, refuses, accepts, token_at}
use Rattle.c_lex.specs.Places.{span_of}
use Rattle.c_parse.specs.declared.sign.Sign.{Sign}
use Rattle.c_parse.specs.declared.sign.Sign.TheVariants as sign
use Rattle.c_parse.specs.Signs.{sign_of, terminal_of}
use Rattle.c_types_laws.specs.tree_contents.Contents.{token_passes, sign_passes}
use Rattle.c_types_laws.specs.typing_faults.Laws.{HasItsLine, line_in}
use Rattle.c_types_laws.proofs.typing_faults.Telling.{all_append}

module _ (whole : List SourceText) where
  abbrev pub Stand : List Token → Type 0
  Stand ts = AllByRecursion (λ (t : Token). HasItsLine whole t.span) ts

  abbrev Gives : Outcome → Type 0
  Gives (accepted ts m r) = Stand ts
  Gives (refused code place) = Unit {0}

  after_gives : (ts : List Token) (o : Outcome) → Stand ts → Gives o → Gives (after ts o)
  after_gives ts (accepted us m r) h k = all_append (λ (t : Token). HasItsLine whole t.span) ts us h k
  after_gives ts (refused code place) h k = tt

  -- ---- one text

  module _ (file : ℕ) (text : SourceText) (stands : slice_get whole file ≡ Some text) where
    abbrev EffectStands : Effect → Type 0
    EffectStands (gives ts m table) = Stand ts
    EffectStands (stops code place) = Unit {0}

    its_line : (at n : ℕ) → HasItsLine whole (span_of file text.bytes at n)
    unfolding span_of
    its_line at n = ap (λ (o : Option SourceText). line_in o at) (sym stands)

    spanned : (at n : ℕ) (rs : List Replacement) → Stand (map (token_at (span_of file text.bytes at n)) rs)
    spanned at n [] = tt
    spanned at n (r ∷ rs) = (its_line at n, spanned at n rs)

    token_stands : (table : List Macro) (at n : ℕ) {bytes : List ℕ} {made replaced : ℕ} {e : Effect} → TokenComesTo table bytes (span_of file text.bytes at n) made replaced e → EffectStands e
    token_stands table at n (lexed.too_wide h) = tt
    token_stands table at n (lexed.loops h k) = tt
    token_stands table at n (lexed.too_many us m h k l) = tt
    token_stands table at n (lexed.expands us m h k l) = spanned at n us

    defined_stands : (table : List Macro) (place : Place) (name : List ℕ) (o l : Option (List Replacement)) → EffectStands (effect_of_definition table place name o l)
    defined_stands table place name (Some before) l = tt
    defined_stands table place name None None = tt
    defined_stands table place name None (Some list) = tt

    directive_stands : (table : List Macro) (line : List ℕ) (place : Place) (tokens : List Piece) (d : Directive) → EffectStands (effect_of_directive table line place tokens d)
    directive_stands table line place tokens says.Include = tt
    directive_stands table line place tokens says.UnknownByte = tt
    directive_stands table line place tokens says.Wrong = tt
    directive_stands table line place tokens (says.Define at n) = defined_stands table place _ _ _

    line_stands : (table : List Macro) {line : List ℕ} {place : Place} {e : Effect} → LineComesTo table line place e → EffectStands e
    line_stands table {line = line} {place = place} x = let h = directive_stands table line place x.tokens (directive_of line x.tokens) in rw x.effect h

    piece_stands : (table : List Macro) (made replaced : ℕ) (p : Piece) (e : Effect) → ComesTo file text.bytes table made replaced p e → EffectStands e
    piece_stands table made replaced (piece.Gap at n) e x = rw x tt
    piece_stands table made replaced (piece.Directive at n) e x = line_stands table x
    piece_stands table made replaced (piece.Token at n) e x = token_stands table at n x
    piece_stands table made replaced (piece.Unknown at) e x = rw x tt
    piece_stands table made replaced (piece.Open at) e x = rw x tt

    reads_give : {table : List Macro} {made replaced : ℕ} {ps : List Piece} {o : Outcome} → Reads file text.bytes table made replaced ps o → Gives o
    reads_give lexed.all_read = tt
    reads_give (lexed.is_refused p code place x) = tt
    reads_give {table = table} {made = made} {replaced = replaced} (lexed.goes_on {o = o} p us m new x d) =
        after_gives us o (piece_stands table made replaced p (gives us m new) x) (reads_give d)

  -- ---- all texts

  -- the texts of the whole from a number on
  abbrev From : ℕ → List SourceText → Type 0
  From file ts = (i : ℕ) → slice_get whole (file + i) ≡ slice_get ts i

  first_of : (file : ℕ) (t : SourceText) (ts : List SourceText) → From file (t ∷ ts) → slice_get whole file ≡ Some t
  first_of file t ts h = let same : file ≡ file + 0 = omega arith in ap (slice_get whole) same ∙ h 0

  rest_of : (file : ℕ) (t : SourceText) (ts : List SourceText) → From file (t ∷ ts) → From (file + 1) ts
  rest_of file t ts h i = let same : file + 1 + i ≡ file + suc i = omega arith in ap (slice_get whole) same ∙ h (suc i)

  texts_give : {file made replaced : ℕ} {ts : List SourceText} {o : Outcome} → From file ts → ReadsTexts file made replaced ts o → Gives o
  texts_give h no_text = tt
  texts_give h (refuses x) = tt
  texts_give {file = file} h (accepts {us = us} {o = o} {t = t} {ts = ts} x d) =
      after_gives us o (reads_give file t (first_of file t ts h) x.read) (texts_give (rest_of file t ts h) d)

pub tokens_stand : (texts : List SourceText) (tokens : List Token) → Lexed texts tokens → Stand texts tokens
tokens_stand texts tokens cut = texts_give texts (λ i. (let same : 0 + i ≡ i = omega arith in ap (slice_get texts) same)) cut.2

-- ---- as a test that all tokens pass

abbrev pub any_number : ℕ → Kind → Bool
any_number n kind = true

abbrev pub line_passes : List SourceText → Span → Bool
line_passes texts span = span.line == line_in (slice_get texts span.file) span.start

sign_is_fine : (place : Span → Bool) (s : Sign) → sign_passes any_number place s ≡ true
sign_is_fine place (sign.Number n kind) = refl
sign_is_fine place (sign.Name text) = refl
sign_is_fine place (sign.Type word) = refl
sign_is_fine place (sign.Symbol mark) = refl
sign_is_fine place sign.Foreign = refl
sign_is_fine place sign.Unknown = refl

held : (texts : List SourceText) (ts : List Token) → Stand texts ts → IsTrue (list_all (token_passes any_number (line_passes texts)) (map terminal_of ts))
held texts [] h = refl
held texts (t ∷ ts) h =
    and_both (token_passes any_number (line_passes texts) (terminal_of t)) _
    (and_both (line_passes texts t.span) _ ((Decides-eqb t.span.line (line_in (slice_get texts t.span.file) t.span.start)).1 h.0) (sign_is_fine (line_passes texts) (sign_of t.kind t.text))) (held texts ts h.1)

pub texts_pass : (texts : List SourceText) (tokens : List Token) → Lexed texts tokens → IsTrue (list_all (token_passes any_number (line_passes texts)) (map terminal_of tokens))
texts_pass texts tokens cut = held texts tokens (tokens_stand texts tokens cut)

-- The tokens of texts: their numbers, and the files of their places.
use Rattle.std.proofs.Common.{◌≡◌, ℕ, ◌+◌, ◌<◌, ◌≤◌, Bool, true, false, List, [], ◌∷◌, ◌++◌, Some, None, length, refl, arith}
use Rattle.std.specs.Prelude.{IsTrue, Option, map, nat_lt, cond, ⊤}
use Rattle.std.specs.List.{list_all}
use Rattle.std.proofs.lemmas.Bool.{lt-ltb}
use Rattle.fq_core.specs.declared.span.Span.{Span}
use Rattle.fq_core.specs.declared.refusal.Place.{Place}
use Rattle.c_values.specs.declared.kinds.Kind.{Kind}
use Rattle.c_values.specs.Kind.{is_value}
use Rattle.c_values.proofs.Fitting.{and_both}
use Rattle.c_lex.specs.declared.directive.Directive.{Directive}
use Rattle.c_lex.specs.declared.directive.Directive.TheVariants as says
use Rattle.c_lex.specs.declared.piece.Piece.{Piece}
use Rattle.c_lex.specs.declared.piece.Piece.TheVariants as piece
use Rattle.c_lex.specs.declared.macros.Macro.{Macro}
use Rattle.c_lex.specs.declared.macros.Replacement.{Replacement}
use Rattle.c_lex.specs.declared.token.SourceText.{SourceText}
use Rattle.c_lex.specs.declared.token.Token.{Token}
use Rattle.c_lex.specs.declared.token.TokenKind.{TokenKind}
use Rattle.c_lex.specs.declared.token.TokenKind.TheVariants as kind
use Rattle.c_lex.specs.Directives.{directive_of}
use Rattle.c_lex.specs.Lexed as lexed
use Rattle.c_lex.specs.Lexed.{Lexed, Outcome, accepted, refused, after, Effect, gives, stops, TokenComesTo, LineComesTo, ComesTo, effect_of_definition, effect_of_directive, Reads, ReadsTexts, no_text, refuses, accepts, token_at}
use Rattle.c_lex.specs.NumbersOfKinds.{HasValue, HaveValues}
use Rattle.c_lex.specs.Places.{span_of}
use Rattle.c_lex.proofs.NumbersLaws.{numbers}
use Rattle.c_parse.specs.declared.sign.Symbol.{Symbol}
use Rattle.c_parse.specs.declared.sign.Sign.TheVariants as sign
use Rattle.c_parse.specs.declared.sign.TypeWord.{TypeWord}
use Rattle.c_parse.specs.Signs.{terminal_of, sign_of, word_sign, punctuator_sign, keyword_or_other, type_or_name, punctuator_or_foreign}
use Rattle.c_types_laws.specs.tree_contents.Contents.{token_passes, sign_passes, ExpressionsOfTexts, UnitsOfTexts}
use Rattle.c_types_laws.proofs.tree_contents.Expressions.{choice_passes}
use Rattle.c_types_laws.proofs.tree_contents.Items.{items_pass}

-- ---- what the grammar calls a number is a number

module _ (number : ℕ → Kind → Bool) (place : Span → Bool) where
  foreign_name : (t : Bool) (text : List ℕ) → sign_passes number place (cond t sign.Foreign (sign.Name text)) ≡ true
  foreign_name true text = refl
  foreign_name false text = refl

  named : (o : Option TypeWord) (t : Bool) (text : List ℕ) → sign_passes number place (type_or_name o text) ≡ true
  named (Some w) t text = refl
  named None t text = foreign_name _ text

  keyed : (o : Option Symbol) (text : List ℕ) → sign_passes number place (keyword_or_other o text) ≡ true
  keyed (Some m) text = refl
  keyed None text = named _ true text

  word_passes : (text : List ℕ) → sign_passes number place (word_sign text) ≡ true
  unfolding word_sign
  word_passes text = keyed _ text

  foreign_mark : (t : Bool) → sign_passes number place (cond t sign.Foreign sign.Unknown) ≡ true
  foreign_mark true = refl
  foreign_mark false = refl

  marked : (o : Option Symbol) (text : List ℕ) → sign_passes number place (punctuator_or_foreign o text) ≡ true
  marked (Some m) text = refl
  marked None text = foreign_mark _

  symbol_passes : (text : List ℕ) → sign_passes number place (punctuator_sign text) ≡ true
  unfolding punctuator_sign
  symbol_passes text = marked _ text

valued_sign : (k : TokenKind) (text : List ℕ) (place : Span → Bool) → HasValue k → sign_passes (λ n kind. is_value kind n) place (sign_of k text) ≡ true
valued_sign kind.Word text place h = word_passes (λ n kind. is_value kind n) place text
valued_sign (kind.Number n k) text place h = h
valued_sign kind.Mark text place h = symbol_passes (λ n kind. is_value kind n) place text
valued_sign kind.Foreign text place h = refl

-- ---- files

abbrev Lies : ℕ → ℕ → List Token → Type 0
Lies low high [] = ⊤
Lies low high (t ∷ ts) = (low ≤ t.span.file) × (t.span.file < high) × Lies low high ts

lies_append : (low high : ℕ) (ts us : List Token) → Lies low high ts → Lies low high us → Lies low high (ts ++ us)
lies_append low high [] us h k = k
lies_append low high (t ∷ ts) us h k = (h.0, h.1, lies_append low high ts us h.2 k)

lies_wider : (low high least most : ℕ) (ts : List Token) → least ≤ low → high ≤ most → Lies low high ts → Lies least most ts
lies_wider low high least most [] a b h = tt
lies_wider low high least most (t ∷ ts) a b h = (omega (arith, h.0), omega (arith, h.1), lies_wider low high least most ts a b h.2)

abbrev Gives : ℕ → ℕ → Outcome → Type 0
Gives low high (accepted ts m r) = Lies low high ts
Gives low high (refused code place) = ⊤

after_gives : (low high : ℕ) (ts : List Token) (o : Outcome) → Lies low high ts → Gives low high o → Gives low high (after ts o)
after_gives low high ts (accepted us m r) h k = lies_append low high ts us h k
after_gives low high ts (refused code place) h k = tt

spanned : (file : ℕ) (text : List ℕ) (at n : ℕ) (rs : List Replacement) → Lies file (file + 1) (map (token_at (span_of file text at n)) rs)
unfolding span_of
spanned file text at n [] = tt
spanned file text at n (r ∷ rs) = (omega arith, omega arith, spanned file text at n rs)

abbrev EffectLies : ℕ → Effect → Type 0
EffectLies file (gives ts m table) = Lies file (file + 1) ts
EffectLies file (stops code place) = ⊤

module _ (file : ℕ) (text : List ℕ) (table : List Macro) where
  token_lies : (at n : ℕ) {bytes : List ℕ} {made replaced : ℕ} {e : Effect} → TokenComesTo table bytes (span_of file text at n) made replaced e → EffectLies file e
  token_lies at n (lexed.too_wide h) = tt
  token_lies at n (lexed.loops h k) = tt
  token_lies at n (lexed.too_many us m h k l) = tt
  token_lies at n (lexed.expands us m h k l) = spanned file text at n us

  defined_lies : (place : Place) (name : List ℕ) (o l : Option (List Replacement)) → EffectLies file (effect_of_definition table place name o l)
  defined_lies place name (Some before) l = tt
  defined_lies place name None None = tt
  defined_lies place name None (Some list) = tt

  directive_lies : (line : List ℕ) (place : Place) (tokens : List Piece) (d : Directive) → EffectLies file (effect_of_directive table line place tokens d)
  directive_lies line place tokens says.Include = tt
  directive_lies line place tokens says.UnknownByte = tt
  directive_lies line place tokens says.Wrong = tt
  directive_lies line place tokens (says.Define at n) = defined_lies place _ _ _

  line_lies : {line : List ℕ} {place : Place} {e : Effect} → LineComesTo table line place e → EffectLies file e
  line_lies {line = line} {place = place} x = let h = directive_lies line place x.tokens (directive_of line x.tokens) in rw x.effect h

  piece_lies : (made replaced : ℕ) (p : Piece) (e : Effect) → ComesTo file text table made replaced p e → EffectLies file e
  piece_lies made replaced (piece.Gap at n) e x = rw x tt
  piece_lies made replaced (piece.Directive at n) e x = line_lies x
  piece_lies made replaced (piece.Token at n) e x = token_lies at n x
  piece_lies made replaced (piece.Unknown at) e x = rw x tt
  piece_lies made replaced (piece.Open at) e x = rw x tt

reads_give : {file : ℕ} {text : List ℕ} {table : List Macro} {made replaced : ℕ} {ps : List Piece} {o : Outcome} → Reads file text table made replaced ps o → Gives file (file + 1) o
reads_give lexed.all_read = tt
reads_give (lexed.is_refused p code place x) = tt
reads_give {file = file} {text = text} {table = table} {made = made} {replaced = replaced} (lexed.goes_on {o = o} p us m new x d) =
    after_gives file (file + 1) us o (piece_lies file text table made replaced p (gives us m new) x) (reads_give d)

wider : (low high least most : ℕ) (o : Outcome) → least ≤ low → high ≤ most → Gives low high o → Gives least most o
wider low high least most (accepted ts m r) a b h = lies_wider low high least most ts a b h
wider low high least most (refused code place) a b h = tt

texts_give : {file made replaced : ℕ} {ts : List SourceText} {o : Outcome} → ReadsTexts file made replaced ts o → Gives file (file + length ts) o
texts_give no_text = tt
texts_give (refuses x) = tt
texts_give {file = file} (accepts {us = us} {o = o} {ts = ts} x d) =
    after_gives file _ us o (lies_wider file (file + 1) file _ us (omega arith) (omega arith) (reads_give x.read))
    (wider (file + 1) (file + 1 + length ts) file _ o (omega arith) (omega arith) (texts_give d))

held : (files : ℕ) (ts : List Token) → HaveValues ts → Lies 0 files ts → IsTrue (list_all (token_passes (λ n kind. is_value kind n) (λ place. nat_lt place.file files)) (map terminal_of ts))
held files [] h k = refl
held files (t ∷ ts) h k =
    and_both (token_passes (λ n kind. is_value kind n) (λ place. nat_lt place.file files) (terminal_of t)) _
    (and_both (nat_lt t.span.file files) _ (lt-ltb t.span.file files k.1) (valued_sign t.kind t.text (λ place. nat_lt place.file files) h.0)) (held files ts h.1 k.2)

texts_pass : (texts : List SourceText) (tokens : List Token) → Lexed texts tokens → IsTrue (list_all (token_passes (λ n kind. is_value kind n) (λ place. nat_lt place.file (length texts))) (map terminal_of tokens))
texts_pass texts tokens lexed =
    let lie = lies_wider 0 (0 + length texts) 0 (length texts) tokens (omega arith) (omega arith) (texts_give lexed.2) in
    held (length texts) tokens (numbers texts tokens lexed) lie

pub units_of_texts : UnitsOfTexts
units_of_texts texts tokens items lexed derived =
    items_pass (λ n kind. is_value kind n) (λ place. nat_lt place.file (length texts)) derived (texts_pass texts tokens lexed)

pub expressions_of_texts : ExpressionsOfTexts
expressions_of_texts texts tokens t lexed derived =
    choice_passes (λ n kind. is_value kind n) (λ place. nat_lt place.file (length texts)) derived (texts_pass texts tokens lexed)

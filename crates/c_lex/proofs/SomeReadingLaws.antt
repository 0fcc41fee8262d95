-- Something comes of all texts.
use Rattle.std.proofs.Common.{◌≡◌, ℕ, ◌+◌, inl, inr, Bool, true, false, List, [], ◌∷◌, length, drop, refl, arith}
use Rattle.std.specs.Prelude.{◌⊎◌, Option, Some, None, nat_le}
use Rattle.std.proofs.lemmas.Bool.{leb-true, leb-false}
use Rattle.std.proofs.lemmas.List.{drop_all}
use Rattle.fq_core.specs.declared.span.Span.{Span}
use Rattle.fq_core.specs.declared.refusal.Place.{Place}
use Rattle.c_lex.specs.declared.piece.Allowed.{Allowed}
use Rattle.c_lex.specs.declared.piece.Piece.{Piece}
use Rattle.c_lex.specs.declared.piece.Piece.TheVariants as piece
use Rattle.c_lex.specs.declared.macros.Macro.{Macro}
use Rattle.c_lex.specs.declared.token.SourceText.{SourceText}
use Rattle.c_lex.specs.declared.token.Token.{Token}
use Rattle.c_lex.specs.declared.token.TokenKind.{TokenKind}
use Rattle.c_lex.specs.Constants.{token_kind}
use Rattle.c_lex.specs.Macros.{Ends}
use Rattle.c_lex.specs.Lexed as lexed
use Rattle.c_lex.specs.Lexed.{Outcome, accepted, refused, Effect, gives, stops, TokenComesTo, ComesTo, Reads, ReadsText, ReadsTexts, IsWithin, Lexed, Refused, most}
use Rattle.c_lex.specs.Pieces.{Row, ends, first_piece, part}
use Rattle.c_lex.proofs.LoopingLaws.{loops_or_ends}
use Rattle.c_lex.proofs.Total.{some_row}

nothing_begins : (allowed : Allowed) (at : ℕ) (xs : List ℕ) → xs ≡ [] → first_piece allowed at xs ≡ None
unfolding first_piece
nothing_begins allowed at xs e = rw e refl

-- a text is a row of pieces from any place on, past its end too
any_row : (allowed : List Piece → Allowed) (text : List ℕ) (at : ℕ) (before : List Piece) → (ps : List Piece) × Row allowed text at before ps
any_row allowed text at before = by (nat_le at (length text)) refl
  where
    by : (b : Bool) → nat_le at (length text) ≡ b → (ps : List Piece) × Row allowed text at before ps
    by true e = some_row allowed text at before (leb-true at (length text) e)
    by false e = let beyond = leb-false at (length text) e in ([], ends (nothing_begins (allowed before) at (drop at text) (drop_all at text (omega arith))))

-- two numbers are within the limits or not
decide_within : (tokens replacements : ℕ) → IsWithin tokens replacements ⊎ (IsWithin tokens replacements → ⊥)
decide_within tokens replacements = by (nat_le tokens most) (nat_le replacements most) refl refl
  where
    by : (b c : Bool) → nat_le tokens most ≡ b → nat_le replacements most ≡ c → IsWithin tokens replacements ⊎ (IsWithin tokens replacements → ⊥)
    by true true e f = inl (leb-true tokens most e, leb-true replacements most f)
    by false c e f = inr (λ w. let low = leb-false tokens most e in let high = w.0 in omega arith)
    by true false e f = inr (λ w. let low = leb-false replacements most f in let high = w.1 in omega arith)

-- ---- a piece comes to something

module _ (table : List Macro) (bytes : List ℕ) (span : Span) (made replaced : ℕ) where
  by_end : (kind : TokenKind) → token_kind bytes ≡ Some kind → Ends table (record { kind = kind; text = bytes } ∷ []) → (e : Effect) × TokenComesTo table bytes span made replaced e
  by_end kind k (us, m, d) =
      elim (decide_within (made + length us) (replaced + m)) [
        | inl w ↦ (_, lexed.expands us m k d w)
        | inr w ↦ (_, lexed.too_many us m k d w)
      ]

  by_kind : (o : Option TokenKind) → token_kind bytes ≡ o → (e : Effect) × TokenComesTo table bytes span made replaced e
  by_kind None k = (_, lexed.too_wide k)
  by_kind (Some kind) k =
      elim (loops_or_ends table (record { kind = kind; text = bytes } ∷ [])) [
        | inl l ↦ (_, lexed.loops k l)
        | inr d ↦ by_end kind k d
      ]

module _ (file : ℕ) (text : List ℕ) where
  some_effect : (table : List Macro) (made replaced : ℕ) (p : Piece) → (e : Effect) × ComesTo file text table made replaced p e
  some_effect table made replaced (piece.Gap at n) = (_, refl)
  some_effect table made replaced (piece.Directive at n) =
      let row = any_row _ (part text at n) 1 [] in (_, record { tokens = _; cut = (row.0, row.1, refl); effect = refl })
  some_effect table made replaced (piece.Token at n) = by_kind table (part text at n) _ made replaced (token_kind (part text at n)) refl
  some_effect table made replaced (piece.Unknown at) = (_, refl)
  some_effect table made replaced (piece.Open at) = (_, refl)

  some_reads : (ps : List Piece) (table : List Macro) (made replaced : ℕ) → (o : Outcome) × Reads file text table made replaced ps o
  some_reads [] table made replaced = (_, lexed.all_read)
  some_reads (p ∷ ps) table made replaced = by (some_effect table made replaced p) (some_reads ps)
    where
      by : (e : Effect) × ComesTo file text table made replaced p e → ((t : List Macro) (m n : ℕ) → (o : Outcome) × Reads file text t m n ps o) → (o : Outcome) × Reads file text table made replaced (p ∷ ps) o
      by (stops code place, x) rest = (_, lexed.is_refused p code place x)
      by (gives us m new, x) rest = let r = rest new (made + length us) (replaced + m) in (_, lexed.goes_on p us m new x r.1)

some_text : (file : ℕ) (text : List ℕ) (made replaced : ℕ) → (o : Outcome) × ReadsText file text made replaced o
some_text file text made replaced =
    let row = any_row _ text 0 [] in
    let read = some_reads file text row.0 [] made replaced in
    (read.0, record { pieces = row.0; cut = row.1; read = read.1 })

some_texts : (ts : List SourceText) (file made replaced : ℕ) → (o : Outcome) × ReadsTexts file made replaced ts o
some_texts [] file made replaced = (_, lexed.no_text)
some_texts (t ∷ ts) file made replaced = by (some_text file t.bytes made replaced) (some_texts ts (file + 1))
  where
    by : (o : Outcome) × ReadsText file t.bytes made replaced o → ((m n : ℕ) → (o : Outcome) × ReadsTexts (file + 1) m n ts o)
        → (o : Outcome) × ReadsTexts file made replaced (t ∷ ts) o
    by (refused code place, r) rest = (_, lexed.refuses r)
    by (accepted us m n, r) rest = let more = rest m n in (_, lexed.accepts r more.1)

pub some_reading : (texts : List SourceText) → ((tokens : List Token) × Lexed texts tokens) ⊎ ((code : ℕ) × ((place : Place) × Refused texts code place))
some_reading texts = by (some_texts texts 0 0 0)
  where
    by : (o : Outcome) × ReadsTexts 0 0 0 texts o → ((tokens : List Token) × Lexed texts tokens) ⊎ ((code : ℕ) × ((place : Place) × Refused texts code place))
    by (accepted us m n, r) = inl (us, (m, n, r))
    by (refused code place, r) = inr (code, (place, r))

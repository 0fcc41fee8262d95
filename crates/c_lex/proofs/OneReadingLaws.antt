-- What comes of texts is determined.
use Rattle.std.proofs.Common.{◌≡◌, ℕ, suc, ◌+◌, List, [], ◌∷◌, refl, ap, sym, ◌∙◌}
use Rattle.std.specs.Prelude.{Option, Some}
use Rattle.fq_core.specs.declared.span.Span.{Span}
use Rattle.fq_core.specs.declared.refusal.Place.{Place}
use Rattle.c_lex.specs.declared.piece.Allowed.{Allowed}
use Rattle.c_lex.specs.declared.piece.Piece.{Piece}
use Rattle.c_lex.specs.declared.piece.Piece.TheVariants as piece
use Rattle.c_lex.specs.declared.macros.Replacement.{Replacement}
use Rattle.c_lex.specs.declared.macros.Macro.{Macro}
use Rattle.c_lex.specs.declared.token.TokenKind.{TokenKind}
use Rattle.c_lex.specs.declared.token.SourceText.{SourceText}
use Rattle.c_lex.specs.Constants.{token_kind}
use Rattle.c_lex.specs.Directives.{directive_of}
use Rattle.c_lex.specs.Pieces.{Row, ends, stops, goes_on, AreLineTokens, without_gaps}
use Rattle.c_lex.specs.Macros.{Expands, nothing, stays, is_replaced, Loops, Ends}
use Rattle.c_lex.specs.Lexed as lexed
use Rattle.c_lex.specs.Lexed.{Outcome, accepted, refused, after, token_at, Effect, TokenComesTo, LineComesTo, ComesTo, effect_of_directive, Reads, ReadsText, ReadsTexts, IsWithin}
use Rattle.c_lex.proofs.LoopingLaws.{no_end}

-- ---- one row of pieces

one_row : {allowed : List Piece → Allowed} {text : List ℕ} {at : ℕ} {before ps qs : List Piece} → Row allowed text at before ps → Row allowed text at before qs → ps ≡ qs
one_row (ends e1) (ends e2) = refl
one_row (ends e1) (stops p2 e2 f2) = cc
one_row (ends e1) (goes_on p2 n2 e2 f2 d2) = cc
one_row (stops p1 e1 f1) (ends e2) = cc
one_row (stops p1 e1 f1) (stops p2 e2 f2) = let k : p1 ≡ p2 = cc in ap (λ p. p ∷ []) k
one_row (stops p1 e1 f1) (goes_on p2 n2 e2 f2 d2) = let k : p1 ≡ p2 = cc in cc
one_row (goes_on p1 n1 e1 f1 d1) (ends e2) = cc
one_row (goes_on p1 n1 e1 f1 d1) (stops p2 e2 f2) = let k : p1 ≡ p2 = cc in cc
one_row (goes_on p1 n1 e1 f1 d1) (goes_on p2 n2 e2 f2 d2) = let k : p1 ≡ p2 = cc in let n : n1 ≡ n2 = cc in let s = one_row d1 (rw (← k, ← n) at d2) in cc

-- ---- one expansion

one_expansion : {table : List Macro} {rs us vs : List Replacement} {m n : ℕ} → Expands table rs us m → Expands table rs vs n → (us ≡ vs) × (m ≡ n)
one_expansion nothing nothing = (refl, refl)
one_expansion (stays {r = r} a d) (stays b e) = let p = one_expansion d e in (ap (λ ts. r ∷ ts) p.0, p.1)
one_expansion (stays a d) (is_replaced l b e) = (cc, cc)
one_expansion (is_replaced l b e) (stays a d) = (cc, cc)
one_expansion (is_replaced l a d) (is_replaced k b e) = let s : l ≡ k = cc in let p = one_expansion d (rw (← s) at e) in (p.0, ap suc p.1)

same_kind : (o : Option TokenKind) (k j : TokenKind) → o ≡ Some k → o ≡ Some j → k ≡ j
same_kind o k j a b = cc

same_expands : {table : List Macro} (bytes : List ℕ) {k j : TokenKind} {us : List Replacement} {n : ℕ} → token_kind bytes ≡ Some k → token_kind bytes ≡ Some j → Expands table (record { kind = k; text = bytes } ∷ []) us n
    → Expands table (record { kind = j; text = bytes } ∷ []) us n
same_expands bytes {k = k} {j = j} a b d = let s = same_kind (token_kind bytes) k j a b in rw s at d

same_end : {table : List Macro} (bytes : List ℕ) {k j : TokenKind} → token_kind bytes ≡ Some k → token_kind bytes ≡ Some j → Loops table (record { kind = k; text = bytes } ∷ [])
    → Ends table (record { kind = j; text = bytes } ∷ []) → ⊥
same_end bytes a b l d = no_end _ _ l (d.0, d.1, same_expands bytes b a d.2)

-- ---- one effect of a piece

one_token : {table : List Macro} {bytes : List ℕ} {span : Span} {made replaced : ℕ} {e f : Effect} → TokenComesTo table bytes span made replaced e → TokenComesTo table bytes span made replaced f → e ≡ f
one_token (lexed.too_wide w1) (lexed.too_wide w2) = refl
one_token (lexed.too_wide w1) (lexed.loops k2 l2) = cc
one_token (lexed.too_wide w1) (lexed.too_many us2 m2 k2 x2 b2) = cc
one_token (lexed.too_wide w1) (lexed.expands us2 m2 k2 x2 b2) = cc
one_token (lexed.loops k1 l1) (lexed.too_wide w2) = cc
one_token (lexed.loops k1 l1) (lexed.loops k2 l2) = refl
one_token (lexed.loops k1 l1) (lexed.too_many us2 m2 k2 x2 b2) = absurd (same_end _ k1 k2 l1 (us2, m2, x2))
one_token (lexed.loops k1 l1) (lexed.expands us2 m2 k2 x2 b2) = absurd (same_end _ k1 k2 l1 (us2, m2, x2))
one_token (lexed.too_many us1 m1 k1 x1 b1) (lexed.too_wide w2) = cc
one_token (lexed.too_many us1 m1 k1 x1 b1) (lexed.loops k2 l2) = absurd (same_end _ k2 k1 l2 (us1, m1, x1))
one_token (lexed.too_many us1 m1 k1 x1 b1) (lexed.too_many us2 m2 k2 x2 b2) = refl
one_token (lexed.too_many us1 m1 k1 x1 b1) (lexed.expands us2 m2 k2 x2 b2) = let p = one_expansion x1 (same_expands _ k2 k1 x2) in absurd (b1 (rw (p.0, p.1) b2))
one_token (lexed.expands us1 m1 k1 x1 b1) (lexed.too_wide w2) = cc
one_token (lexed.expands us1 m1 k1 x1 b1) (lexed.loops k2 l2) = absurd (same_end _ k2 k1 l2 (us1, m1, x1))
one_token (lexed.expands us1 m1 k1 x1 b1) (lexed.too_many us2 m2 k2 x2 b2) = let p = one_expansion x1 (same_expands _ k2 k1 x2) in absurd (b2 (rw (← p.0, ← p.1) b1))
one_token (lexed.expands us1 m1 k1 x1 b1) (lexed.expands us2 m2 k2 x2 b2) = let p = one_expansion x1 (same_expands _ k2 k1 x2) in rw (p.0, p.1) refl

one_line_tokens : {line : List ℕ} (ts us : List Piece) → AreLineTokens line ts → AreLineTokens line us → ts ≡ us
one_line_tokens ts us c d = c.2 ∙ ap without_gaps (one_row c.1 d.1) ∙ sym d.2

one_line : {table : List Macro} {line : List ℕ} {place : Place} {e f : Effect} → LineComesTo table line place e → LineComesTo table line place f → e ≡ f
one_line {table = table} {line = line} {place = place} c d =
    c.effect ∙ ap (λ ts. effect_of_directive table line place ts (directive_of line ts)) (one_line_tokens c.tokens d.tokens c.cut d.cut) ∙ sym d.effect

module _ (file : ℕ) (text : List ℕ) where
  one_effect : (table : List Macro) (made replaced : ℕ) (p : Piece) {e f : Effect} → ComesTo file text table made replaced p e → ComesTo file text table made replaced p f → e ≡ f
  one_effect table made replaced (piece.Gap at n) c d = c ∙ sym d
  one_effect table made replaced (piece.Directive at n) c d = one_line c d
  one_effect table made replaced (piece.Token at n) c d = one_token c d
  one_effect table made replaced (piece.Unknown at) c d = c ∙ sym d
  one_effect table made replaced (piece.Open at) c d = c ∙ sym d

  -- ---- one reading of a text

  one_reads : {table : List Macro} {made replaced : ℕ} {ps : List Piece} {o q : Outcome} → Reads file text table made replaced ps o → Reads file text table made replaced ps q → o ≡ q
  one_reads lexed.all_read lexed.all_read = refl
  one_reads {table = table} {made = made} {replaced = replaced} (lexed.is_refused p c1 l1 x1) (lexed.is_refused _ c2 l2 x2) = let s = one_effect table made replaced p x1 x2 in cc
  one_reads {table = table} {made = made} {replaced = replaced} (lexed.is_refused p c1 l1 x1) (lexed.goes_on _ us2 m2 t2 x2 d2) = let s = one_effect table made replaced p x1 x2 in cc
  one_reads {table = table} {made = made} {replaced = replaced} (lexed.goes_on p us1 m1 t1 x1 d1) (lexed.is_refused _ c2 l2 x2) = let s = one_effect table made replaced p x1 x2 in cc
  one_reads {table = table} {made = made} {replaced = replaced} (lexed.goes_on p us1 m1 t1 x1 d1) (lexed.goes_on _ us2 m2 t2 x2 d2) =
      let s = one_effect table made replaced p x1 x2 in
      let a : us1 ≡ us2 = cc in
      let b : m1 ≡ m2 = cc in
      let t : t1 ≡ t2 = cc in
      let q = one_reads d1 (rw (← a, ← b, ← t) at d2) in rw (a, q) refl

one_text : {file : ℕ} {text : List ℕ} {made replaced : ℕ} {o p : Outcome} → ReadsText file text made replaced o → ReadsText file text made replaced p → o ≡ p
one_text r s = let e = one_row r.cut s.cut in one_reads _ _ r.read (rw (← e) at s.read)

pub one_reading : (texts : List SourceText) (file made replaced : ℕ) (o p : Outcome) → ReadsTexts file made replaced texts o → ReadsTexts file made replaced texts p → o ≡ p
one_reading [] file made replaced o p lexed.no_text lexed.no_text = refl
one_reading (t ∷ ts) file made replaced o p (lexed.refuses x) (lexed.refuses y) = one_text x y
one_reading (t ∷ ts) file made replaced o p (lexed.refuses x) (lexed.accepts y e) = let s = one_text x y in cc
one_reading (t ∷ ts) file made replaced o p (lexed.accepts x d) (lexed.refuses y) = let s = one_text x y in cc
one_reading (t ∷ ts) file made replaced o p (lexed.accepts {m = m1} {r = r1} {us = us1} {o = o1} x d) (lexed.accepts {m = m2} {r = r2} {us = us2} {o = o2} y e) =
    let s = one_text x y in
    let a : us1 ≡ us2 = cc in
    let b : m1 ≡ m2 = cc in
    let c : r1 ≡ r2 = cc in
    let q = one_reading ts (file + 1) m1 r1 o1 o2 d (rw (← b, ← c) at e) in
    rw (a, q) refl

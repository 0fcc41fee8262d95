-- Each text is a row of pieces.
use Rattle.std.proofs.Common.{◌≡◌, ℕ, zero, suc, ◌+◌, ◌<◌, ◌≤◌, ◌-◌, List, [], ◌∷◌, ◌++◌, length, length-drop, take, drop, refl, arith, ap, sym, ◌∙◌}
use Rattle.std.proofs.Math.Nat.{sub-zero}
use Rattle.std.specs.Prelude.{Option, Some, None, IfSome}
use Rattle.c_lex.specs.declared.piece.Allowed.{Allowed}
use Rattle.c_lex.specs.declared.piece.Piece.{Piece}
use Rattle.c_lex.specs.declared.piece.Piece.TheVariants.{Gap, Directive, Token, Unknown, Open}
use Rattle.c_lex.specs.declared.position.Position.{Position}
use Rattle.c_lex.specs.Pieces.{Row, ends, stops, goes_on, first_piece, end_of}
use Rattle.c_lex.specs.Places.{after_byte, after_bytes, position_at, first_position}
use Rattle.c_lex.specs.Taking.{LiesAt}
use Rattle.c_lex.proofs.Within.{piece_has}

-- where a piece ends
pub ends_within : (at most : ℕ) (p : Piece) (next : ℕ) → LiesAt at most p → end_of p ≡ Some next → (at < next) × (next ≤ most)
ends_within at most (Gap a n) next h e = let k : a + n ≡ next = cc in (omega (arith, h.0, h.1, k), omega (arith, h.0, h.2, k))
ends_within at most (Directive a n) next h e = let k : a + n ≡ next = cc in (omega (arith, h.0, h.1, k), omega (arith, h.0, h.2, k))
ends_within at most (Token a n) next h e = let k : a + n ≡ next = cc in (omega (arith, h.0, h.1, k), omega (arith, h.0, h.2, k))
ends_within at most (Unknown a) next h e = cc
ends_within at most (Open a) next h e = cc

pub lies_within : (allowed : Allowed) (text : List ℕ) (at : ℕ) → at ≤ length text → IfSome (first_piece allowed at (drop at text)) (LiesAt at (length text))
lies_within allowed text at place = let e : at + length (drop at text) ≡ length text = omega (arith, length-drop at text) in rw e at (piece_has allowed at (drop at text))

module _ (allowed : List Piece → Allowed) (text : List ℕ) where
  abbrev SomeRow : (at : ℕ) → List Piece → Type 0
  SomeRow at before = (ps : List Piece) × Row allowed text at before ps

  module _ (at : ℕ) (before : List Piece) (rest : (next : ℕ) (p : Piece) → at < next → next ≤ length text → SomeRow next (p ∷ before)) where
    row_by : (o : Option Piece) → first_piece (allowed before) at (drop at text) ≡ o → IfSome o (LiesAt at (length text)) → SomeRow at before
    row_by None e h = ([], ends e)
    row_by (Some p) e h = by (end_of p) refl
      where
        by : (o : Option ℕ) → end_of p ≡ o → SomeRow at before
        by None f = (_, stops p e f)
        by (Some next) f = let w = ends_within at (length text) p next h f in let r = rest next p w.0 w.1 in (_, goes_on p next e f r.1)

    row_here : at ≤ length text → SomeRow at before
    row_here place = row_by (first_piece (allowed before) at (drop at text)) refl (lies_within (allowed before) text at place)

  row_within : (fuel : ℕ) (at : ℕ) (before : List Piece) → length text ≤ at + fuel → at ≤ length text → SomeRow at before
  row_within zero at before enough place = row_here at before (λ next p a b. absurd (omega arith)) place
  row_within (suc fuel) at before enough place = row_here at before (λ next p a b. row_within fuel next (p ∷ before) (omega arith) b) place

  pub some_row : (at : ℕ) (before : List Piece) → at ≤ length text → (ps : List Piece) × Row allowed text at before ps
  some_row at before place = row_within (length text) at before (omega arith) place

-- ---- positions

after_both : (p : Position) (xs ys : List ℕ) → after_bytes p (xs ++ ys) ≡ after_bytes (after_bytes p xs) ys
after_both p [] ys = refl
after_both p (x ∷ xs) ys = after_both (after_byte p x) xs ys

take_none : (n : ℕ) → take {A = ℕ} n [] ≡ []
take_none zero = refl
take_none (suc n) = refl

take_both : (text : List ℕ) (at next : ℕ) → at ≤ next → take next text ≡ take at text ++ take (next - at) (drop at text)
take_both text zero next h = rw sub-zero refl
take_both [] (suc at) zero h = absurd (omega arith)
take_both [] (suc at) (suc next) h = sym (take_none (suc next - suc at))
take_both (x ∷ xs) (suc at) zero h = absurd (omega arith)
take_both (x ∷ xs) (suc at) (suc next) h =
    let e : suc next - suc at ≡ next - at = omega arith in rw e (ap (λ ys. x ∷ ys) (take_both xs at next (omega arith)))

pub position_moves : (text : List ℕ) (at next : ℕ) (p : Position) → at ≤ next → p ≡ position_at text at → after_bytes p (take (next - at) (drop at text)) ≡ position_at text next
unfolding position_at
position_moves text at next p h e = rw e (sym (after_both first_position (take at text) (take (next - at) (drop at text))) ∙ ap (after_bytes first_position) (sym (take_both text at next h)))

pub first_place : (text : List ℕ) → first_position ≡ position_at text 0
unfolding position_at
first_place text = refl

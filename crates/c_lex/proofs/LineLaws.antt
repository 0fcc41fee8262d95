-- How far a directive line is read.
use Rattle.std.proofs.Common.{◌≡◌, ℕ, ◌≤◌, Bool, true, false, List, [], ◌∷◌, ◌++◌, length, drop, reverse, refl, arith, ap, sym, ◌∙◌, append-nil, append_assoc}
use Rattle.std.specs.Prelude.{Option, Some, None}
use Rattle.std.proofs.lemmas.List.{reverse-append, length-reverse}
use Rattle.c_lex.specs.declared.piece.Allowed.{Allowed}
use Rattle.c_lex.specs.declared.piece.Piece.{Piece}
use Rattle.c_lex.specs.declared.piece.Piece.TheVariants as piece
use Rattle.c_lex.specs.Pieces.{Row, ends, stops, goes_on, AreLineTokens, add_piece, end_of, first_piece, is_include, without_gaps}
use Rattle.c_lex.specs.Taking.{is_gap}

abbrev pub allowed_in : List ℕ → List Piece → Allowed
allowed_in line before = record { directive = false; header = is_include line (without_gaps before) }

pub record LineSoFar (line : List ℕ) (at : ℕ) (pieces : List Piece) : Type 0 where
  pub before : List Piece
  pub kept : without_gaps before ≡ reverse pieces
  pub rest : (ps : List Piece) → Row (allowed_in line) line at before ps → AreLineTokens line (pieces ++ without_gaps ps)

pub begins : (line : List ℕ) → LineSoFar line 1 []
unfolding without_gaps
begins line = record { before = []; kept = refl; rest = λ ps r. (ps, r, refl) }

two_no_include : (line : List ℕ) (ps : List Piece) → 2 ≤ length ps → is_include line ps ≡ false
unfolding is_include
two_no_include line [] h = absurd (omega arith)
two_no_include line (p ∷ []) h = absurd (omega arith)
two_no_include line (piece.Gap at n ∷ q ∷ ps) h = refl
two_no_include line (piece.Directive at n ∷ q ∷ ps) h = refl
two_no_include line (piece.Token at n ∷ q ∷ ps) h = refl
two_no_include line (piece.Unknown at ∷ q ∷ ps) h = refl
two_no_include line (piece.Open at ∷ q ∷ ps) h = refl

include_reverse : (line : List ℕ) (ps : List Piece) → is_include line (reverse ps) ≡ is_include line ps
include_reverse line [] = refl
include_reverse line (p ∷ []) = refl
include_reverse line (p ∷ q ∷ ps) =
    two_no_include line (reverse (p ∷ q ∷ ps)) (let e = length-reverse (p ∷ q ∷ ps) in omega (arith, e)) ∙ sym (two_no_include line (p ∷ q ∷ ps) (omega arith))

not_a_gap : (p : Piece) (ps : List Piece) → is_gap p ≡ false → add_piece p ps ≡ p ∷ ps
not_a_gap (piece.Gap at n) ps e = cc
not_a_gap (piece.Directive at n) ps e = refl
not_a_gap (piece.Token at n) ps e = refl
not_a_gap (piece.Unknown at) ps e = refl
not_a_gap (piece.Open at) ps e = refl

a_gap : (p : Piece) (ps : List Piece) → is_gap p ≡ true → add_piece p ps ≡ ps
a_gap (piece.Gap at n) ps e = refl
a_gap (piece.Directive at n) ps e = cc
a_gap (piece.Token at n) ps e = cc
a_gap (piece.Unknown at) ps e = cc
a_gap (piece.Open at) ps e = cc

module _ (line : List ℕ) (at : ℕ) (pieces : List Piece) (so : LineSoFar line at pieces) (header : Bool) (due : header ≡ is_include line pieces) where
  abbrev Here : Option Piece → Type 0
  Here o = o ≡ first_piece (record { directive = false; header = header }) at (drop at line)

  at_here : (o : Option Piece) → Here o → first_piece (allowed_in line so.before) at (drop at line) ≡ o
  at_here o e =
      let h : header ≡ is_include line (without_gaps so.before) = due ∙ sym (include_reverse line pieces) ∙ sym (ap (is_include line) so.kept) in
      rw h at (sym e)

  pub line_ends : Here None → AreLineTokens line pieces
  unfolding without_gaps
  line_ends e = let d : AreLineTokens line (pieces ++ []) = so.rest [] (ends (at_here None e)) in rw append-nil at d

  module _ (p : Piece) (here : Here (Some p)) where
    without_more : (ps : List Piece) → without_gaps (p ∷ ps) ≡ add_piece p (without_gaps ps)
    unfolding without_gaps
    without_more ps = refl

    pub past_gap : (next : ℕ) → end_of p ≡ Some next → is_gap p ≡ true → LineSoFar line next pieces
    past_gap next e g = record {
      before = p ∷ so.before;
      kept = without_more so.before ∙ a_gap p (without_gaps so.before) g ∙ so.kept;
      rest = λ ps r. rw (without_more ps ∙ a_gap p (without_gaps ps) g) at (so.rest (p ∷ ps) (goes_on p next (at_here (Some p) here) e r));
    }

    module _ (more : List Piece) (pushed : more ≡ pieces ++ p ∷ []) (g : is_gap p ≡ false) where
      joined : (ps : List Piece) → pieces ++ without_gaps (p ∷ ps) ≡ more ++ without_gaps ps
      joined ps = ap (λ qs. pieces ++ qs) (without_more ps ∙ not_a_gap p (without_gaps ps) g) ∙ sym (append_assoc pieces (p ∷ []) (without_gaps ps)) ∙ ap (λ qs. qs ++ without_gaps ps) (sym pushed)

      pub past_piece : (next : ℕ) → end_of p ≡ Some next → LineSoFar line next more
      past_piece next e = record {
        before = p ∷ so.before;
        kept = without_more so.before ∙ not_a_gap p (without_gaps so.before) g ∙ ap (λ qs. p ∷ qs) so.kept ∙ sym (ap reverse pushed ∙ reverse-append pieces (p ∷ []));
        rest = λ ps r. rw (joined ps) at (so.rest (p ∷ ps) (goes_on p next (at_here (Some p) here) e r));
      }

      pub line_stops : end_of p ≡ None → AreLineTokens line more
      unfolding without_gaps
      line_stops e = let d = rw (joined []) at (so.rest (p ∷ []) (stops p (at_here (Some p) here) e)) in line_nothing more d
        where
          line_nothing : (ms : List Piece) → AreLineTokens line (ms ++ without_gaps []) → AreLineTokens line ms
          line_nothing ms d = rw append-nil at d

    pub gap_stops : end_of p ≡ None → is_gap p ≡ true → ⊥
    gap_stops e g = by p e g
      where
        by : (q : Piece) → end_of q ≡ None → is_gap q ≡ true → ⊥
        by (piece.Gap a n) e g = cc
        by (piece.Directive a n) e g = cc
        by (piece.Token a n) e g = cc
        by (piece.Unknown a) e g = cc
        by (piece.Open a) e g = cc

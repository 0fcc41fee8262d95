-- The piece with which the rest of a text begins has one byte at least, and no more than there are.
use Rattle.std.proofs.Common.{◌≡◌, ℕ, zero, suc, ◌+◌, ◌≤◌, Bool, true, false, List, [], ◌∷◌, length, take, drop, refl, arith}
use Rattle.std.specs.Prelude.{Option, Some, None, if◌then◌else◌, ◌==◌, ◌&&◌, IfSome}
use Rattle.std.specs.List.{prefix_len}
use Rattle.std.proofs.lemmas.Bool.{and_parts, eqb-true}
use Rattle.c_lex.specs.Bytes.{is_blank, is_in_line}
use Rattle.c_lex.specs.Forms.{greatest, longest, is_token_or_header}
use Rattle.c_lex.specs.Pieces.{first_piece, block_comment, closing, starts, token_or_unknown}
use Rattle.c_lex.specs.Taking.{LiesAt}
use Rattle.c_lex.specs.declared.piece.Allowed.{Allowed}
use Rattle.c_lex.specs.declared.piece.Piece.{Piece}
use Rattle.c_lex.specs.declared.piece.Piece.TheVariants.{Gap}
use Rattle.c_lex.proofs.Loops.{closing_within}
use Rattle.c_lex.proofs.Numbers.{prefix_within}

abbrev Has : (at size : ℕ) → Option Piece → Type 0
Has at size o = IfSome o (LiesAt at (at + size))

either : (v : Bool) (x y : Option Piece) (at size : ℕ) → (v ≡ true → Has at size x) → (v ≡ false → Has at size y) → Has at size (if v then x else y)
either true x y at size f g = f refl
either false x y at size f g = g refl

greatest_by : (p : ℕ → Bool) (most : ℕ) (v : Bool) (o : Option ℕ) → IfSome o (λ n. (1 ≤ n) × (n ≤ most)) → IfSome (if v then Some (suc most) else o) (λ n. (1 ≤ n) × (n ≤ suc most))
greatest_by p most true o h = (omega arith, omega arith)
greatest_by p most false None h = tt
greatest_by p most false (Some n) h = (h.0, omega arith)

greatest_within : (p : ℕ → Bool) (most : ℕ) → IfSome (greatest p most) (λ n. (1 ≤ n) × (n ≤ most))
unfolding greatest
greatest_within p zero = tt
greatest_within p (suc most) = greatest_by p most (p (suc most)) (greatest p most) (greatest_within p most)

token_has : (at size : ℕ) (o : Option ℕ) → 1 ≤ size → IfSome o (λ n. (1 ≤ n) × (n ≤ size)) → LiesAt at (at + size) (token_or_unknown at o)
token_has at size None some h = (refl, omega arith)
token_has at size (Some n) some h = (refl, h.0, omega (arith, h.1))

longest_has : (header : Bool) (at b : ℕ) (bs : List ℕ) → LiesAt at (at + length (b ∷ bs)) (token_or_unknown at (longest header (b ∷ bs)))
unfolding longest
longest_has header at b bs = token_has at (length (b ∷ bs)) _ (omega arith) (greatest_within (λ n. is_token_or_header header (take n (b ∷ bs))) (length (b ∷ bs)))

line_some : (b : ℕ) (bs : List ℕ) → is_in_line b ≡ true → 1 ≤ prefix_len is_in_line (b ∷ bs)
line_some b bs h = rw h (omega arith)

line_has : (b : ℕ) (bs : List ℕ) → is_in_line b ≡ true → (1 ≤ prefix_len is_in_line (b ∷ bs)) × (prefix_len is_in_line (b ∷ bs) ≤ length (b ∷ bs))
line_has b bs h = (line_some b bs h, prefix_within is_in_line (b ∷ bs))

in_line_at : (b k : ℕ) → is_in_line k ≡ true → (b == k) ≡ true → is_in_line b ≡ true
in_line_at b k h e = rw (eqb-true b k e) h

comment_by : (at size : ℕ) (o : Option ℕ) → 1 ≤ size → IfSome o (λ n. 2 + n ≤ size) → LiesAt at (at + size) (block_comment at o)
comment_by at size None some h = (refl, omega arith)
comment_by at size (Some n) some h = (refl, omega arith, omega (arith, h))

comment_fits : (b : ℕ) (bs : List ℕ) (o : Option ℕ) → closing (drop 1 bs) ≡ o → starts 42 bs ≡ true → IfSome o (λ n. 2 + n ≤ length (b ∷ bs))
comment_fits b bs None e s = tt
comment_fits b [] (Some n) e s = cc
comment_fits b (c ∷ cs) (Some n) e s = omega (arith, closing_within cs n e)

comment_has : (at b : ℕ) (bs : List ℕ) → starts 42 bs ≡ true → LiesAt at (at + length (b ∷ bs)) (block_comment at (closing (drop 1 bs)))
comment_has at b bs s = comment_by at (length (b ∷ bs)) (closing (drop 1 bs)) (omega arith) (comment_fits b bs (closing (drop 1 bs)) refl s)

gap_has : (at n size : ℕ) → (1 ≤ n) × (n ≤ size) → LiesAt at (at + size) (Gap at n)
gap_has at n size h = (refl, h.0, omega (arith, h.1))

pub piece_has : (allowed : Allowed) (at : ℕ) (rest : List ℕ) → IfSome (first_piece allowed at rest) (LiesAt at (at + length rest))
unfolding first_piece
piece_has allowed at [] = tt
piece_has allowed at (b ∷ bs) =
    either (is_blank b) _ _ at _ (λ e. gap_has at 1 (length (b ∷ bs)) (omega arith, omega arith)) (λ e.
    either (b == 47 && starts 47 bs) _ _ at _ (λ f. gap_has at _ (length (b ∷ bs)) (line_has b bs (in_line_at b 47 refl (and_parts _ _ f).0))) (λ f.
    either (b == 47 && starts 42 bs) _ _ at _ (λ g. comment_has at b bs (and_parts _ _ g).1) (λ g.
    either (b == 35 && allowed.directive) _ _ at _ (λ h. gap_has at _ (length (b ∷ bs)) (line_has b bs (in_line_at b 35 refl (and_parts _ _ h).0))) (λ h.
    longest_has allowed.header at b bs))))

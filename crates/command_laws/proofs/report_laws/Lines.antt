-- Texts that are parted in one way alone.
use Rattle.std.proofs.Common.{◌≡◌, ℕ, true, false, List, [], ◌∷◌, ◌++◌, All, get_or, refl, sym, ap, subst, ◌∙◌, append_assoc}
use Rattle.std.specs.Prelude.{◌==◌, codes}
use Rattle.std.specs.List.{flat_map}
use Rattle.std.proofs.lemmas.List.{append_cancel_left}
use Rattle.std.proofs.lemmas.List.Elements.{All-head, All-tail}
use Rattle.trace_file.proofs.NumberLaws.{Lacks}
use Rattle.command_laws.specs.report_laws.Laws.{IsInLine, line_of_input}

heads : (a b : ℕ) (xs ys : List ℕ) → a ∷ xs ≡ b ∷ ys → a ≡ b
heads a b xs ys e = cc

pub tails : (a b : ℕ) (xs ys : List ℕ) → a ∷ xs ≡ b ∷ ys → xs ≡ ys
tails a b xs ys e = cc

pub first_of : List ℕ → ℕ
first_of text = get_or text 0 0

-- two texts that begin with other bytes
pub begin_otherwise : (a b : ℕ) (xs ys : List ℕ) → (a == b) ≡ false → (b == b) ≡ true → a ∷ xs ≡ b ∷ ys → ⊥
begin_otherwise a b xs ys other own e =
    let never : (b == b) ≡ false = subst (λ (n : ℕ). (n == b) ≡ false) (heads a b xs ys e) other in
    absurd (cc)

-- ---- up to a mark

module _ (mark : ℕ) (own : (mark == mark) ≡ true) where
  no_mark : (xs ys : List ℕ) (byte : ℕ) → Lacks mark byte → byte ∷ xs ≡ mark ∷ ys → ⊥
  no_mark xs ys byte lacks e = begin_otherwise byte mark xs ys lacks own e

  -- what stands before a mark, and what stands behind it
  pub before_mark : (a b x y : List ℕ) → All (Lacks mark) a → All (Lacks mark) b → a ++ mark ∷ x ≡ b ++ mark ∷ y → (a ≡ b) × (x ≡ y)
  before_mark [] [] x y free other e = (refl, tails mark mark x y e)
  before_mark [] (c ∷ b) x y free other e = absurd (no_mark (b ++ mark ∷ y) x c (All-head (Lacks mark) c b other) (sym e))
  before_mark (c ∷ a) [] x y free other e = absurd (no_mark (a ++ mark ∷ x) y c (All-head (Lacks mark) c a free) e)
  before_mark (c ∷ a) (d ∷ b) x y free other e =
      let rest = before_mark a b x y (All-tail (Lacks mark) c a free) (All-tail (Lacks mark) d b other) (tails c d (a ++ mark ∷ x) (b ++ mark ∷ y) e) in
      let here = heads c d (a ++ mark ∷ x) (b ++ mark ∷ y) e in
      ((let same = rest.0 in λ i. here i ∷ same i), rest.1)

-- ---- lines of inputs

-- a line, and what stands behind it
line_more : (line rest : List ℕ) → line_of_input line ++ rest ≡ codes "input" ++ (line ++ 10 ∷ rest)
line_more line rest = ap (λ (text : List ℕ). codes "input" ++ text) (append_assoc line (10 ∷ []) rest)

lines_more : (line : List ℕ) (lines : List (List ℕ)) (rest : List ℕ) → flat_map line_of_input (line ∷ lines) ++ rest ≡ codes "input" ++ (line ++ 10 ∷ (flat_map line_of_input lines ++ rest))
lines_more line lines rest = append_assoc (line_of_input line) (flat_map line_of_input lines) rest ∙ line_more line (flat_map line_of_input lines ++ rest)

-- what stands behind the lines of inputs, where it begins otherwise
pub behind_inputs : (lines others : List (List ℕ)) (a b : ℕ) (x y : List ℕ) → (a == 105) ≡ false → (b == 105) ≡ false → All IsInLine lines → All IsInLine others
    → flat_map line_of_input lines ++ a ∷ x ≡ flat_map line_of_input others ++ b ∷ y → a ∷ x ≡ b ∷ y
behind_inputs [] [] a b x y apart away free more e = e
behind_inputs [] (l ∷ ls) a b x y apart away free more e =
    absurd (begin_otherwise a 105 x _ apart refl (e ∙ lines_more l ls (b ∷ y)))
behind_inputs (l ∷ ls) [] a b x y apart away free more e =
    absurd (begin_otherwise b 105 y _ away refl (sym e ∙ lines_more l ls (a ∷ x)))
behind_inputs (l ∷ ls) (m ∷ ms) a b x y apart away free more e =
    let both = append_cancel_left (codes "input") (l ++ 10 ∷ (flat_map line_of_input ls ++ a ∷ x)) (m ++ 10 ∷ (flat_map line_of_input ms ++ b ∷ y)) (sym (lines_more l ls (a ∷ x)) ∙ e ∙ lines_more m ms (b ∷ y)) in
    let rest = before_mark 10 refl l m (flat_map line_of_input ls ++ a ∷ x) (flat_map line_of_input ms ++ b ∷ y) (All-head IsInLine l ls free) (All-head IsInLine m ms more) both in
    behind_inputs ls ms a b x y apart away (All-tail IsInLine l ls free) (All-tail IsInLine m ms more) rest.1

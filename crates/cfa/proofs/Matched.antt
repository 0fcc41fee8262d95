-- Lists whose elements are matched, from a place on.
use Rattle.std.proofs.Common.{◌≡◌, ℕ, ◌+◌, ◌<◌, ◌≤◌, Bool, false, true, List, [], ◌∷◌, length, get_or, drop, refl, sym, ap, ◌∙◌, arith}
use Rattle.std.proofs.lemmas.List.{drop_more, drop_all}
use Rattle.std.specs.Prelude.{◌&&◌}
use Rattle.cfa.specs.Each.{matched}

module _ {X Y : Type 0} (test : X → Y → Bool) where
  -- lists of other lengths aren't
  pub matched-apart : (xs : List X) (ys : List Y) → (length xs ≡ length ys → ⊥) → matched test xs ys ≡ false
  matched-apart [] [] h = absurd (h refl)
  matched-apart [] (y ∷ ys) h = refl
  matched-apart (x ∷ xs) [] h = refl
  matched-apart (x ∷ xs) (y ∷ ys) h = both (test x y) (matched-apart xs ys (λ e. h (omega (arith, e))))
    where
      both : (t : Bool) {b : Bool} → b ≡ false → (t && b) ≡ false
      both true e = e
      both false e = refl

  matched-here : (xs : List X) (ys : List Y) (i : ℕ) (d : X) (e : Y) → i < length xs → i < length ys → matched test (drop i xs) (drop i ys) ≡ (test (get_or xs i d) (get_or ys i e) && matched test (drop (i + 1) xs) (drop (i + 1) ys))
  matched-here xs ys i d e h k =
      ap (λ zs. matched test zs (drop i ys)) (drop_more xs i d h) ∙ ap (matched test (get_or xs i d ∷ drop (i + 1) xs)) (drop_more ys i e k)

  -- from the end on nothing is left
  pub matched-end : (xs : List X) (ys : List Y) (i : ℕ) → length xs ≤ i → length ys ≤ i → matched test (drop i xs) (drop i ys) ≡ true
  matched-end xs ys i h k = ap (λ zs. matched test zs (drop i ys)) (drop_all i xs h) ∙ ap (matched test []) (drop_all i ys k)

  matched_one : (xs : List X) (ys : List Y) (i : ℕ) (x : X) (y : Y) (r all : Bool) → length xs ≡ length ys → i < length xs → x ≡ get_or xs i x → y ≡ get_or ys i y → r ≡ test x y → matched test (drop i xs) (drop i ys) ≡ all → (r && matched test (drop (i + 1) xs) (drop (i + 1) ys)) ≡ all
  matched_one xs ys i x y r all long h a b e f =
      ap (λ t. t && matched test (drop (i + 1) xs) (drop (i + 1) ys)) (e ∙ ap (λ z. test z y) a ∙ ap (test (get_or xs i x)) b)
      ∙ sym (matched-here xs ys i x y h (omega (arith, long))) ∙ f

  -- two elements that fail decide the whole
  pub matched_fails : (xs : List X) (ys : List Y) (i : ℕ) (x : X) (y : Y) (r all : Bool) → length xs ≡ length ys → i < length xs → x ≡ get_or xs i x → y ≡ get_or ys i y → r ≡ test x y → matched test (drop i xs) (drop i ys) ≡ all → r ≡ false → false ≡ all
  matched_fails xs ys i x y r all long h a b e f n =
      ap (λ t. t && matched test (drop (i + 1) xs) (drop (i + 1) ys)) (sym n) ∙ matched_one xs ys i x y r all long h a b e f

  -- two that pass leave the rest
  pub matched_goes : (xs : List X) (ys : List Y) (i : ℕ) (x : X) (y : Y) (r all : Bool) → length xs ≡ length ys → i < length xs → x ≡ get_or xs i x → y ≡ get_or ys i y → r ≡ test x y → matched test (drop i xs) (drop i ys) ≡ all → r ≡ true → matched test (drop (i + 1) xs) (drop (i + 1) ys) ≡ all
  matched_goes xs ys i x y r all long h a b e f y' =
      ap (λ t. t && matched test (drop (i + 1) xs) (drop (i + 1) ys)) (sym y') ∙ matched_one xs ys i x y r all long h a b e f

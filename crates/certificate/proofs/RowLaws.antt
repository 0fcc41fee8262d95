-- Rows of numbers, and where texts are cut.
use Rattle.std.proofs.Common.{◌≡◌, ℕ, suc, ◌+◌, ◌<◌, ◌^◌, Bool, true, false, ◌||◌, List, [], ◌∷◌, ◌++◌, length, take, drop, get_or, drop-cons, refl, sym, ◌∙◌, ap, arith, append_assoc, append-nil, take-append-drop, add-one}
use Rattle.std.specs.Prelude.{ℤ, pos, negsuc, nat_eq, codes, IsTrue, ◌↔◌}
use Rattle.std.specs.Fmt.{decimal, signed_decimal}
use Rattle.std.specs.Str.Parse.{AllDigits}
use lib.Signed.{mag}
use Rattle.std.proofs.lemmas.Bool.Decides.{Decides-eqb}
use Rattle.std.proofs.lemmas.Fmt.{decimal_is_IsNumeral, signed_decimal_injective}
use Rattle.std.proofs.lemmas.List.Folds.{list_any-append}
use Rattle.std.proofs.lemmas.Str.Parse.{digit_from_value}
use Rattle.certificate.specs.Numbers.{IsSmall, AreSmall, has_byte, numbers_text, row_text, IsRow}

-- ---- bytes

pub differs : (a b : ℕ) → (a ≡ b → ⊥) → nat_eq a b ≡ false
differs a b other = by_test (nat_eq a b) refl
  where
    by_test : (t : Bool) → nat_eq a b ≡ t → nat_eq a b ≡ false
    by_test false e = e
    by_test true e = absurd (other ((Decides-eqb a b).0 e))

same_byte : (m : ℕ) → nat_eq m m ≡ true
same_byte m = (Decides-eqb m m).1 refl

digits_lack : (byte : ℕ) (ds : List ℕ) → byte < 48 → AllDigits 10 ds → has_byte byte ds ≡ false
digits_lack byte [] h d = refl
digits_lack byte (c ∷ cs) h d =
    let range = digit_from_value c d.0 in
    rw (differs c byte (λ e. omega (arith, range.0))) (digits_lack byte cs h d.1)

pub decimal_lacks : (byte n : ℕ) → byte < 48 → n < 2 ^ 64 → has_byte byte (decimal n) ≡ false
decimal_lacks byte n h s = digits_lack byte (decimal n) h (decimal_is_IsNumeral n s).0.1

pub integer_lacks : (byte : ℕ) (z : ℤ) → byte < 45 → IsSmall z → has_byte byte (signed_decimal z) ≡ false
integer_lacks byte (pos n) h s = decimal_lacks byte n (omega arith) (omega arith)
integer_lacks byte (negsuc n) h s = rw (differs 45 byte (λ e. omega arith)) (decimal_lacks byte (suc n) (omega arith) (omega arith))

-- ---- where a text is cut

or_true : (a : Bool) → (a || true) ≡ true
or_true true = refl
or_true false = refl

has_mark : (mark : ℕ) (a b : List ℕ) → has_byte mark (a ++ mark ∷ b) ≡ true
has_mark mark [] b = rw (same_byte mark) refl
has_mark mark (x ∷ xs) b = rw (has_mark mark xs b) (or_true (nat_eq x mark))

pub no_mark : (mark : ℕ) (text a b : List ℕ) → has_byte mark text ≡ false → text ≡ a ++ mark ∷ b → ⊥
no_mark mark text a b h e = let no_byte : true ≡ false = sym (has_mark mark a b) ∙ sym (ap (has_byte mark) e) ∙ h in absurd cc

or_first : (a b : Bool) → (a || b) ≡ false → a ≡ false
or_first true b e = e
or_first false b e = refl

or_rest : (a b : Bool) → (a || b) ≡ false → b ≡ false
or_rest true b e = absurd cc
or_rest false b e = e

pub cut_once : (mark : ℕ) (a b c d : List ℕ) → has_byte mark a ≡ false → has_byte mark c ≡ false → a ++ mark ∷ b ≡ c ++ mark ∷ d → (a ≡ c) × (b ≡ d)
cut_once mark [] b [] d g h e = (refl, cc)
cut_once mark [] b (y ∷ ys) d g h e =
    let first : mark ≡ y = cc in
    let no_byte : true ≡ false = sym (same_byte mark) ∙ ap (λ k. nat_eq k mark) first ∙ or_first (nat_eq y mark) (has_byte mark ys) h in
    absurd cc
cut_once mark (x ∷ xs) b [] d g h e =
    let first : mark ≡ x = cc in
    let no_byte : true ≡ false = sym (same_byte mark) ∙ ap (λ k. nat_eq k mark) first ∙ or_first (nat_eq x mark) (has_byte mark xs) g in
    absurd cc
cut_once mark (x ∷ xs) b (y ∷ ys) d g h e =
    let first : x ≡ y = cc in
    let tails : xs ++ mark ∷ b ≡ ys ++ mark ∷ d = cc in
    let rest = cut_once mark xs b ys d (or_rest (nat_eq x mark) (has_byte mark xs) g) (or_rest (nat_eq y mark) (has_byte mark ys) h) tails in
    (let tail : xs ≡ ys = rest.0 in cc, rest.1)

-- ---- rows

regroup : (a b c : List ℕ) (mark : ℕ) → ((a ++ mark ∷ []) ++ b) ++ c ≡ a ++ mark ∷ (b ++ c)
regroup a b c mark = simp append_assoc

mag_small : (z : ℤ) → IsSmall z → mag z < 2 ^ 63
mag_small (pos n) s = omega arith
mag_small (negsuc n) s = omega arith

-- what is left of a row after its first numbers
pub record Left (zs ns : List ℤ) (rest : List ℕ) : Type 0 where
  pub numbers : List ℤ
  pub all : ns ≡ zs ++ numbers
  pub small : AreSmall numbers
  pub text : rest ≡ row_text numbers

pub row_left : (zs ns : List ℤ) (rest : List ℕ) → AreSmall zs → AreSmall ns → numbers_text zs ++ rest ≡ row_text ns → Left zs ns rest
row_left [] ns rest s t e = record { numbers = ns; all = refl; small = t; text = e }
row_left (z ∷ zs) [] rest s t e = absurd (no_mark 32 (codes "0") (signed_decimal z) (numbers_text zs ++ rest) refl (sym e ∙ regroup (signed_decimal z) (numbers_text zs) rest 32))
row_left (z ∷ zs) (n ∷ ns) rest s t e =
    let parts = cut_once 32 (signed_decimal z) (numbers_text zs ++ rest) (signed_decimal n) (row_text ns) (integer_lacks 32 z (omega arith) s.0) (integer_lacks 32 n (omega arith) t.0)
    (sym (regroup (signed_decimal z) (numbers_text zs) rest 32) ∙ e ∙ regroup (signed_decimal n) (numbers_text ns) (codes "0") 32) in
    let first : z ≡ n = signed_decimal_injective z n (mag_small z s.0) (mag_small n t.0) parts.0 in
    let later = row_left zs ns rest s.1 t.1 parts.1 in
    let all = later.all in
    record { numbers = later.numbers; all = cc; small = later.small; text = later.text }

-- the next word isn't a number
pub no_word : (word after : List ℕ) (ns : List ℤ) → AreSmall ns → has_byte 32 word ≡ false → ((z : ℤ) → IsSmall z → word ≡ signed_decimal z → ⊥) → word ++ 32 ∷ after ≡ row_text ns → ⊥
no_word word after [] s h other e = no_mark 32 (codes "0") word after refl (sym e)
no_word word after (n ∷ ns) s h other e =
    other n s.0 (cut_once 32 word after (signed_decimal n) (row_text ns) h (integer_lacks 32 n (omega arith) s.0) (e ∙ regroup (signed_decimal n) (numbers_text ns) (codes "0") 32)).0

-- the last word isn't 0
pub no_end : (rest : List ℕ) (ns : List ℤ) → has_byte 32 rest ≡ false → (rest ≡ codes "0" → ⊥) → rest ≡ row_text ns → ⊥
no_end rest [] h other e = other e
no_end rest (n ∷ ns) h other e = no_mark 32 rest (signed_decimal n) (row_text ns) h (e ∙ regroup (signed_decimal n) (numbers_text ns) (codes "0") 32)

pub numbers_more : (zs : List ℤ) (z : ℤ) → numbers_text (zs ++ z ∷ []) ≡ numbers_text zs ++ (signed_decimal z ++ 32 ∷ [])
numbers_more [] z = append-nil (signed_decimal z ++ 32 ∷ [])
numbers_more (y ∷ ys) z = rw (numbers_more ys z) (sym (append_assoc (signed_decimal y ++ 32 ∷ []) (numbers_text ys) (signed_decimal z ++ 32 ∷ [])))

pub small_more : (zs : List ℤ) (z : ℤ) → AreSmall zs → IsSmall z → AreSmall (zs ++ z ∷ [])
small_more [] z s t = (t, tt)
small_more (y ∷ ys) z s t = (s.0, small_more ys z s.1 t)

-- ---- the first place of a byte

pub cut_here : (mark : ℕ) (text : List ℕ) (i : ℕ) → i < length text → get_or text i 0 ≡ mark → text ≡ take i text ++ mark ∷ drop (i + 1) text
cut_here mark text i h e = sym (take-append-drop i text) ∙ rw (drop-cons text i 0 h, e, add-one) refl

-- ---- how the reading of a row ends

pub row_stops : (line : List ℕ) (zs : List ℤ) (rest word after : List ℕ) → AreSmall zs → line ≡ numbers_text zs ++ rest → rest ≡ word ++ 32 ∷ after → has_byte 32 word ≡ false
    → ((z : ℤ) → IsSmall z → word ≡ signed_decimal z → ⊥) → IsRow line false zs
row_stops line zs rest word after s e f h other ns t g =
    let left = row_left zs ns rest s t (sym e ∙ g) in
    no_word word after left.numbers left.small h other (sym f ∙ left.text)

pub row_goes : (line : List ℕ) (zs : List ℤ) (rest word after : List ℕ) (z : ℤ) → line ≡ numbers_text zs ++ rest → rest ≡ word ++ 32 ∷ after → word ≡ signed_decimal z
    → line ≡ numbers_text (zs ++ z ∷ []) ++ after
row_goes line zs rest word after z e f g = rw (numbers_more zs z, e, f, g) (sym (again (numbers_text zs) (signed_decimal z) after))
  where
    again : (a b c : List ℕ) → (a ++ (b ++ 32 ∷ [])) ++ c ≡ a ++ (b ++ 32 ∷ c)
    again a b c = simp append_assoc

pub row_ends : (line : List ℕ) (zs : List ℤ) (rest : List ℕ) (found : Bool) → AreSmall zs → line ≡ numbers_text zs ++ rest → has_byte 32 rest ≡ false → IsTrue found ↔ (rest ≡ codes "0")
    → IsRow line found zs
row_ends line zs rest found s e h tells = by_found found tells
  where
    by_found : (b : Bool) → IsTrue b ↔ (rest ≡ codes "0") → IsRow line b zs
    by_found true t = (s, e ∙ ap (λ (r : List ℕ). numbers_text zs ++ r) (t.0 refl))
    by_found false t = λ ns small g.
        let left = row_left zs ns rest s small (sym e ∙ g) in
        no_end rest left.numbers h (λ is_zero. let yes_it_is : false ≡ true = t.1 is_zero in absurd cc) left.text

-- ---- rows in lines

pub row_lacks : (byte : ℕ) (zs : List ℤ) → byte < 32 → AreSmall zs → has_byte byte (row_text zs) ≡ false
row_lacks byte [] h s = rw (differs 48 byte (λ e. omega arith)) refl
row_lacks byte (z ∷ zs) h s =
    ap (has_byte byte) (regroup (signed_decimal z) (numbers_text zs) (codes "0") 32)
    ∙ list_any-append (λ b. nat_eq b byte) (signed_decimal z) (32 ∷ row_text zs)
    ∙ rw (integer_lacks byte z (omega arith) s.0, differs 32 byte (λ e. omega arith)) (row_lacks byte zs h s.1)

no_more : (ns : List ℤ) → codes "0" ≡ row_text ns → ns ≡ []
no_more [] e = refl
no_more (n ∷ ns) e = absurd (no_mark 32 (codes "0") (signed_decimal n) (row_text ns) refl (e ∙ regroup (signed_decimal n) (numbers_text ns) (codes "0") 32))

-- a text is the row of one list of numbers
pub one_row : (zs ns : List ℤ) → AreSmall zs → AreSmall ns → row_text zs ≡ row_text ns → zs ≡ ns
one_row zs ns s t e =
    let left = row_left zs ns (codes "0") s t e in
    let none = no_more left.numbers left.text in
    let all = left.all in
    sym (all ∙ ap (λ (us : List ℤ). zs ++ us) none ∙ append-nil zs)

-- a line that is no row
pub not_a_row : (text line after more : List ℕ) (ns : List ℤ) → text ≡ line ++ 10 ∷ after → has_byte 10 line ≡ false → ((zs : List ℤ) → AreSmall zs → line ≡ row_text zs → ⊥)
    → AreSmall ns → text ≡ row_text ns ++ 10 ∷ more → ⊥
not_a_row text line after more ns e h other s f = other ns s (cut_once 10 line after (row_text ns) more h (row_lacks 10 ns (omega arith) s) (sym e ∙ f)).0

-- a line that is the row of other numbers
pub same_row : (text line after more : List ℕ) (zs ns : List ℤ) → text ≡ line ++ 10 ∷ after → has_byte 10 line ≡ false → AreSmall zs → line ≡ row_text zs → AreSmall ns → text ≡ row_text ns ++ 10 ∷ more
    → zs ≡ ns
same_row text line after more zs ns e h s g t f =
    one_row zs ns s t (sym g ∙ (cut_once 10 line after (row_text ns) more h (row_lacks 10 ns (omega arith) t) (sym e ∙ f)).0)

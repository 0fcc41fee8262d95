-- The longest part of a text that passes a test.
use Rattle.std.proofs.Common.{◌≡◌, ℕ, zero, suc, ◌+◌, ◌<◌, ◌≤◌, inl, inr, Bool, true, false, List, [], ◌∷◌, length, take, refl, arith, ap, ◌∙◌, sym, subst}
use Rattle.std.proofs.Math.Numerals.{one-add}
use Rattle.std.specs.Prelude.{Option, Some, None, option_map}
use Rattle.std.specs.List.{list_all, prefix_len}
use Rattle.std.proofs.Math.Nat.{eq-or-lt_of_le}
use Rattle.c_lex.specs.Forms.{greatest}
use Rattle.c_lex.specs.Scans.{Picks, PicksNone, PicksLongest}

pub greatest_is : (p : ℕ → Bool) (n most : ℕ) → 1 ≤ n → n ≤ most → p n ≡ true → ((m : ℕ) → n < m → m ≤ most → p m ≡ false)
    → greatest p most ≡ Some n
unfolding greatest
greatest_is p n zero one le here beyond = absurd (omega arith)
greatest_is p n (suc most) one le here beyond =
    elim (eq-or-lt_of_le le) [
      | inl e ↦ let h : p (suc most) ≡ true = subst (λ k. p k ≡ true) e here in rw h (ap Some (sym e))
      | inr lt ↦ rw (beyond (suc most) lt (omega arith)) (greatest_is p n most one (omega arith) here (λ m low high. beyond m low (omega arith)))
    ]

pub greatest_none : (p : ℕ → Bool) (most : ℕ) → ((m : ℕ) → 1 ≤ m → m ≤ most → p m ≡ false) → greatest p most ≡ None
unfolding greatest
greatest_none p zero none = refl
greatest_none p (suc most) none =
    rw (none (suc most) (omega arith) (omega arith)) (greatest_none p most (λ m low high. none m low (omega arith)))

module _ (is : List ℕ → Bool) (q : List ℕ → Bool) (b : ℕ) (bs : List ℕ) (form : (xs : List ℕ) → is (b ∷ xs) ≡ q xs) where
  beyond_first : (n : ℕ) → ((m : ℕ) → n < m → m ≤ length bs → q (take m bs) ≡ false)
      → (m : ℕ) → suc n < m → m ≤ length (b ∷ bs) → is (take m (b ∷ bs)) ≡ false
  beyond_first n beyond zero low high = absurd (omega arith)
  beyond_first n beyond (suc m) low high = form (take m bs) ∙ beyond m (omega arith) (omega arith)

  none_first : PicksNone q bs → (m : ℕ) → 1 ≤ m → m ≤ length (b ∷ bs) → is (take m (b ∷ bs)) ≡ false
  none_first none zero low high = absurd (omega arith)
  none_first none (suc m) low high = form (take m bs) ∙ none.none m (omega arith)

  pub longest_is : (n : ℕ) → Picks q bs n → greatest (λ k. is (take k (b ∷ bs))) (length (b ∷ bs)) ≡ Some (suc n)
  longest_is n p =
      let within = p.within in
      greatest_is (λ k. is (take k (b ∷ bs))) (suc n) (length (b ∷ bs)) (omega arith) (omega arith) (form (take n bs) ∙ p.passes) (beyond_first n p.beyond)

  pub longest_first : (r : Option ℕ) → PicksLongest q bs r → greatest (λ k. is (take k (b ∷ bs))) (length (b ∷ bs)) ≡ option_map suc r
  longest_first None p = greatest_none (λ k. is (take k (b ∷ bs))) (length (b ∷ bs)) (none_first p)
  longest_first (Some n) p = longest_is n p

-- as long as each byte passes
fails_first : (c : ℕ → Bool) (b : ℕ) (bs : List ℕ) → c b ≡ false → (m : ℕ) → 0 < m → list_all c (take m (b ∷ bs)) ≡ false
fails_first c b bs e zero low = absurd (omega arith)
fails_first c b bs e (suc m) low = rw e refl

passes_first : (c : ℕ → Bool) (b : ℕ) (bs : List ℕ) → c b ≡ true → Picks (list_all c) bs (prefix_len c bs) → (m : ℕ) → 1 + prefix_len c bs < m → m ≤ length (b ∷ bs)
    → list_all c (take m (b ∷ bs)) ≡ false
passes_first c b bs e p zero low high = absurd (omega arith)
passes_first c b bs e p (suc m) low high = rw e (p.beyond m (omega arith) (omega arith))

picks_by : (c : ℕ → Bool) (b : ℕ) (bs : List ℕ) → Picks (list_all c) bs (prefix_len c bs) → (v : Bool) → c b ≡ v → Picks (list_all c) (b ∷ bs) (prefix_len c (b ∷ bs))
picks_by c b bs p false e = rw e (record { within = omega arith; passes = refl; beyond = λ m low high. fails_first c b bs e m low })
picks_by c b bs p true e =
    let within = p.within in
    rw (e, one-add) (record { within = omega arith; passes = rw e p.passes; beyond = λ m low high. passes_first c b bs e p m (omega arith) high })

picks_more : (c : ℕ → Bool) (b : ℕ) (bs : List ℕ) → Picks (list_all c) bs (prefix_len c bs) → Picks (list_all c) (b ∷ bs) (prefix_len c (b ∷ bs))
picks_more c b bs p = picks_by c b bs p (c b) refl

pub picks_prefix : (c : ℕ → Bool) (bs : List ℕ) → Picks (list_all c) bs (prefix_len c bs)
picks_prefix c [] = record { within = omega arith; passes = refl; beyond = λ m low high. absurd (omega arith) }
picks_prefix c (b ∷ bs) = picks_more c b bs (picks_prefix c bs)

-- the same test
pub same_longest : (q r : List ℕ → Bool) (bs : List ℕ) (o : Option ℕ) → ((xs : List ℕ) → r xs ≡ q xs) → PicksLongest q bs o → PicksLongest r bs o
same_longest q r bs None same p = record { none = λ m low. same (take m bs) ∙ p.none m low }
same_longest q r bs (Some n) same p = record { within = p.within; passes = same (take n bs) ∙ p.passes; beyond = λ m low high. same (take m bs) ∙ p.beyond m low high }

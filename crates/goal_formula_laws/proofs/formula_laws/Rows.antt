-- The highest bit in which two numbers differ.
use Rattle.std.proofs.Common.{◌≡◌, ℕ, zero, suc, ◌+◌, ◌*◌, ◌/◌, ◌%◌, ◌^◌, ◌<◌, ◌≤◌, Bool, true, false, List, [], ◌∷◌, length, get_or, refl, sym, ap, ◌∙◌, ⊎_elim, arith}
use Rattle.std.proofs.Math.Nat.{mod-eq_of_lt}
use Rattle.std.proofs.lemmas.Bool.{cases_lt}
use Rattle.std.proofs.lemmas.Nat.{mod-pow-add}
use Rattle.std.proofs.lemmas.Nat.Bits.{bit_at-lt}
use Rattle.std.specs.Int.{bit_at}
use Rattle.std.specs.Prelude.{◌==◌}
use Rattle.unwinder.proofs.input_words.WorldLemmas.{get_or-low_bits, length-low_bits, low_bits-number_from, number_from}
use Rattle.unwinder.specs.input_words.Worlds.{low_bits}
use Rattle.path_runner.specs.Masks.{bit, number_of_bits}
use Rattle.goal_formula_laws.specs.formula_laws.Bits.{DifferAt, RowsDifferAt}
use Rattle.goal_formula_laws.specs.formula_laws.Laws.{HighestBitDecides, HighestBitOfRows, LowBitsOfNumber, NumberOfLowBits}

-- ---- rows and their numbers

same_number : (bits : List Bool) → number_of_bits bits ≡ number_from bits
same_number [] = refl
same_number (true ∷ bits) = ap (λ n. 1 + 2 * n) (same_number bits)
same_number (false ∷ bits) = ap (λ n. 0 + 2 * n) (same_number bits)

pub low_bits_of_number : LowBitsOfNumber
low_bits_of_number bits = ap (low_bits (length bits)) (same_number bits) ∙ low_bits-number_from bits

pub rows_by_number : (xs ys : List Bool) → length xs ≡ length ys → number_of_bits xs ≡ number_of_bits ys → xs ≡ ys
rows_by_number xs ys long e = sym (low_bits_of_number xs) ∙ (λ i. low_bits (long i) (e i)) ∙ low_bits_of_number ys

rows_by_bits : (xs ys : List Bool) → length xs ≡ length ys → ((i : ℕ) → i < length xs → get_or xs i false ≡ get_or ys i false) → xs ≡ ys
rows_by_bits [] [] long h = refl
rows_by_bits [] (y ∷ ys) long h = absurd (omega (arith, long))
rows_by_bits (x ∷ xs) [] long h = absurd (omega (arith, long))
rows_by_bits (x ∷ xs) (y ∷ ys) long h =
    let here : x ≡ y = h 0 (omega arith) in
    let rest = rows_by_bits xs ys (omega (arith, long)) (λ i lt. h (suc i) (omega (arith, lt))) in
    λ i. here i ∷ rest i

pub bit_few : (b : Bool) → bit b ≤ 1
bit_few true = omega arith
bit_few false = omega arith

pub bits_apart : (x y : Bool) → bit x < bit y → (x ≡ false) × (y ≡ true)
bits_apart true true lt = absurd (omega (arith, lt))
bits_apart true false lt = absurd (omega (arith, lt))
bits_apart false true lt = (refl, refl)
bits_apart false false lt = absurd (omega (arith, lt))

-- ---- the highest bit

abbrev Apart : List Bool → List Bool → Type 0
Apart xs ys = (k : ℕ) × RowsDifferAt xs ys k

apart_here : (x y : Bool) (xs ys : List Bool) → x ≡ false → y ≡ true → xs ≡ ys → Apart (x ∷ xs) (y ∷ ys)
apart_here x y xs ys low high same = (0, record { within = omega arith; unset = low; set = high; above = above })
  where
    above : (i : ℕ) → 0 < i → i < length (x ∷ xs) → get_or (x ∷ xs) i false ≡ get_or (y ∷ ys) i false
    above zero lt within = absurd (omega (arith, lt))
    above (suc i) lt within = ap (λ (zs : List Bool). get_or zs i false) same

apart_later : (x y : Bool) (xs ys : List Bool) → Apart xs ys → Apart (x ∷ xs) (y ∷ ys)
apart_later x y xs ys (k, r) = (suc k, record { within = omega (arith, r.within); unset = r.unset; set = r.set; above = above })
  where
    above : (i : ℕ) → suc k < i → i < length (x ∷ xs) → get_or (x ∷ xs) i false ≡ get_or (y ∷ ys) i false
    above zero lt within = absurd (omega (arith, lt))
    above (suc i) lt within = r.above i (omega (arith, lt)) (omega (arith, within))

less_apart : (xs ys : List Bool) → length xs ≡ length ys → number_of_bits xs < number_of_bits ys → Apart xs ys
less_apart [] [] long lt = absurd (omega (arith, lt))
less_apart [] (y ∷ ys) long lt = absurd (omega (arith, long))
less_apart (x ∷ xs) [] long lt = absurd (omega (arith, long))
less_apart (x ∷ xs) (y ∷ ys) long lt =
    let shorter : length xs ≡ length ys = omega (arith, long) in
    let few = bit_few x in
    let more = bit_few y in
    ⊎_elim
    (λ less. apart_later x y xs ys (less_apart xs ys shorter less))
    (λ le.
    let same : number_of_bits xs ≡ number_of_bits ys = omega (arith, lt, le, few, more) in
    let first : bit x < bit y = omega (arith, lt, same) in
    let bits = bits_apart x y first in
    apart_here x y xs ys bits.0 bits.1 (rows_by_number xs ys shorter same))
    (cases_lt (number_of_bits xs) (number_of_bits ys))

apart_less : (xs ys : List Bool) (k : ℕ) → length xs ≡ length ys → RowsDifferAt xs ys k → number_of_bits xs < number_of_bits ys
apart_less [] ys k long r = let within = r.within in absurd (omega (arith, within))
apart_less (x ∷ xs) [] k long r = absurd (omega (arith, long))
apart_less (x ∷ xs) (y ∷ ys) zero long r =
    let rest : xs ≡ ys = rows_by_bits xs ys (omega (arith, long)) (λ i lt. r.above (suc i) (omega arith) (omega (arith, lt))) in
    let same : number_of_bits xs ≡ number_of_bits ys = ap number_of_bits rest in
    let low : bit x ≡ 0 = ap bit r.unset in
    let high : bit y ≡ 1 = ap bit r.set in
    omega (arith, same, low, high)
apart_less (x ∷ xs) (y ∷ ys) (suc k) long r =
    let below : RowsDifferAt xs ys k = record {
      within = let within = r.within in omega (arith, within);
      unset = r.unset;
      set = r.set;
      above = λ i lt within. r.above (suc i) (omega (arith, lt)) (omega (arith, within));
    } in
    let less = apart_less xs ys k (omega (arith, long)) below in
    let few = bit_few x in
    omega (arith, less, few)

pub highest_bit_of_rows : HighestBitOfRows
highest_bit_of_rows xs ys long = (less_apart xs ys long, λ h. apart_less xs ys h.0 long h.1)

-- ---- numbers

test_bit : (n : ℕ) → n < 2 → bit (n == 1) ≡ n
test_bit zero lt = refl
test_bit (suc zero) lt = refl
test_bit (suc (suc n)) lt = absurd (omega (arith, lt))

pub number_of_low_bits : NumberOfLowBits
unfolding low_bits
number_of_low_bits zero n = omega arith
number_of_low_bits (suc width) n =
    let rest = number_of_low_bits width (n / 2) in
    let low = test_bit (n % 2) (omega arith) in
    let long : suc width ≡ width + 1 = omega arith in
    let split : n % 2 ^ suc width ≡ (n / 2 % 2 ^ width) * 2 + n % 2 = ap (λ k. n % 2 ^ k) long ∙ mod-pow-add n width 1 in
    omega (arith, rest, low, split)

-- a bit of a number, and the same of its row
bit_there : (width n k : ℕ) → k < width → bit (get_or (low_bits width n) k false) ≡ bit_at n k
bit_there width n k lt = ap bit (get_or-low_bits width n k lt) ∙ test_bit (bit_at n k) (bit_at-lt n k)

bit_zero : (b : Bool) → bit b ≡ 0 → b ≡ false
bit_zero true e = absurd (omega (arith, e))
bit_zero false e = refl

bit_one : (b : Bool) → bit b ≡ 1 → b ≡ true
bit_one true e = refl
bit_one false e = absurd (omega (arith, e))

bit_same : (a b : Bool) → bit a ≡ bit b → a ≡ b
bit_same true b e = sym (bit_one b (sym e))
bit_same false b e = sym (bit_zero b (sym e))

module _ (width a b k : ℕ) where
  abbrev Rows : Type 0
  Rows = RowsDifferAt (low_bits width a) (low_bits width b) k

  from_rows : Rows → DifferAt width a b k
  from_rows r =
      let lt : k < width = let within = r.within in omega (arith, within, length-low_bits width a) in
      record {
        within = lt;
        unset = sym (bit_there width a k lt) ∙ ap bit r.unset;
        set = sym (bit_there width b k lt) ∙ ap bit r.set;
        above = λ i higher below. sym (bit_there width a i below) ∙ ap bit (r.above i higher (omega (arith, below, length-low_bits width a))) ∙ bit_there width b i below;
      }

  to_rows : DifferAt width a b k → Rows
  to_rows r = record {
    within = let within = r.within in omega (arith, within, length-low_bits width a);
    unset = bit_zero (get_or (low_bits width a) k false) (bit_there width a k r.within ∙ r.unset);
    set = bit_one (get_or (low_bits width b) k false) (bit_there width b k r.within ∙ r.set);
    above = λ i higher within.
        let below : i < width = omega (arith, within, length-low_bits width a) in
        bit_same (get_or (low_bits width a) i false) (get_or (low_bits width b) i false) (bit_there width a i below ∙ r.above i higher below ∙ sym (bit_there width b i below));
  }

pub highest_bit_decides : HighestBitDecides
highest_bit_decides width a b few less =
    let long : length (low_bits width a) ≡ length (low_bits width b) = length-low_bits width a ∙ sym (length-low_bits width b) in
    let left : number_of_bits (low_bits width a) ≡ a = number_of_low_bits width a ∙ mod-eq_of_lt few in
    let right : number_of_bits (low_bits width b) ≡ b = number_of_low_bits width b ∙ mod-eq_of_lt less in (
      λ lt. let found = less_apart (low_bits width a) (low_bits width b) long (omega (arith, lt, left, right)) in (found.0, from_rows width a b found.0 found.1),
      λ h. let lt = apart_less (low_bits width a) (low_bits width b) h.0 long (to_rows width a b h.0 h.1) in omega (arith, lt, left, right),
    )

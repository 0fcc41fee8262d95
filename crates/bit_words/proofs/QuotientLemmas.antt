-- Quotients and remainders with their signs, and when there are none.
use Rattle.std.proofs.Common.{◌≡◌, ℕ, ◌+◌, ◌-◌, ◌*◌, ◌/◌, ◌%◌, ◌^◌, ◌<◌, ◌≤◌, Bool, true, false, not, ◌&&◌, ◌||◌, cond, List, ℤ, pos, negsuc, ◌-ℤ◌, Some, None, refl, sym, subst, ap, ◌∙◌, ⊎_elim, arith}
use Rattle.std.specs.Prelude.{All, unsigned_abs, int_div, int_rem, ◌==◌}
use Rattle.std.specs.Ordering.{int_eq}
use Rattle.std.proofs.lemmas.Int.{ints}
use Rattle.std.proofs.lemmas.Bool.{cases_lt}
use Rattle.std.proofs.lemmas.Nat.{div-mul-add, mod-mul-add}
use native.Mathlib.Nat.{mul-le-mul_left}
use Rattle.circuit.specs.Truth.{World}
use Rattle.circuit.specs.Wires.{IsWire}
use Rattle.circuit.specs.declared.lit.Lit.{Lit}
use Rattle.circuit.specs.declared.lit.Gate.{Gate}
use Rattle.c_values.specs.declared.kinds.Kind.{Kind}
use Rattle.c_values.specs.Kind.{IsKind, IsValue, is_value, least, greatest, number_of, reading, wrapped}
use Rattle.c_values.specs.Operations.{has_quotient, is_zero_divisor, is_overflow_divisor, is_equal, quotient_of, remainder_of}
use Rattle.c_values.proofs.Fitting.{by_kind, value_parts, IsValue-zero}
use Rattle.c_values.proofs.Machine.{machine_equal}
use Rattle.c_values.proofs.Quotients.{number_of-zero, overflow_divisor-machine, no_zero, quotient_of-none, remainder_of-none, quotient_of-some, remainder_of-some}
use Rattle.bit_words.specs.Rows.{xor}
use Rattle.bit_words.specs.Signs.{signed_number}
use Rattle.bit_words.specs.Words.{Grows, IsWord, bit_of, place_value, low_value, word_value}
use Rattle.bit_words.proofs.Digits.{low_value-lt, low_value-more, low_value-mod}
use Rattle.bit_words.proofs.Values.{width_of_word, least_width, word_later, word_value-later}
use Rattle.bit_words.proofs.Compare.{number_of-low}
use Rattle.bit_words.proofs.SignLemmas.{is_negative, signed_cases}

pub divided_by : (a b q r x y : ℕ) → x ≡ a → y ≡ b → 0 < b → (0 < y → x ≡ q * y + r) → (0 < y → r < y) → (q ≡ a / b) × (r ≡ a % b)
divided_by a b q r x y ex ey some whole smaller =
    let lt : r < b = (let s = smaller (omega arith) in omega arith) in
    let is : a ≡ q * b + r = sym ex ∙ whole (omega arith) ∙ ap (λ n. q * n + r) ey in
    (sym (ap (λ n. n / b) is ∙ div-mul-add q b r lt), sym (ap (λ n. n % b) is ∙ mod-mul-add q b r lt))

-- 8 times the width is at most its square
pub quotient_room : (width : ℕ) → 8 ≤ width → 8 * width ≤ width * width
quotient_room width h = let m = mul-le-mul_left width h in omega arith

-- ---- the numbers that are compared

pub constant_word : (gates : List Gate) (kind : Kind) (v : ℕ) (word : List Lit) → All (IsWire gates) word → ((w : World) → word_value gates word w ≡ v) → IsValue kind v → IsWord gates kind word
constant_word gates kind v word wires is h = record { wires = wires; values = λ w. subst_value (sym (is w)) }
  where
    subst_value : {x : ℕ} → v ≡ x → IsValue kind x
    subst_value e = subst (IsValue kind) e h

pub zero_value : (kind : Kind) → IsKind kind → IsValue kind 0
zero_value kind k = IsValue-zero kind k

pub least_value : (kind : Kind) → IsKind kind → kind.signed ≡ true → IsValue kind ((2 ^ 64 - 1) * 2 ^ (kind.width - 1) % 2 ^ 64)
unfolding is_value number_of least greatest
least_value = by_kind (λ w s. s ≡ true → IsValue (record { width = w; signed = s }) ((2 ^ 64 - 1) * 2 ^ (w - 1) % 2 ^ 64))
    (λ e. refl) (λ e. cc) (λ e. refl) (λ e. cc) (λ e. refl) (λ e. cc) (λ e. refl) (λ e. cc)

pub minus_one_value : (kind : Kind) → IsKind kind → kind.signed ≡ true → IsValue kind (2 ^ 64 - 1)
unfolding is_value number_of least greatest
minus_one_value = by_kind (λ w s. s ≡ true → IsValue (record { width = w; signed = s }) (2 ^ 64 - 1))
    (λ e. refl) (λ e. cc) (λ e. refl) (λ e. cc) (λ e. refl) (λ e. cc) (λ e. refl) (λ e. cc)

pub no_overflow : (kind : Kind) (a b : ℕ) → kind.signed ≡ false → false ≡ is_overflow_divisor kind a b
unfolding is_overflow_divisor
no_overflow kind a b e = sym (ap (λ s. s && int_eq (number_of kind a) (least kind) && int_eq (number_of kind b) (negsuc 0)) e)

pub overflow_is : (kind : Kind) (a b : ℕ) (x y : Bool) → IsValue kind a → IsValue kind b → kind.signed ≡ true → x ≡ is_equal kind a ((2 ^ 64 - 1) * 2 ^ (kind.width - 1) % 2 ^ 64) → y ≡ is_equal kind b (2 ^ 64 - 1)
    → (x && y) ≡ is_overflow_divisor kind a b
overflow_is kind a b x y ha hb signed ex ey =
    let p = value_parts kind a ha in
    let q = value_parts kind b hb in
    let m = (2 ^ 64 - 1) * 2 ^ (kind.width - 1) % 2 ^ 64 in
    let lm = (value_parts kind m (least_value kind p.of_kind signed)).pattern in
    let first : x ≡ (a == m) = ex ∙ sym (machine_equal kind a m p.pattern lm) in
    let second : y ≡ (b == 2 ^ 64 - 1) = ey ∙ sym (machine_equal kind b (2 ^ 64 - 1) q.pattern (omega arith)) in
    let all : (kind.signed && x && y) ≡ (kind.signed && a == m && b == 2 ^ 64 - 1) = ap (λ t. kind.signed && t && y) first ∙ ap (λ t. kind.signed && a == m && t) second in
    sym (ap (λ s. s && x && y) signed) ∙ all ∙ overflow_divisor-machine kind a b ha hb

pub exists_is : (kind : Kind) (a b : ℕ) (zero overflow : Bool) → zero ≡ is_equal kind b 0 → overflow ≡ is_overflow_divisor kind a b → not (zero || overflow) ≡ has_quotient kind a b
unfolding is_equal is_zero_divisor
exists_is kind a b zero overflow ez eo =
    let first : zero ≡ is_zero_divisor kind b = ez ∙ ap (int_eq (number_of kind b)) (number_of-zero kind) in
    ap (λ t. not (t || overflow)) first ∙ ap (λ t. not (is_zero_divisor kind b || t)) eo

-- ---- signs

sign_cases : (kind : Kind) (v low : ℕ) (s t : Bool) → IsValue kind v → kind.signed ≡ s → low < 2 ^ (kind.width - 1) → v % 2 ^ kind.width < 2 ^ kind.width → v % 2 ^ kind.width ≡ low + place_value (kind.width - 1) t
    → cond s t false ≡ is_negative (number_of kind v)
sign_cases kind v low false t h e small lt is = ap is_negative (sym (number_of-low kind v h ∙ ap (λ s. reading s kind.width (v % 2 ^ kind.width)) e))
sign_cases kind v low true false h e small lt is = ap is_negative (sym (signed_cases kind v low false h e small is))
sign_cases kind v low true true h e small lt is =
    let x = v % 2 ^ kind.width in
    let m = 2 ^ kind.width in
    let below : pos x -ℤ pos m ≡ negsuc (m - 1 - x) = omega (arith, ints) in
    ap is_negative (sym (signed_cases kind v low true h e small is ∙ below))

pub sign_of_word : (gates : List Gate) (kind : Kind) (a : List Lit) (w : World) → IsWord gates kind a → cond kind.signed (bit_of gates a w (kind.width - 1)) false ≡ is_negative (number_of kind (word_value gates a w))
sign_of_word gates kind a w h =
    let v = word_value gates a w in
    let n = kind.width - 1 in
    let some = least_width h in
    let more : kind.width - 1 + 1 ≡ kind.width = omega arith in
    let whole = low_value-mod kind.width gates a w (width_of_word h) in
    let small = low_value-lt kind.width gates a w in
    let high : v % 2 ^ kind.width ≡ low_value n gates a w + place_value n (bit_of gates a w n) = sym whole ∙ ap (λ i. low_value i gates a w) (sym more) ∙ low_value-more n gates a w in
    sign_cases kind v (low_value n gates a w) kind.signed (bit_of gates a w n) (h.values w) refl (low_value-lt n gates a w) (omega arith) high

-- the same of a word of an older circuit, by the literal above its width
pub sign_later : {old new : List Gate} {m : ℕ} → Grows old new m → (kind : Kind) (a : List Lit) (w : World) (t : Bool) → IsWord old kind a → t ≡ cond kind.signed (bit_of new a w (kind.width - 1)) false
    → t ≡ is_negative (number_of kind (word_value old a w))
sign_later {new = new} f kind a w t h e = e ∙ sign_of_word new kind a w (word_later f kind a h) ∙ ap (λ v. is_negative (number_of kind v)) (word_value-later f a h.wires w)

-- ---- quotients by magnitudes

quot_signs : (x y : ℤ) → int_div x y ≡ signed_number (xor (is_negative x) (is_negative y)) (unsigned_abs x / unsigned_abs y)
quot_signs (pos a) (pos b) = refl
quot_signs (pos a) (negsuc b) = refl
quot_signs (negsuc a) (pos b) = refl
quot_signs (negsuc a) (negsuc b) = refl

rem_signs : (x y : ℤ) → int_rem x y ≡ signed_number (is_negative x) (unsigned_abs x % unsigned_abs y)
rem_signs (pos a) y = refl
rem_signs (negsuc a) y = refl

pub positive : (kind : Kind) (a b : ℕ) → IsValue kind a → IsValue kind b → has_quotient kind a b ≡ true → 0 < unsigned_abs (number_of kind b)
positive kind a b ha hb e = ⊎_elim (λ h. h) (λ h. absurd (no_zero kind a b ha hb e (zero_abs (number_of kind b) (omega arith)))) (cases_lt 0 (unsigned_abs (number_of kind b)))
  where
    zero_abs : (z : ℤ) → unsigned_abs z ≡ 0 → z ≡ pos 0
    zero_abs (pos n) e = ap pos e
    zero_abs (negsuc n) e = absurd (omega arith)

pub quotient_wrapped : (kind : Kind) (x y : ℤ) (q : ℕ) (negative : Bool) → negative ≡ xor (is_negative x) (is_negative y) → q ≡ unsigned_abs x / unsigned_abs y
    → wrapped kind (signed_number negative q) ≡ wrapped kind (int_div x y)
quotient_wrapped kind x y q negative en eq =
    ap (λ t. wrapped kind (signed_number t q)) en ∙ ap (λ n. wrapped kind (signed_number (xor (is_negative x) (is_negative y)) n)) eq ∙ ap (wrapped kind) (sym (quot_signs x y))

pub remainder_wrapped : (kind : Kind) (x y : ℤ) (r : ℕ) (negative : Bool) → negative ≡ is_negative x → r ≡ unsigned_abs x % unsigned_abs y → wrapped kind (signed_number negative r) ≡ wrapped kind (int_rem x y)
remainder_wrapped kind x y r negative en er =
    ap (λ t. wrapped kind (signed_number t r)) en ∙ ap (λ n. wrapped kind (signed_number (is_negative x) n)) er ∙ ap (wrapped kind) (sym (rem_signs x y))

pub quotient_answer : (kind : Kind) (a b r : ℕ) (exists : Bool) → IsValue kind a → IsValue kind b → exists ≡ has_quotient kind a b → (has_quotient kind a b ≡ true → r ≡ wrapped kind (int_div (number_of kind a) (number_of kind b)))
    → cond exists (Some r) None ≡ quotient_of kind a b
quotient_answer kind a b r true ha hb e h = ap Some (h (sym e)) ∙ quotient_of-some kind a b ha hb (sym e)
quotient_answer kind a b r false ha hb e h = quotient_of-none kind a b (sym e)

pub remainder_answer : (kind : Kind) (a b r : ℕ) (exists : Bool) → IsValue kind a → IsValue kind b → exists ≡ has_quotient kind a b → (has_quotient kind a b ≡ true → r ≡ wrapped kind (int_rem (number_of kind a) (number_of kind b)))
    → cond exists (Some r) None ≡ remainder_of kind a b
remainder_answer kind a b r true ha hb e h = ap Some (h (sym e)) ∙ remainder_of-some kind a b ha hb (sym e)
remainder_answer kind a b r false ha hb e h = remainder_of-none kind a b (sym e)

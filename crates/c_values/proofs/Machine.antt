-- What the machine's signed operations on 64 bits give, in the words of the kinds.
use Rattle.std.proofs.Common.{◌≡◌, ℕ, suc, ◌+◌, ◌-◌, ◌*◌, ◌/◌, ◌%◌, ◌^◌, ◌<◌, ◌≤◌, Bool, true, false, ℤ, pos, negsuc, ◌-ℤ◌, refl, sym, ap, ◌∙◌, ⊎_elim, arith, to_z, of_z, w64}
use Rattle.std.specs.Prelude.{◌↔◌, ◌==◌, nat_lt, cond, IsTrue, FitsSigned}
use Rattle.std.proofs.lemmas.Int.{ints, to_z-of_z}
use borrow.Author.Differences.{true_is_lt}
use Rattle.std.proofs.lemmas.Bool.Decides.{same_from_decides, Decides-eqb, Decides-int_eq, Decides-like}
use Rattle.std.specs.Ordering.{int_eq}
use lib.Signed.{shr_z, mag_shr, lt_z, ◌<ℤ◌}
use mir.Val.{sel}
use native.Mathlib.Nat.{mod-lt, mod-eq_of_lt}
use Rattle.c_values.specs.declared.kinds.Kind.{Kind}
use Rattle.c_values.specs.Kind.{IsKind, number_of, reading, twos_complement, residue, pattern_of, fit, wrapped}
use Rattle.c_values.specs.Operations.{is_less, is_equal}
use Rattle.c_values.proofs.Fitting.{by_width, width_is, twos_cases, pattern_of-number_of}

-- the machine's signed number of 64 bits
pub to_z-twos : (p : ℕ) → p < 2 ^ 64 → to_z w64 p ≡ twos_complement 64 p
to_z-twos p h = by (nat_lt p (2 ^ 63))
  where
    by : (t : Bool) → sel t (pos p) (negsuc (2 ^ 64 - suc p)) ≡ cond t (pos p) (pos p -ℤ pos (2 ^ 64))
    by true = refl
    by false = omega (arith, ints)

-- and the bits of a signed number
pub of_z-pattern_of : (z : ℤ) → FitsSigned w64 z → of_z w64 z ≡ pattern_of z
unfolding pattern_of residue
of_z-pattern_of (pos n) f = let s = f.sfits in sym (mod-eq_of_lt (omega arith))
of_z-pattern_of (negsuc n) f = let s = f.sfits in let e : n % 2 ^ 64 ≡ n = mod-eq_of_lt (omega arith) in omega arith

fits-shr_z : (x : ℤ) (m : ℕ) → FitsSigned w64 x → FitsSigned w64 (shr_z x m)
fits-shr_z x m f = record { sfits = omega (arith, f.sfits, mag_shr x m) }

-- a signed shift down, and its bits
pub shr_machine : (x : ℤ) (m : ℕ) → FitsSigned w64 x → of_z w64 (to_z w64 (of_z w64 (shr_z (to_z w64 (of_z w64 x)) m))) ≡ pattern_of (shr_z x m)
shr_machine x m f =
    let g = fits-shr_z x m f in
    ap (λ y. of_z w64 (to_z w64 (of_z w64 (shr_z y m)))) (to_z-of_z w64 x f)
    ∙ ap (of_z w64) (to_z-of_z w64 (shr_z x m) g) ∙ of_z-pattern_of (shr_z x m) g

-- ---- the lowest bits, shifted to the top and down again

abbrev Down : ℕ → Type 0
Down w = (b : ℕ) → b < 2 ^ 64 → b * 2 ^ (64 - w) % 2 ^ 64 / 2 ^ (64 - w) ≡ b % 2 ^ w

down_is : (kind : Kind) → IsKind kind → Down kind.width
down_is kind k = by_width Down (λ b h. omega arith) (λ b h. omega arith) (λ b h. omega arith) (λ b h. omega arith) kind.width k

twos_low : (w r : ℕ) → r < 2 ^ (w - 1) → pos r ≡ twos_complement w r
twos_low w r h = ⊎_elim (λ c. sym c.1) (λ c. absurd (let high = c.0 in omega arith)) (twos_cases w r)

twos_high : (w r : ℕ) → 2 ^ (w - 1) ≤ r → pos r -ℤ pos (2 ^ w) ≡ twos_complement w r
twos_high w r h = ⊎_elim (λ c. absurd (let low = c.0 in omega arith)) (λ c. sym c.1) (twos_cases w r)

shr_twos : (w m h r : ℕ) → h / m ≡ r → h < 2 ^ 64 → (h < 2 ^ 63 → r < 2 ^ (w - 1)) → (2 ^ 63 ≤ h → (2 ^ (w - 1) ≤ r) × ((2 ^ 64 - 1 - h) / m + r + 1 ≡ 2 ^ w)) → shr_z (twos_complement 64 h) m ≡ twos_complement w r
shr_twos w m h r e l low high =
    ⊎_elim
    (λ c. ap (λ z. shr_z z m) c.1 ∙ ap pos e ∙ twos_low w r (low c.0))
    (λ c. let is : twos_complement 64 h ≡ negsuc (2 ^ 64 - 1 - h) = (let f = c.1 in omega (arith, ints)) in
    let top = high c.0 in
    let a = top.0 in
    let b = top.1 in
    ap (λ z. shr_z z m) is ∙ (omega (arith, ints)) ∙ twos_high w r a)
    (twos_cases 64 h)

abbrev SignedDown : ℕ → Type 0
SignedDown w = (h r : ℕ) → h / 2 ^ (64 - w) ≡ r → h < 2 ^ 64 → shr_z (twos_complement 64 h) (2 ^ (64 - w)) ≡ twos_complement w r

signed_down_is : (kind : Kind) → IsKind kind → SignedDown kind.width
signed_down_is kind k =
    by_width SignedDown
    (λ h r e l. shr_twos 8 (2 ^ 56) h r e l (λ a. omega arith) (λ a. (omega arith, omega arith)))
    (λ h r e l. shr_twos 16 (2 ^ 48) h r e l (λ a. omega arith) (λ a. (omega arith, omega arith)))
    (λ h r e l. shr_twos 32 (2 ^ 32) h r e l (λ a. omega arith) (λ a. (omega arith, omega arith)))
    (λ h r e l. shr_twos 64 (2 ^ 0) h r e l (λ a. omega arith) (λ a. (omega arith, omega arith)))
    kind.width k

-- ---- the kind's part of 64 bits

pub unsigned_part : (kind : Kind) (b : ℕ) → IsKind kind → kind.signed ≡ false → b < 2 ^ 64 → b * 2 ^ (64 - kind.width) % 2 ^ 64 / 2 ^ (64 - kind.width) ≡ wrapped kind (pos b)
unfolding wrapped fit residue pattern_of
unsigned_part kind b k s h =
    let w = width_is kind k in
    let low = mod-lt b {m = 2 ^ kind.width} (omega (arith, w.halves, w.half)) in
    let all : b % 2 ^ kind.width < 2 ^ 64 = omega (arith, w.halves, w.within) in
    down_is kind k b h ∙ sym (mod-eq_of_lt all) ∙ ap (λ t. pattern_of (reading t kind.width (b % 2 ^ kind.width))) (sym s)

pub signed_part : (kind : Kind) (b : ℕ) (x : ℤ) (r : ℕ) → IsKind kind → kind.signed ≡ true → b < 2 ^ 64 → x ≡ to_z w64 (b * 2 ^ (64 - kind.width) % 2 ^ 64) → r ≡ of_z w64 (to_z w64 (of_z w64 (shr_z (to_z w64 (of_z w64 x)) (2 ^ (64 - kind.width))))) → r ≡ wrapped kind (pos b)
unfolding wrapped fit residue
signed_part kind b x r k s h e f =
    let m = 2 ^ (64 - kind.width) in
    let high = b * m % 2 ^ 64 in
    let small : high < 2 ^ 64 = mod-lt (b * m) (omega arith) in
    let is = e ∙ to_z-twos high small in
    let range : FitsSigned w64 x = omega (arith, ints) in
    f ∙ shr_machine x m range ∙ ap (λ z. pattern_of (shr_z z m)) is
    ∙ ap pattern_of (signed_down_is kind k high (b % 2 ^ kind.width) (down_is kind k b h) small)
    ∙ ap (λ t. pattern_of (reading t kind.width (b % 2 ^ kind.width))) (sym s)

-- ---- the numbers of the operands

pub number_of-unsigned : (kind : Kind) (p : ℕ) → kind.signed ≡ false → number_of kind p ≡ pos p
unfolding number_of
number_of-unsigned kind p s = ap (λ t. reading t 64 p) s

pub number_of-signed : (kind : Kind) (p : ℕ) → kind.signed ≡ true → p < 2 ^ 64 → number_of kind p ≡ to_z w64 p
unfolding number_of
number_of-signed kind p s h = ap (λ t. reading t 64 p) s ∙ sym (to_z-twos p h)

pub fits_read : (x : ℤ) (p : ℕ) → x ≡ to_z w64 p → FitsSigned w64 x
fits_read x p e = omega (arith, ints)

-- an operand of a signed operation of the machine
pub signed_operand : (kind : Kind) (p : ℕ) (x : ℤ) → kind.signed ≡ true → p < 2 ^ 64 → x ≡ to_z w64 p → to_z w64 (of_z w64 x) ≡ number_of kind p
signed_operand kind p x s h e = to_z-of_z w64 x (fits_read x p e) ∙ e ∙ sym (number_of-signed kind p s h)

-- ---- comparisons

pub signed_less : (kind : Kind) (a b : ℕ) (x y : ℤ) → kind.signed ≡ true → a < 2 ^ 64 → b < 2 ^ 64 → x ≡ to_z w64 a → y ≡ to_z w64 b → lt_z (to_z w64 (of_z w64 x)) (to_z w64 (of_z w64 y)) ≡ is_less kind a b
unfolding is_less
signed_less kind a b x y s h k e f =
    ap (λ z. lt_z z (to_z w64 (of_z w64 y))) (signed_operand kind a x s h e) ∙ ap (λ z. lt_z (number_of kind a) z) (signed_operand kind b y s k f)

pub unsigned_less : (kind : Kind) (a b : ℕ) → kind.signed ≡ false → nat_lt a b ≡ is_less kind a b
unfolding is_less
unsigned_less kind a b s =
    sym (ap (λ z. lt_z z (number_of kind b)) (number_of-unsigned kind a s) ∙ ap (λ z. lt_z (pos a) z) (number_of-unsigned kind b s))

pub is_less-tells : (kind : Kind) (a b : ℕ) → IsTrue (is_less kind a b) ↔ (number_of kind a <ℤ number_of kind b)
unfolding is_less
is_less-tells kind a b = (λ t. omega (arith, ints), λ h. sym (true_is_lt (number_of kind a) (number_of kind b) (omega (arith, ints))))

pub is_equal-tells : (kind : Kind) (a b : ℕ) → IsTrue (is_equal kind a b) ↔ (number_of kind a ≡ number_of kind b)
unfolding is_equal
is_equal-tells kind a b = Decides-int_eq (number_of kind a) (number_of kind b)

same_pattern : (kind : Kind) (a b : ℕ) → a < 2 ^ 64 → b < 2 ^ 64 → number_of kind a ≡ number_of kind b → a ≡ b
same_pattern kind a b h k e = sym (pattern_of-number_of kind a h) ∙ ap pattern_of e ∙ pattern_of-number_of kind b k

pub machine_equal : (kind : Kind) (a b : ℕ) → a < 2 ^ 64 → b < 2 ^ 64 → (a == b) ≡ is_equal kind a b
unfolding is_equal
machine_equal kind a b h k =
    same_from_decides (a == b) (int_eq (number_of kind a) (number_of kind b)) (Decides-eqb a b)
    (Decides-like (int_eq (number_of kind a) (number_of kind b)) (same_pattern kind a b h k) (ap (number_of kind)) (Decides-int_eq (number_of kind a) (number_of kind b)))

-- a test that is known carries over to what it tells
pub told : (P : Type 0) (r t : Bool) → r ≡ t → (IsTrue t ↔ P) → IsTrue r ↔ P
told P r t e h = (λ g. h.0 (sym e ∙ g), λ p. e ∙ h.1 p)

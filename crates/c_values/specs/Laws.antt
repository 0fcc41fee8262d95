-- What follows from the definitions of kinds, fit and the operators, for those who rest on them.
use Rattle.std.specs.Prelude.{◌≡◌, ◌↔◌, ℕ, ◌^◌, ◌<◌, ◌≤◌, true, false, ℤ, pos, ◌+ℤ◌, ◌-ℤ◌, ◌*ℤ◌, unsigned_abs, Some, ◌-◌, ◌<ℤ◌, ◌≤ℤ◌, ◌&&◌, ◌||◌, not, is_none, IsTrue, if◌then◌else◌}
use Rattle.std.specs.Int.{bit_at}
use Rattle.c_values.specs.declared.kinds.Kind.{Kind}
use Rattle.c_values.specs.declared.operators.UnaryOp.{UnaryOp}
use Rattle.c_values.specs.declared.operators.BinaryOp.{BinaryOp}
use Rattle.c_values.specs.Kind.{IsKind, IsValue, IsInRange, number_of, residue, pattern_of, fit, wrapped, converted, int, promoted, common}
use Rattle.c_values.specs.Operations.{quotient_of, remainder_of, has_quotient, is_shift_amount, is_less, is_equal, is_shift, is_division, unary_kind, unary_value, binary_kind, binary_value}

-- the residue is below m, and a multiple of m away from the number
abbrev pub ResidueIsAMultipleAway : Type 0
ResidueIsAMultipleAway =
    (n : ℤ) (m : ℕ) → 0 < m → (residue n m < m) × (k : ℤ) × (n ≡ k *ℤ pos m +ℤ pos (residue n m))

-- a value is 64 bits that stand for a number of the range, and is the pattern of that number
abbrev pub ValuesArePatternsOfNumbers : Type 0
ValuesArePatternsOfNumbers =
    (kind : Kind) (p : ℕ) → IsKind kind →
    (IsValue kind p ↔ ((p < 2 ^ 64) × IsInRange kind (number_of kind p)))
    × (p < 2 ^ 64 → pattern_of (number_of kind p) ≡ p)

-- each number of the range has a pattern, which stands for it
abbrev pub NumbersHavePatterns : Type 0
NumbersHavePatterns =
    (kind : Kind) (n : ℤ) → IsKind kind → IsInRange kind n →
    IsValue kind (pattern_of n) × (number_of kind (pattern_of n) ≡ n)

-- fit is in the range, equal to the number modulo 2 ^ width, and the only such number (6.3.1.3)
abbrev pub FitIsTheOne : Type 0
FitIsTheOne =
    (kind : Kind) (n : ℤ) → IsKind kind →
    IsInRange kind (fit kind n)
    × (residue (fit kind n) (2 ^ kind.width) ≡ residue n (2 ^ kind.width))
    × ((m : ℤ) → IsInRange kind m → residue m (2 ^ kind.width) ≡ residue n (2 ^ kind.width) → m ≡ fit kind n)

-- a number of the range is its own fit, so to fit twice is to fit once
abbrev pub FitIsIdempotent : Type 0
FitIsIdempotent =
    (kind : Kind) (n : ℤ) → IsKind kind →
    (IsInRange kind n → fit kind n ≡ n) × (fit kind (fit kind n) ≡ fit kind n)

-- two numbers are equal modulo 2 ^ width
abbrev pub IsSameIn : Kind → ℤ → ℤ → Type 0
IsSameIn kind m n = residue m (2 ^ kind.width) ≡ residue n (2 ^ kind.width)

-- fit of a sum, a difference and a product depends on the operands modulo 2 ^ width alone
abbrev pub FitOfSum : Type 0
FitOfSum =
    (kind : Kind) (a b c d : ℤ) → IsKind kind → IsSameIn kind a c → IsSameIn kind b d →
    fit kind (a +ℤ b) ≡ fit kind (c +ℤ d)

abbrev pub FitOfDifference : Type 0
FitOfDifference =
    (kind : Kind) (a b c d : ℤ) → IsKind kind → IsSameIn kind a c → IsSameIn kind b d →
    fit kind (a -ℤ b) ≡ fit kind (c -ℤ d)

abbrev pub FitOfProduct : Type 0
FitOfProduct =
    (kind : Kind) (a b c d : ℤ) → IsKind kind → IsSameIn kind a c → IsSameIn kind b d →
    fit kind (a *ℤ b) ≡ fit kind (c *ℤ d)

-- a conversion keeps a number that the target has (6.3.1.3p1)
abbrev pub ConversionKeepsNumbersInRange : Type 0
ConversionKeepsNumbersInRange =
    (from to : Kind) (value : ℕ) → IsKind to → IsInRange to (number_of from value) →
    number_of to (converted from to value) ≡ number_of from value

-- so does one to a kind that is at least as wide and has a sign where the other has
abbrev pub WideningKeepsNumbers : Type 0
WideningKeepsNumbers =
    (from to : Kind) (value : ℕ) → IsKind to → IsValue from value → from.signed ≡ to.signed → from.width ≤ to.width →
    number_of to (converted from to value) ≡ number_of from value

-- the integer promotions, case by case (6.3.1.1p2)
abbrev pub Promotions : Type 0
Promotions =
    (kind : Kind) → IsKind kind →
    IsKind (promoted kind) × (kind.width < 32 → promoted kind ≡ int) × (32 ≤ kind.width → promoted kind ≡ kind)

-- the usual arithmetic conversions, rule by rule, for the promoted kinds of two operands (6.3.1.8p1)
pub record UsualConversions (p q c : Kind) : Type 0 where
  -- both have the same kind
  pub same : p ≡ q → c ≡ p
  -- both have a sign or both have none: the one of greater rank
  pub greater_rank : p.signed ≡ q.signed → q.width ≤ p.width → c ≡ p
  -- the one without a sign, where its rank is not below the other's
  pub without_sign : p.signed ≡ false → q.signed ≡ true → q.width ≤ p.width → c ≡ p
  -- the one with a sign, where its rank is above the other's: it then has all of the other's numbers, so that the
  -- last rule, for one that has not, never applies
  pub with_sign : p.signed ≡ true → q.signed ≡ false → q.width < p.width → c ≡ p

abbrev pub CommonKinds : Type 0
CommonKinds =
    (a b : Kind) → IsKind a → IsKind b →
    IsKind (common a b) × UsualConversions (promoted a) (promoted b) (common a b)
    × UsualConversions (promoted b) (promoted a) (common a b)

abbrev pub CommonIsSymmetric : Type 0
CommonIsSymmetric = (a b : Kind) → common a b ≡ common b a

-- quotient and remainder give the dividend back, and the remainder is smaller than the divisor (6.5.5p6)
abbrev pub QuotientAndRemainder : Type 0
QuotientAndRemainder =
    (kind : Kind) (a b q r : ℕ) → IsValue kind a → IsValue kind b →
    quotient_of kind a b ≡ Some q → remainder_of kind a b ≡ Some r →
    (number_of kind q *ℤ number_of kind b +ℤ number_of kind r ≡ number_of kind a)
    × (unsigned_abs (number_of kind r) < unsigned_abs (number_of kind b))

-- what an operator gives is a value of its kind
abbrev pub UnaryValuesAreValues : Type 0
UnaryValuesAreValues =
    (op : UnaryOp) (kind : Kind) (a : ℕ) → IsValue kind a → IsValue (unary_kind op kind) (unary_value op kind a)

abbrev pub BinaryValuesAreValues : Type 0
BinaryValuesAreValues =
    (op : BinaryOp) (kind right : Kind) (a b v : ℕ) → IsValue kind a → IsValue right b →
    (is_shift op ≡ false → right ≡ kind) → binary_value op kind right a b ≡ Some v → IsValue (binary_kind op kind) v

-- there is no value exactly at a division without quotient and at a shift by no amount of the kind
abbrev pub MissingValues : Type 0
MissingValues =
    (op : BinaryOp) (kind right : Kind) (a b : ℕ) →
    is_none (binary_value op kind right a b)
    ≡ ((is_division op && not (has_quotient kind a b)) || (is_shift op && not (is_shift_amount kind right b)))

-- the comparisons by numbers: `a <= b` is that b is not below a
abbrev pub Comparisons : Type 0
Comparisons =
    (kind : Kind) (a b : ℕ) →
    (IsTrue (is_less kind a b) ↔ (number_of kind a <ℤ number_of kind b))
    × (IsTrue (not (is_less kind b a)) ↔ (number_of kind a ≤ℤ number_of kind b))
    × (IsTrue (is_equal kind a b) ↔ (number_of kind a ≡ number_of kind b))

-- fit bit by bit: the lowest bits stay, and above them each bit is that of the sign, or 0 in a kind without sign
abbrev pub BitsOfFit : Type 0
BitsOfFit =
    (kind : Kind) (bits i : ℕ) → IsKind kind → i < 64 →
    (i < kind.width → bit_at (wrapped kind (pos bits)) i ≡ bit_at bits i)
    × (kind.width ≤ i → bit_at (wrapped kind (pos bits)) i ≡ (if kind.signed then bit_at bits (kind.width - 1) else 0))

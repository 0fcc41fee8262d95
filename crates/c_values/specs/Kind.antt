-- The integer kinds of the profile of C, their values, and how a value is kept in a pattern of 64 bits
-- (ISO/IEC 9899:2011, 6.2.5, 6.2.6.2, 6.3.1.1, 6.3.1.3 and 6.3.1.8).
use Rattle.std.specs.Prelude.{ℕ, ◌-◌, ◌%◌, ◌^◌, Bool, true, false, ◌&&◌, ◌||◌, if◌then◌else◌, ◌==◌, nat_lt, nat_le, ℤ, pos, negsuc, neg_ℤ, ◌-ℤ◌, ◌≤ℤ◌, int_le, IsTrue}
use Rattle.c_values.specs.declared.kinds.Kind.{Kind}

-- the integer types have 8, 16, 32 or 64 bits (5.2.4.2.1, by this profile)
abbrev pub is_kind : Kind → Bool
is_kind kind = kind.width == 8 || kind.width == 16 || kind.width == 32 || kind.width == 64

abbrev pub IsKind : Kind → Type 0
IsKind kind = IsTrue (is_kind kind)

-- the number that bits stand for in two's complement of a width, where the highest bit counts -(2 ^ (width - 1))
-- (6.2.6.2p2)
abbrev pub twos_complement : ℕ → ℕ → ℤ
twos_complement width bits =
    if nat_lt bits (2 ^ (width - 1)) then pos bits else (pos bits -ℤ pos (2 ^ width))

-- the number that bits of a width stand for, with a sign or without
abbrev pub reading : Bool → ℕ → ℕ → ℤ
reading true width bits = twos_complement width bits
reading false width bits = pos bits

-- which whole number a pattern of 64 bits stands for in a kind
unfoldable pub number_of : Kind → ℕ → ℤ
number_of kind pattern = reading kind.signed 64 pattern

-- the least and the greatest number of a kind (5.2.4.2.1, 6.2.6.2)
unfoldable pub least : Kind → ℤ
least kind = if kind.signed then neg_ℤ (pos (2 ^ (kind.width - 1))) else pos 0

unfoldable pub greatest : Kind → ℤ
greatest kind = if kind.signed then pos (2 ^ (kind.width - 1) - 1) else pos (2 ^ kind.width - 1)

abbrev pub is_in_range : Kind → ℤ → Bool
is_in_range kind n = int_le (least kind) n && int_le n (greatest kind)

-- a number of the kind's range
abbrev pub IsInRange : Kind → ℤ → Type 0
IsInRange kind n = (least kind ≤ℤ n) × (n ≤ℤ greatest kind)

-- 64 bits that stand for a number of the kind's range
unfoldable pub is_value : Kind → ℕ → Bool
is_value kind pattern = is_kind kind && nat_lt pattern (2 ^ 64) && is_in_range kind (number_of kind pattern)

abbrev pub IsValue : Kind → ℕ → Type 0
IsValue kind pattern = IsTrue (is_value kind pattern)

-- the number from 0 to m - 1 that equals n modulo m
unfoldable pub residue : ℤ → ℕ → ℕ
residue (pos n) m = n % m
residue (negsuc n) m = m - 1 - n % m

-- the one number of the kind's range that equals n modulo 2 ^ width (6.3.1.3)
unfoldable pub fit : Kind → ℤ → ℤ
fit kind n = reading kind.signed kind.width (residue n (2 ^ kind.width))

-- the pattern that keeps a number: its 64 bits in two's complement
unfoldable pub pattern_of : ℤ → ℕ
pattern_of n = residue n (2 ^ 64)

-- the pattern of what a kind has of a number
unfoldable pub wrapped : Kind → ℤ → ℕ
wrapped kind n = pattern_of (fit kind n)

-- ---- conversions

-- a value of the first kind, converted to the second (6.3.1.3)
unfoldable pub converted : Kind → Kind → ℕ → ℕ
converted from to value = wrapped to (number_of from value)

-- int, of 32 bits by this profile
abbrev pub int : Kind
int = record { width = 32; signed = true }

-- each number of the second kind's range is in the first's
abbrev pub holds_all : Kind → Kind → Bool
holds_all wide narrow = int_le (least wide) (least narrow) && int_le (greatest narrow) (greatest wide)

-- the integer promotions (6.3.1.1p2): int, if an int can represent all values
unfoldable pub promoted : Kind → Kind
promoted kind = if holds_all int kind then int else kind

-- of two promoted kinds, the signed first: the rank is the width (6.3.1.8p1, third to fifth rule)
abbrev pub mixed : Kind → Kind → Kind
mixed with_sign without =
    if nat_le with_sign.width without.width then without
    else (if holds_all with_sign without then with_sign else record { width = with_sign.width; signed = false })

-- of two kinds with a sign, or two without, that of greater rank (6.3.1.8p1, second rule)
abbrev pub wider : Kind → Kind → Kind
wider a b = if nat_le b.width a.width then a else b

abbrev pub joined : Kind → Kind → Bool → Bool → Kind
joined a b true true = wider a b
joined a b true false = mixed a b
joined a b false true = mixed b a
joined a b false false = wider a b

-- the common kind of two operands, by the usual arithmetic conversions (6.3.1.8p1)
unfoldable pub common : Kind → Kind → Kind
common a b = joined (promoted a) (promoted b) (promoted a).signed (promoted b).signed

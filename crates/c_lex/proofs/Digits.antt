-- The number that digits write, digit by digit.
use Rattle.std.proofs.Common.{◌≡◌, ℕ, ◌+◌, ◌*◌, ◌<◌, ◌≤◌, List, [], ◌∷◌, drop, length, arith, get_or}
use Rattle.std.proofs.lemmas.List.{at_drop_all, at_drop_more}
use Rattle.std.specs.Char.{digit_value}
use Rattle.std.specs.Str.Parse.{digits_value_after}
use Rattle.c_lex.specs.declared.constant.Base.{Base}
use Rattle.c_lex.specs.declared.constant.Base.TheVariants.{Decimal, Octal, Hexadecimal}
use Rattle.c_lex.specs.Constants.{radix}

-- a digit more writes no smaller number
digit_more : (base : Base) (n d : ℕ) → n ≤ n * radix base + d
digit_more Decimal n d = omega arith
digit_more Octal n d = omega arith
digit_more Hexadecimal n d = omega arith

-- more digits write no smaller number
≤-digits_value_after : (base : Base) (n : ℕ) (digits : List ℕ) → n ≤ digits_value_after (radix base) n digits
≤-digits_value_after base n [] = omega arith
≤-digits_value_after base n (c ∷ cs) =
    omega (arith, digit_more base n (digit_value c), ≤-digits_value_after base (n * radix base + digit_value c) cs)

-- once the digits up to a place write too much, all of them do
pub too_much : (base : Base) (digits : List ℕ) (i n most total d : ℕ) → i < length digits → digits_value_after (radix base) n (drop i digits) ≡ total
    → most ≤ n * radix base + digit_value (get_or digits i d) → most ≤ total
too_much base digits i n most total d within is large =
    let more = at_drop_more (digits_value_after (radix base) n) digits i d within in
    omega (arith, more, is, large, ≤-digits_value_after base (n * radix base + digit_value (get_or digits i d)) (drop (i + 1) digits))

-- at the end the number is what was made of them
pub at_end : (base : Base) (digits : List ℕ) (i n total : ℕ) → length digits ≤ i → digits_value_after (radix base) n (drop i digits) ≡ total → n ≡ total
at_end base digits i n total done is = let all = at_drop_all (digits_value_after (radix base) n) digits i done in omega (arith, all, is)

pub not_below : (m n : ℕ) → (m < n → ⊥) → n ≤ m
not_below m n h = omega arith

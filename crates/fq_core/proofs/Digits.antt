-- The number that decimal digits write, digit by digit.
use Rattle.std.proofs.Common.{◌≡◌, ℕ, ◌+◌, ◌*◌, ◌<◌, ◌≤◌, List, [], ◌∷◌, drop, length, arith, get_or}
use Rattle.std.proofs.lemmas.List.{at_drop_all, at_drop_more}
use Rattle.std.specs.Char.{digit_value}
use Rattle.std.specs.Str.Parse.{digits_value_after}

-- more digits write no smaller number
≤-digits_value_after : (n : ℕ) (digits : List ℕ) → n ≤ digits_value_after 10 n digits
≤-digits_value_after n [] = omega arith
≤-digits_value_after n (c ∷ cs) = omega (arith, ≤-digits_value_after (n * 10 + digit_value c) cs)

-- once the digits up to a place write too much, all of them do
pub too_much : (digits : List ℕ) (i n most total d : ℕ) → i < length digits → digits_value_after 10 n (drop i digits) ≡ total
    → most ≤ n * 10 + digit_value (get_or digits i d) → most ≤ total
too_much digits i n most total d within is large =
    let more = at_drop_more (digits_value_after 10 n) digits i d within in
    omega (arith, more, is, large, ≤-digits_value_after (n * 10 + digit_value (get_or digits i d)) (drop (i + 1) digits))

-- at the end the number is what was made of them
pub at_end : (digits : List ℕ) (i n total : ℕ) → length digits ≤ i → digits_value_after 10 n (drop i digits) ≡ total → n ≡ total
at_end digits i n total done is = let all = at_drop_all (digits_value_after 10 n) digits i done in omega (arith, all, is)

-- Numbers of at most nine digits.
use Rattle.std.proofs.Common.{◌≡◌, ℕ, suc, ◌+◌, ◌*◌, ◌^◌, ◌<◌, ◌≤◌, Bool, true, false, List, [], ◌∷◌, length, take, drop, get_or, leb, drop-cons, refl, arith}
use Rattle.std.proofs.lemmas.Bool.{and_parts, leb-true}
use Rattle.std.proofs.Math.Numerals.{one-add}
use Rattle.std.proofs.Math.Nat.{pow-suc, pow-le-pow_right}
use Rattle.std.proofs.lemmas.List.Folds.{length-prefix_len}
use Rattle.std.specs.List.{prefix_len, list_all}
use Rattle.fql_tokens.specs.Bytes.{is_digit}

pub few_digits : (text : List ℕ) → length (take (prefix_len is_digit text) text) ≡ prefix_len is_digit text
few_digits text = length-prefix_len is_digit text

pub all_digits : (text : List ℕ) → list_all is_digit (take (prefix_len is_digit text) text) ≡ true
all_digits [] = refl
all_digits (b ∷ bs) = at (is_digit b) refl (all_digits bs)
  where
    at : (v : Bool) → is_digit b ≡ v → list_all is_digit (take (prefix_len is_digit bs) bs) ≡ true → list_all is_digit (take (prefix_len is_digit (b ∷ bs)) (b ∷ bs)) ≡ true
    at true e h = rw (e, one-add) (rw e h)
    at false e h = rw e refl

-- one more digit
pub one_more : (i v d : ℕ) → i < 9 → v < 10 ^ i → d ≤ 9 → v * 10 + d < 10 ^ suc i
one_more i v d lt small digit = omega (arith, pow-suc 10 i)

pub fits : (i : ℕ) → i < 9 → 10 ^ suc i ≤ 1000000000
fits i lt = let h : 10 ^ suc i ≤ 10 ^ 9 = pow-le-pow_right (omega arith) {i = suc i} {j = 9} (omega arith) in h

first_digit : (b : ℕ) (bs : List ℕ) → list_all is_digit (b ∷ bs) ≡ true → (48 ≤ b) × (b ≤ 57)
first_digit b bs h =
    let parts = and_parts (is_digit b) (list_all is_digit bs) h in
    let both = and_parts (leb 48 b) (leb b 57) parts.0 in
    (leb-true 48 b both.0, leb-true b 57 both.1)

pub digit_at : (digits : List ℕ) (i d : ℕ) → i < length digits → list_all is_digit (drop i digits) ≡ true → (48 ≤ get_or digits i d) × (get_or digits i d ≤ 57)
digit_at digits i d lt h = first_digit (get_or digits i d) (drop (suc i) digits) (rw (drop-cons digits i d) at h)

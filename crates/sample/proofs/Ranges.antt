-- What each number of a range gives, one after another.
use Rattle.std.proofs.Common.{◌≡◌, ℕ, ◌+◌, zero, suc, List, ◌++◌, refl, ap, add-one, add-zero, arith, append_assoc, append-nil}
use Rattle.std.specs.List.{flat_map, range_with_len}

-- one more number
pub flat_map-range_more : (f : ℕ → List ℕ) (a n : ℕ) → flat_map f (range_with_len a (n + 1)) ≡ flat_map f (range_with_len a n) ++ f (a + n)
flat_map-range_more f a zero = rw (add-zero, append-nil) refl
flat_map-range_more f a (suc n) =
    let more : flat_map f (range_with_len (a + 1) (n + 1)) ≡ flat_map f (range_with_len (a + 1) n) ++ f ((a + 1) + n) = flat_map-range_more f (a + 1) n in
    let same : (a + 1) + n ≡ a + suc n = omega arith in
    let at_end = rw (add-one n, same) at more in
    rw (add-one (suc n), append_assoc) (ap (λ xs. f a ++ xs) at_end)

-- a text that has what the numbers below one give, with what that number gives
pub next : (f : ℕ → List ℕ) (n : ℕ) (old text new : List ℕ) → text ≡ old ++ flat_map f (range_with_len 1 n) → new ≡ text ++ f (n + 1) → new ≡ old ++ flat_map f (range_with_len 1 (n + 1))
next f n old text new so_far is =
    let same : 1 + n ≡ n + 1 = omega arith in
    rw (is, so_far, append_assoc, flat_map-range_more f 1 n, same) refl

-- three pieces, one after another
pub joined : (old first second third a b c : List ℕ) → first ≡ old ++ a → second ≡ first ++ b → third ≡ second ++ c → third ≡ old ++ (a ++ b ++ c)
joined old first second third a b c p q r = rw (r, q, p, append_assoc, append_assoc) (rw append_assoc refl)

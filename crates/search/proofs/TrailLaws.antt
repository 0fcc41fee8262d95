-- Trails as numbers to base 3.
use Rattle.std.proofs.Common.{◌≡◌, ℕ, zero, suc, ◌*◌, ◌^◌, ◌<◌, ◌≤◌, List, [], ◌∷◌, ◌++◌, length, take, refl, ◌∙◌, ap, arith, Option, None, Some}
use Rattle.std.proofs.Math.Nat.{pow-suc}
use Rattle.std.specs.Prelude.{slice_get}
use Rattle.search.specs.declared.trail.Entry.{Entry}
use Rattle.search.specs.Laws.{digit, number_of}

triple : (n : ℕ) → 3 ^ suc n ≡ 3 ^ n * 3
triple n = pow-suc 3 n

positive : (n : ℕ) → 0 < 3 ^ n
positive zero = omega arith
positive (suc n) = let t = triple n in let p = positive n in omega arith

-- a digit is 1 or 2
by_digit : (e : Entry) (n : ℕ) → (3 ^ n ≤ digit e * 3 ^ n) × (digit e * 3 ^ n ≤ 2 * 3 ^ n)
by_digit e n = by_reason e.reason
  where
    by_reason : (r : Option ℕ) → (3 ^ n ≤ digit record { literal = e.literal; reason = r } * 3 ^ n) × (digit record { literal = e.literal; reason = r } * 3 ^ n ≤ 2 * 3 ^ n)
    by_reason None = (omega arith, omega arith)
    by_reason (Some k) = (omega arith, omega arith)

pub below_power : (n : ℕ) (trail : List Entry) → number_of n trail < 3 ^ n
below_power zero trail = omega arith
below_power (suc n) [] = positive (suc n)
below_power (suc n) (e ∷ trail) =
    let rest = below_power n trail in
    let high = (by_digit e n).1 in
    let t = triple n in
    omega arith

-- one more entry
pub rises_by_entry : (n : ℕ) (trail : List Entry) (e : Entry) → length trail < n → number_of n trail < number_of n (trail ++ e ∷ [])
rises_by_entry zero trail e h = absurd (omega arith)
rises_by_entry (suc n) [] e h = let low = (by_digit e n).0 in let p = positive n in omega arith
rises_by_entry (suc n) (f ∷ trail) e h = let rest = rises_by_entry n trail e (omega arith) in omega arith

-- an implied entry in place of a decided one and of all behind it
pub rises_by_cut : (n : ℕ) (trail : List Entry) (cut : ℕ) (decided e : Entry) (k : ℕ) → slice_get trail cut ≡ Some decided → decided.reason ≡ None → e.reason ≡ Some k → length trail ≤ n
    → number_of n trail < number_of n (take cut trail ++ e ∷ [])
rises_by_cut n [] cut decided e k at d r h = absurd cc
rises_by_cut zero (f ∷ trail) cut decided e k at d r h = absurd (omega arith)
rises_by_cut (suc n) (f ∷ trail) zero decided e k at d r h =
    let same : f ≡ decided = cc in
    let one : digit f ≡ 1 = ap digit same ∙ of_decided decided d in
    let two : digit e ≡ 2 = of_implied e k r in
    let rest = below_power n trail in
    rw (one, two) (omega (arith, rest))
  where
    of_decided : (g : Entry) → g.reason ≡ None → digit g ≡ 1
    of_decided g q = rw q refl

    of_implied : (g : Entry) (j : ℕ) → g.reason ≡ Some j → digit g ≡ 2
    of_implied g j q = rw q refl
rises_by_cut (suc n) (f ∷ trail) (suc cut) decided e k at d r h =
    let rest = rises_by_cut n trail cut decided e k at d r (omega arith) in omega arith

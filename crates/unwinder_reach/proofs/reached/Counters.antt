-- Counters of which the last is raised.
use Rattle.std.proofs.Common.{◌≡◌, ℕ, zero, suc, ◌+◌, List, [], ◌∷◌, length, get_or, sym, ap, arith}
use Rattle.std.specs.Prelude.{Contains, slice_set}
use Rattle.cfa.specs.Contexts.{last_raised}

pub raised_set : (xs : List ℕ) (k v d : ℕ) → k + 1 ≡ length xs → v ≡ get_or xs k d → slice_set xs k (v + 1) ≡ last_raised xs
raised_set [] k v d l e = absurd (omega (arith, l))
raised_set (n ∷ []) zero v d l e = ap (λ m. (m + 1) ∷ []) e
raised_set (n ∷ []) (suc k) v d l e = absurd (omega (arith, l))
raised_set (n ∷ m ∷ ns) zero v d l e = absurd (omega (arith, l))
raised_set (n ∷ m ∷ ns) (suc k) v d l e = ap (λ r. n ∷ r) (raised_set (m ∷ ns) k v d (omega (arith, l)) e)

behind : (n x : ℕ) (ns : List ℕ) → Contains ns x → Contains (n ∷ ns) x
behind n x ns h = (suc h.0, omega (arith, h.1), h.2)

pub raised_has : (xs : List ℕ) (k v d : ℕ) → k + 1 ≡ length xs → v ≡ get_or xs k d → Contains (last_raised xs) (v + 1)
raised_has [] k v d l e = absurd (omega (arith, l))
raised_has (n ∷ []) zero v d l e = (0, omega arith, ap (λ m. m + 1) (sym e))
raised_has (n ∷ []) (suc k) v d l e = absurd (omega (arith, l))
raised_has (n ∷ m ∷ ns) zero v d l e = absurd (omega (arith, l))
raised_has (n ∷ m ∷ ns) (suc k) v d l e = behind n (v + 1) (last_raised (m ∷ ns)) (raised_has (m ∷ ns) k v d (omega (arith, l)) e)

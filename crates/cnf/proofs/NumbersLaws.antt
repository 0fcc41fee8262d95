-- Clauses by their numbers.
use Rattle.std.proofs.Common.{◌≡◌, ℕ, zero, suc, ◌+◌, ◌-◌, ◌<◌, ◌≤◌, List, [], ◌∷◌, ◌++◌, length, take, map, refl, sym, ◌∙◌, ap, arith, None}
use Rattle.std.specs.Prelude.{ℤ, slice_get}
use Rattle.std.specs.Option.{option_map}
use Rattle.std.proofs.lemmas.Option.{slice_get-map}
use Rattle.cnf.specs.declared.derivation.DerivationLine.{DerivationLine}
use Rattle.cnf.specs.Checks.{numbered}

-- ---- lists

pub slice_get_front : {X : Type 0} (xs ys : List X) (i : ℕ) → i < length xs → slice_get (xs ++ ys) i ≡ slice_get xs i
slice_get_front [] ys i h = absurd (omega arith)
slice_get_front (x ∷ xs) ys zero h = refl
slice_get_front (x ∷ xs) ys (suc i) h = slice_get_front xs ys i (omega arith)

pub slice_get_back : {X : Type 0} (xs ys : List X) (i : ℕ) → slice_get (xs ++ ys) (length xs + i) ≡ slice_get ys i
slice_get_back [] ys i = let e : 0 + i ≡ i = omega arith in rw e refl
slice_get_back (x ∷ xs) ys i = let e : suc (length xs) + i ≡ suc (length xs + i) = omega arith in rw e (slice_get_back xs ys i)

slice_get_taken : {X : Type 0} (xs : List X) (n i : ℕ) → i < n → slice_get (take n xs) i ≡ slice_get xs i
slice_get_taken xs zero i h = absurd (omega arith)
slice_get_taken [] (suc n) i h = refl
slice_get_taken (x ∷ xs) (suc n) zero h = refl
slice_get_taken (x ∷ xs) (suc n) (suc i) h = slice_get_taken xs n i (omega arith)

slice_get_beyond : {X : Type 0} (xs : List X) (n i : ℕ) → n ≤ i → slice_get (take n xs) i ≡ None
slice_get_beyond xs zero i h = refl
slice_get_beyond [] (suc n) i h = refl
slice_get_beyond (x ∷ xs) (suc n) zero h = absurd (omega arith)
slice_get_beyond (x ∷ xs) (suc n) (suc i) h = slice_get_beyond xs n i (omega arith)

-- ---- numbers

-- the clauses of the first lines stand after those of the formula
pub numbered_line : (clauses : List (List ℤ)) (lines : List DerivationLine) (before number : ℕ) → length clauses < number → number - 1 - length clauses < before
    → numbered (clauses ++ map (λ line. line.clause) (take before lines)) number ≡ option_map (λ line. line.clause) (slice_get lines (number - 1 - length clauses))
numbered_line clauses lines before zero h s = absurd (omega arith)
numbered_line clauses lines before (suc n) h s =
    let at : n ≡ length clauses + (suc n - 1 - length clauses) = omega arith in
    ap (slice_get (clauses ++ map (λ line. line.clause) (take before lines))) at
    ∙ slice_get_back clauses (map (λ line. line.clause) (take before lines)) (suc n - 1 - length clauses)
    ∙ slice_get-map (λ line. line.clause) (take before lines) (suc n - 1 - length clauses)
    ∙ ap (option_map (λ line. line.clause)) (slice_get_taken lines before (suc n - 1 - length clauses) s)

pub numbered_past : (clauses : List (List ℤ)) (lines : List DerivationLine) (before number : ℕ) → length clauses < number → before ≤ number - 1 - length clauses
    → None ≡ numbered (clauses ++ map (λ line. line.clause) (take before lines)) number
numbered_past clauses lines before zero h s = absurd (omega arith)
numbered_past clauses lines before (suc n) h s =
    let at : n ≡ length clauses + (suc n - 1 - length clauses) = omega arith in
    sym (ap (slice_get (clauses ++ map (λ line. line.clause) (take before lines))) at
    ∙ slice_get_back clauses (map (λ line. line.clause) (take before lines)) (suc n - 1 - length clauses)
    ∙ slice_get-map (λ line. line.clause) (take before lines) (suc n - 1 - length clauses)
    ∙ ap (option_map (λ line. line.clause)) (slice_get_beyond lines before (suc n - 1 - length clauses) s))

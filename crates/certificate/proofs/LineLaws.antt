-- The numbers of a line of a derivation.
use Rattle.std.proofs.Common.{◌≡◌, ℕ, Bool, true, false, ◌||◌, List, [], ◌∷◌, ◌++◌, refl, sym, ◌∙◌, ap, arith}
use Rattle.std.specs.Prelude.{ℤ, pos}
use Rattle.std.specs.Ordering.{int_eq}
use Rattle.cnf.specs.declared.derivation.DerivationLine.{DerivationLine}
use Rattle.cnf.specs.Clauses.{literal_key, has_literal}
use Rattle.cnf.proofs.ClauseLaws.{same_literal, equal_literal}
use Rattle.certificate.specs.Certificates.{RisesWithin, IsStepOver, AreStepsOver, IsLineOver, numbers_of_steps, numbers_of_line}

or_first : (a b : Bool) → (a || b) ≡ false → a ≡ false
or_first true b e = e
or_first false b e = refl

or_rest : (a b : Bool) → (a || b) ≡ false → b ≡ false
or_rest true b e = absurd cc
or_rest false b e = e

or_true : (a : Bool) → (a || true) ≡ true
or_true true = refl
or_true false = refl

own_zero : int_eq (pos 0) (pos 0) ≡ true
own_zero = equal_literal (pos 0) (pos 0) refl

no_zero_here : (x : ℤ) (xs : List ℤ) → x ≡ pos 0 → has_literal (x ∷ xs) (pos 0) ≡ false → ⊥
no_zero_here x xs e h =
    let differs : int_eq x (pos 0) ≡ false = or_first (int_eq x (pos 0)) (has_literal xs (pos 0)) h in
    let no_zero : true ≡ false = sym (equal_literal x (pos 0) e) ∙ differs in
    absurd cc

cut_zero_once : (a b c d : List ℤ) → has_literal a (pos 0) ≡ false → has_literal c (pos 0) ≡ false → a ++ pos 0 ∷ b ≡ c ++ pos 0 ∷ d → (a ≡ c) × (b ≡ d)
cut_zero_once [] b [] d g h e = (refl, cc)
cut_zero_once [] b (y ∷ ys) d g h e = let first : y ≡ pos 0 = cc in absurd (no_zero_here y ys first h)
cut_zero_once (x ∷ xs) b [] d g h e = let first : x ≡ pos 0 = cc in absurd (no_zero_here x xs first g)
cut_zero_once (x ∷ xs) b (y ∷ ys) d g h e =
    let first : x ≡ y = cc in
    let tails : xs ++ pos 0 ∷ b ≡ ys ++ pos 0 ∷ d = cc in
    let rest = cut_zero_once xs b ys d (or_rest (int_eq x (pos 0)) (has_literal xs (pos 0)) g) (or_rest (int_eq y (pos 0)) (has_literal ys (pos 0)) h) tails in
    (let tail : xs ≡ ys = rest.0 in cc, rest.1)

pub clause_lacks_zero : (variables low : ℕ) (xs : List ℤ) → RisesWithin variables low xs → has_literal xs (pos 0) ≡ false
clause_lacks_zero variables low [] r = refl
clause_lacks_zero variables low (x ∷ xs) r = by_test (int_eq x (pos 0)) refl (clause_lacks_zero variables (literal_key x) xs r.2)
  where
    by_test : (t : Bool) → int_eq x (pos 0) ≡ t → has_literal xs (pos 0) ≡ false → (int_eq x (pos 0) || has_literal xs (pos 0)) ≡ false
    by_test false e rest = rw e rest
    by_test true e rest = let zero_is : x ≡ pos 0 = same_literal x (pos 0) e in absurd (omega (arith, r.0, ap literal_key zero_is))

has_zero : (xs ys : List ℤ) → has_literal (xs ++ pos 0 ∷ ys) (pos 0) ≡ true
has_zero [] ys = rw own_zero refl
has_zero (x ∷ xs) ys = rw (has_zero xs ys) (or_true (int_eq x (pos 0)))

pub no_zero : (numbers : List ℤ) (line : DerivationLine) → has_literal numbers (pos 0) ≡ false → numbers ≡ numbers_of_line line → ⊥
no_zero numbers line h e =
    let no_mark : true ≡ false = sym (has_zero line.clause (pos line.first ∷ numbers_of_steps line.steps)) ∙ sym (ap (λ (zs : List ℤ). has_literal zs (pos 0)) e) ∙ h in
    absurd cc

-- a row of numbers, cut at its first 0, is that of a line
pub line_parts : (variables : ℕ) (numbers clause chain : List ℤ) (line : DerivationLine) → numbers ≡ clause ++ pos 0 ∷ chain → has_literal clause (pos 0) ≡ false → IsLineOver variables line
    → numbers ≡ numbers_of_line line → (clause ≡ line.clause) × (chain ≡ pos line.first ∷ numbers_of_steps line.steps)
line_parts variables numbers clause chain line e h over f =
    cut_zero_once clause chain line.clause (pos line.first ∷ numbers_of_steps line.steps) h (clause_lacks_zero variables 0 line.clause over.0) (sym e ∙ f)

pub no_chain : (chain : List ℤ) (first : ℤ) (steps : List ℤ) → chain ≡ [] → chain ≡ first ∷ steps → ⊥
no_chain chain first steps e f = absurd (let h : [] ≡ first ∷ steps = sym e ∙ f in cc)

pub chain_first : (chain : List ℤ) (a b : ℤ) (xs ys : List ℤ) → chain ≡ a ∷ xs → chain ≡ b ∷ ys → a ≡ b
chain_first chain a b xs ys e f = cc

pub chain_rest : (chain : List ℤ) (a b : ℤ) (xs ys : List ℤ) → chain ≡ a ∷ xs → chain ≡ b ∷ ys → xs ≡ ys
chain_rest chain a b xs ys e f = cc

-- ---- steps

pub record StepsLeft (variables : ℕ) (rest : List ℤ) : Type 0 where
  pub steps : List (ℕ × ℤ)
  pub over : AreStepsOver variables steps
  pub numbers : rest ≡ numbers_of_steps steps

pub steps_left : (variables : ℕ) (ss ts : List (ℕ × ℤ)) (rest : List ℤ) → AreStepsOver variables ts → numbers_of_steps ss ++ rest ≡ numbers_of_steps ts → StepsLeft variables rest
steps_left variables [] ts rest t e = record { steps = ts; over = t; numbers = e }
steps_left variables (s ∷ ss) [] rest t e = absurd cc
steps_left variables (s ∷ ss) (u ∷ us) rest t e =
    let tails : numbers_of_steps ss ++ rest ≡ numbers_of_steps us = cc in
    steps_left variables ss us rest t.1 tails

pub odd_steps : (variables : ℕ) (numbers rest after : List ℤ) (antecedent : ℤ) (ss : List (ℕ × ℤ)) → numbers ≡ numbers_of_steps ss ++ rest → rest ≡ antecedent ∷ after → after ≡ []
    → (ts : List (ℕ × ℤ)) → AreStepsOver variables ts → numbers ≡ numbers_of_steps ts → ⊥
odd_steps variables numbers rest after antecedent ss e f g ts t h =
    let left = steps_left variables ss ts rest t (sym e ∙ h) in
    odd left.steps (sym f ∙ left.numbers)
  where
    odd : (us : List (ℕ × ℤ)) → antecedent ∷ after ≡ numbers_of_steps us → ⊥
    odd [] k = absurd cc
    odd (u ∷ us) k = let tail : [] ≡ u.1 ∷ numbers_of_steps us = cc in absurd cc

pub bad_step : (variables : ℕ) (numbers rest after more : List ℤ) (antecedent pivot : ℤ) (ss : List (ℕ × ℤ)) → numbers ≡ numbers_of_steps ss ++ rest → rest ≡ antecedent ∷ after → after ≡ pivot ∷ more
    → ((step : ℕ × ℤ) → IsStepOver variables step → antecedent ≡ pos step.0 → pivot ≡ step.1 → ⊥)
    → (ts : List (ℕ × ℤ)) → AreStepsOver variables ts → numbers ≡ numbers_of_steps ts → ⊥
bad_step variables numbers rest after more antecedent pivot ss e f g bad ts t h =
    let left = steps_left variables ss ts rest t (sym e ∙ h) in
    by_steps left.steps left.over (sym f ∙ left.numbers)
  where
    by_steps : (us : List (ℕ × ℤ)) → AreStepsOver variables us → antecedent ∷ after ≡ numbers_of_steps us → ⊥
    by_steps [] o k = absurd cc
    by_steps (u ∷ us) o k =
        let tail : pivot ∷ more ≡ u.1 ∷ numbers_of_steps us = cc in
        let first : antecedent ≡ pos u.0 = cc in
        let second : pivot ≡ u.1 = cc in
        bad u o.0 first second

pub steps_over_more : (variables : ℕ) (ss : List (ℕ × ℤ)) (s : ℕ × ℤ) → AreStepsOver variables ss → IsStepOver variables s → AreStepsOver variables (ss ++ s ∷ [])
steps_over_more variables [] s o p = (p, tt)
steps_over_more variables (u ∷ us) s o p = (o.0, steps_over_more variables us s o.1 p)

pub numbers_more : (ss : List (ℕ × ℤ)) (s : ℕ × ℤ) (numbers rest after more : List ℤ) (antecedent pivot : ℤ) → numbers ≡ numbers_of_steps ss ++ rest → rest ≡ antecedent ∷ after → after ≡ pivot ∷ more
    → antecedent ≡ pos s.0 → pivot ≡ s.1 → numbers ≡ numbers_of_steps (ss ++ s ∷ []) ++ more
numbers_more ss s numbers rest after more antecedent pivot e f g h k = e ∙ ap (λ (r : List ℤ). numbers_of_steps ss ++ r) (f ∙ rw (g, h, k) refl) ∙ again ss
  where
    again : (us : List (ℕ × ℤ)) → numbers_of_steps us ++ pos s.0 ∷ s.1 ∷ more ≡ numbers_of_steps (us ++ s ∷ []) ++ more
    again [] = refl
    again (u ∷ us) = let rest = again us in cc

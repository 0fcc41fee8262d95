-- Literals that set variables, and the parts that they make.
use Rattle.std.proofs.Common.{◌≡◌, ℕ, zero, suc, ◌+◌, ◌<◌, Bool, true, false, List, [], ◌∷◌, ◌++◌, map, Option, Some, None, refl, sym, ap, ◌∙◌, arith, append_assoc, append-nil}
use Rattle.std.specs.Prelude.{ℤ, pos, negsuc, neg_ℤ, not, ◌&&◌, slice_get}
use Rattle.std.specs.List.{filter_map, list_all}
use Rattle.std.proofs.lemmas.List.Folds.{list_all-append}
use Rattle.cnf.specs.Formulas.{is_true_literal}
use Rattle.goal_formula_laws.specs.formula_laws.Orders.{FirstDifferAt}
use Rattle.goal_formula.specs.Bits.{bit_in}
use Rattle.least_input.specs.Fixing.{literal_of, parts_from, parts_of, variable_of}
use Rattle.least_input.specs.Parts.{set_as}
use Rattle.least_input.proofs.Rows.{AllNumbers}

-- ---- one more literal

parts_more_from : (before xs : List ℤ) (x : ℤ) → parts_from before (xs ++ x ∷ []) ≡ parts_from before xs ++ parts_from (before ++ xs) (x ∷ [])
parts_more_from before [] x = ap (λ b. parts_from b (x ∷ [])) (sym (append-nil before))
parts_more_from before (pos n ∷ xs) x =
    ap (λ ps. (before ++ neg_ℤ (pos n) ∷ []) ∷ ps) (parts_more_from (before ++ pos n ∷ []) xs x ∙ ap (λ b. parts_from (before ++ pos n ∷ []) xs ++ parts_from b (x ∷ [])) (append_assoc before (pos n ∷ []) xs))
parts_more_from before (negsuc n ∷ xs) x =
    parts_more_from (before ++ negsuc n ∷ []) xs x ∙ ap (λ b. parts_from (before ++ negsuc n ∷ []) xs ++ parts_from b (x ∷ [])) (append_assoc before (negsuc n ∷ []) xs)

pub parts_zero : (xs : List ℤ) (n : ℕ) → parts_of (xs ++ negsuc n ∷ []) ≡ parts_of xs
parts_zero xs n = parts_more_from [] xs (negsuc n) ∙ append-nil (parts_of xs)

pub parts_one : (xs : List ℤ) (n : ℕ) → parts_of (xs ++ pos (suc n) ∷ []) ≡ parts_of xs ++ (xs ++ negsuc n ∷ []) ∷ []
parts_one xs n = parts_more_from [] xs (pos (suc n))

-- ---- which are true

not_true : (b : Bool) → not b ≡ true → b ≡ false
not_true true e = absurd cc
not_true false e = refl

pub both_true : (a b : Bool) → (a && b) ≡ true → (a ≡ true) × (b ≡ true)
both_true true b e = (refl, e)
both_true false b e = absurd cc

pub join_true : (a b : Bool) → a ≡ true → b ≡ true → (a && b) ≡ true
join_true a b p q = (λ i. p i && q i)

true_setting : (value : ℕ → Bool) (x : ℤ) → is_true_literal value x ≡ true → x ≡ literal_of (value (variable_of x)) (variable_of x)
true_setting value (pos zero) e = absurd cc
true_setting value (pos (suc n)) e = ap (λ b. literal_of b (suc n)) (sym e)
true_setting value (negsuc n) e =
    let next : suc n ≡ n + 1 = omega arith in
    ap (λ b. literal_of b (suc n)) (sym (not_true (value (suc n)) e)) ∙ ap (λ m. literal_of (value m) m) next

-- literals that are true set their variables as the assignment has them
pub set_by_true : (value : ℕ → Bool) (units : List ℤ) → list_all (is_true_literal value) units ≡ true → units ≡ set_as value (map variable_of units)
set_by_true value [] e = refl
set_by_true value (x ∷ units) e =
    let both = both_true (is_true_literal value x) (list_all (is_true_literal value) units) e in
    let here = true_setting value x both.0 in
    let rest = set_by_true value units both.1 in
    λ i. here i ∷ rest i

pub set_true : (value : ℕ → Bool) (b : Bool) (n : ℕ) → 0 < n → value n ≡ b → is_true_literal value (literal_of b n) ≡ true
set_true value b zero lt e = absurd (omega (arith, lt))
set_true value true (suc n) lt e = e
set_true value false (suc n) lt e = ap not e

-- ---- the part of the first bit in which another assignment has 0

-- a part all of whose literals are true
pub record IsTruePart (value : ℕ → Bool) (parts : List (List ℤ)) : Type 0 where
  pub at : ℕ
  pub units : List ℤ
  pub there : slice_get parts at ≡ Some units
  pub holds : list_all (is_true_literal value) units ≡ true

later : (value : ℕ → Bool) (part : List ℤ) (parts : List (List ℤ)) → IsTruePart value parts → IsTruePart value (part ∷ parts)
later value part parts h = record { at = suc h.at; units = h.units; there = h.there; holds = h.holds }

-- behind one more literal
past : (value : ℕ → Bool) (before : List ℤ) (x : ℤ) (xs : List ℤ) → IsTruePart value (parts_from (before ++ x ∷ []) xs) → IsTruePart value (parts_from before (x ∷ xs))
past value before (pos n) xs h = later value (before ++ neg_ℤ (pos n) ∷ []) (parts_from (before ++ pos n ∷ []) xs) h
past value before (negsuc n) xs h = h

all_more : (value : ℕ → Bool) (before : List ℤ) (x : ℤ) → list_all (is_true_literal value) before ≡ true → is_true_literal value x ≡ true → list_all (is_true_literal value) (before ++ x ∷ []) ≡ true
all_more value before x p q =
    list_all-append (is_true_literal value) before (x ∷ [])
    ∙ join_true (list_all (is_true_literal value) before) (list_all (is_true_literal value) (x ∷ [])) p (join_true (is_true_literal value x) true q refl)

differ_rest : (xs ys : List Bool) (x y : Bool) (k : ℕ) → FirstDifferAt (x ∷ xs) (y ∷ ys) (suc k) → FirstDifferAt xs ys k
differ_rest xs ys x y k h = record { within = let within = h.within in omega (arith, within); unset = h.unset; set = h.set; before = λ i lt. h.before (suc i) (omega (arith, lt)) }

module _ (value other : ℕ → Bool) where
  abbrev Differ : List (Option ℕ) → ℕ → Type 0
  Differ vs k = FirstDifferAt (map (bit_in other) vs) (map (bit_in value) vs) k

  pub part_there : (before : List ℤ) (vs : List (Option ℕ)) (k : ℕ) → AllNumbers (λ n. 0 < n) vs → Differ vs k → list_all (is_true_literal other) before ≡ true
      → IsTruePart other (parts_from before (set_as value (filter_map (λ v. v) vs)))
  part_there before [] k some h holds = let within = h.within in absurd (omega (arith, within))
  part_there before (None ∷ vs) zero some h holds = let e : false ≡ true = h.set in absurd cc
  part_there before (None ∷ vs) (suc k) some h holds = part_there before vs k some (differ_rest (map (bit_in other) vs) (map (bit_in value) vs) false false k h) holds
  part_there before (Some n ∷ vs) zero some h holds = here (value n) h.set
    where
      here : (b : Bool) → b ≡ true → IsTruePart other (parts_from before (literal_of b n ∷ set_as value (filter_map (λ v. v) vs)))
      here true e = record { at = 0; units = before ++ neg_ℤ (pos n) ∷ []; there = refl; holds = all_more other before (neg_ℤ (pos n)) holds (set_true other false n some.0 h.unset) }
      here false e = absurd cc
  part_there before (Some n ∷ vs) (suc k) some h holds =
      let same : other n ≡ value n = h.before 0 (omega arith) in
      let x = literal_of (value n) n in
      let own = all_more other before x holds (set_true other (value n) n some.0 same) in
      past other before x (set_as value (filter_map (λ v. v) vs))
      (part_there (before ++ x ∷ []) vs k some.1 (differ_rest (map (bit_in other) vs) (map (bit_in value) vs) (other n) (value n) k h) own)

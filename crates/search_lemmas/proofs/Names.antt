-- Literals named anew are true where the others are.
use Rattle.std.proofs.Common.{◌≡◌, ℕ, zero, suc, ◌≤◌, ◌<◌, ◌^◌, Bool, not, ◌||◌, List, [], ◌∷◌, ◌++◌, length, get_or, Option, None, Some, refl, sym, ◌∙◌, ap, subst, arith}
use Rattle.std.specs.Prelude.{ℤ, pos, negsuc, neg_ℤ, IfOk, IfSome, IsSomeAnd, Result, Ok, Err}
use Rattle.circuit.specs.Truth.{World}
use Rattle.circuit.specs.declared.lit.Gate.{Gate}
use Rattle.clause_form.specs.Encoding.{variable_of}
use Rattle.cnf.specs.Formulas.{is_true_clause, is_true_literal}
use Rattle.search_lemmas.specs.Holding.{HoldsAlways, IsKnown, variable_value, wire_value}
use Rattle.search_lemmas.specs.Naming.{AreNamed, IsNamed}

-- what the two numbers of a table's place stand for is the same
abbrev pub Agree : List (Option ℕ) → (ℕ → Bool) → (ℕ → Bool) → Type 0
Agree table value other = (k n : ℕ) → variable_of table (suc k) ≡ Some n → value (suc k) ≡ other n

module _ (table : List (Option ℕ)) (value other : ℕ → Bool) (agree : Agree table value other) where
  positive : (k : ℕ) (y : ℤ) (o : Option ℕ) → variable_of table (suc k) ≡ o → IsSomeAnd o (λ n. (0 < n) × (n < 2 ^ 31) × (y ≡ pos n)) → value (suc k) ≡ is_true_literal other y
  positive k y None e h = absurd h
  positive k y (Some zero) e h = absurd (omega (arith, h.0))
  positive k y (Some (suc n)) e h = agree k (suc n) e ∙ ap (is_true_literal other) (sym h.2)

  negative : (k : ℕ) (y : ℤ) (o : Option ℕ) → variable_of table (suc k) ≡ o → IsSomeAnd o (λ n. (0 < n) × (n < 2 ^ 31) × (y ≡ neg_ℤ (pos n))) → not (value (suc k)) ≡ is_true_literal other y
  negative k y None e h = absurd h
  negative k y (Some zero) e h = absurd (omega (arith, h.0))
  negative k y (Some (suc n)) e h = ap not (agree k (suc n) e) ∙ ap (is_true_literal other) (sym h.2)

  named_true : (x y : ℤ) → IsNamed table x y → is_true_literal value x ≡ is_true_literal other y
  named_true (pos zero) y h = absurd h
  named_true (pos (suc k)) y h = positive k y (variable_of table (suc k)) refl h
  named_true (negsuc k) y h = negative k y (variable_of table (suc k)) refl h

  pub names_true : (xs ys : List ℤ) → AreNamed table xs ys → is_true_clause value xs ≡ is_true_clause other ys
  names_true [] [] h = refl
  names_true [] (y ∷ ys) h = absurd h
  names_true (x ∷ xs) [] h = absurd h
  names_true (x ∷ xs) (y ∷ ys) h = ap (λ b. b || is_true_clause value xs) (named_true x y h.0) ∙ ap (λ b. is_true_literal other y || b) (names_true xs ys h.1)

pub named_more : (table : List (Option ℕ)) (xs ys : List ℤ) (x y : ℤ) → AreNamed table xs ys → IsNamed table x y → AreNamed table (xs ++ x ∷ []) (ys ++ y ∷ [])
named_more table [] [] x y h own = (own, tt)
named_more table [] (z ∷ ys) x y h own = absurd h
named_more table (z ∷ xs) [] x y h own = absurd h
named_more table (z ∷ xs) (u ∷ ys) x y h own = (h.0, named_more table xs ys x y h.1 own)

-- a variable's wire, by the table itself
own_wires : (gates : List Gate) (wires : List (Option ℕ)) (w : World) → Agree wires (variable_value gates wires w) (wire_value gates w)
own_wires gates wires w k n e = let same : variable_of wires (suc k) ≡ Some n = e in rw same refl

-- a clause over variables and the one over their wires
pub always_known : (gates : List Gate) (wires : List (Option ℕ)) (clause other : List ℤ) → AreNamed wires clause other → HoldsAlways gates other → IsKnown gates wires clause
always_known gates wires clause other named holds = λ w. names_true wires (variable_value gates wires w) (wire_value gates w) (own_wires gates wires w) clause other named ∙ holds w

pub known_always : (gates : List Gate) (wires : List (Option ℕ)) (clause other : List ℤ) → AreNamed wires clause other → IsKnown gates wires clause → HoldsAlways gates other
known_always gates wires clause other named known = λ w. sym (names_true wires (variable_value gates wires w) (wire_value gates w) (own_wires gates wires w) clause other named) ∙ known w

-- ---- clauses of two and of three literals

pub known_two : (gates : List Gate) (wires : List (Option ℕ)) (literals : List ℤ) (a b : ℤ) → 2 ≤ length literals → length literals < 3 → IsNamed wires (get_or literals 0 (pos 0)) a → IsNamed wires (get_or literals 1 (pos 0)) b
    → HoldsAlways gates (a ∷ b ∷ []) → IsKnown gates wires literals
known_two gates wires [] a b low high p q holds = absurd (omega arith)
known_two gates wires (x ∷ []) a b low high p q holds = absurd (omega arith)
known_two gates wires (x ∷ y ∷ []) a b low high p q holds = always_known gates wires (x ∷ y ∷ []) (a ∷ b ∷ []) (p, (q, tt)) holds
known_two gates wires (x ∷ y ∷ z ∷ rest) a b low high p q holds = absurd (omega arith)

pub known_three : (gates : List Gate) (wires : List (Option ℕ)) (literals : List ℤ) (a b d : ℤ) → 3 ≤ length literals → length literals < 4 → IsNamed wires (get_or literals 0 (pos 0)) a → IsNamed wires (get_or literals 1 (pos 0)) b → IsNamed wires (get_or literals 2 (pos 0)) d
    → HoldsAlways gates (a ∷ b ∷ d ∷ []) → IsKnown gates wires literals
known_three gates wires [] a b d low high p q r holds = absurd (omega arith)
known_three gates wires (x ∷ []) a b d low high p q r holds = absurd (omega arith)
known_three gates wires (x ∷ y ∷ []) a b d low high p q r holds = absurd (omega arith)
known_three gates wires (x ∷ y ∷ z ∷ []) a b d low high p q r holds = always_known gates wires (x ∷ y ∷ z ∷ []) (a ∷ b ∷ d ∷ []) (p, (q, (r, tt))) holds
known_three gates wires (x ∷ y ∷ z ∷ u ∷ rest) a b d low high p q r holds = absurd (omega arith)

-- ---- what a call may answer

pub some_is : {A : Type 0} (P : A → Type 0) (o : Option A) (x : A) → o ≡ Some x → IfSome o P → P x
some_is P o x e h = let own : IfSome (Some x) P = subst (λ y. IfSome y P) e h in own

pub if_some_more : {A E : Type 0} (P Q : A → Type 0) (r : Result (Option A) E) → ((x : A) → P x → Q x) → IfOk r (λ made. IfSome made P) → IfOk r (λ made. IfSome made Q)
if_some_more P Q (Ok None) f h = tt
if_some_more P Q (Ok (Some x)) f h = f x h
if_some_more P Q (Err e) f h = tt

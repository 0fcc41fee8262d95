-- When an assignment makes the clauses of literals true.
use Rattle.std.proofs.Common.{◌≡◌, ℕ, zero, suc, ◌+◌, ◌*◌, ◌≤◌, ◌<◌, ◌^◌, Bool, true, false, not, ◌&&◌, ◌||◌, if◌then◌else◌, List, [], ◌∷◌, ◌++◌, map, refl, sym, ◌∙◌, ap, subst, arith, append_assoc}
use Rattle.std.specs.Prelude.{ℤ, pos, negsuc, neg_ℤ, Option, Some, unwrap_or, filter, ◌==◌}
use Rattle.std.specs.List.{list_all, list_any}
use Rattle.std.specs.Bool.{beq}
use Rattle.std.proofs.Math.Dec.{eqb-suc-zero}
use Rattle.std.proofs.lemmas.Bool.{lt-ltb}
use Rattle.circuit.specs.declared.lit.Lit.{Lit}
use Rattle.circuit.specs.declared.lit.Gate.TheVariants.{And}
use Rattle.circuit.specs.Sharing.{inverse, lit_of}
use Rattle.cnf.specs.Clauses.{literal_key, IsClause}
use Rattle.cnf.specs.Formulas.{is_true_literal, is_true_clause}
use Rattle.clause_form.specs.Encoding.{variable_of, literal_of, is_yes, is_no, disjunction, gate_clauses, is_over}
use Rattle.clause_form.specs.Parts.{conjunction_clauses}

-- a variable with a sign
abbrev pub signed : Bool → ℕ → ℤ
signed negated n = if negated then neg_ℤ (pos n) else pos n

pub flipped : (negated : Bool) (n : ℕ) → neg_ℤ (signed negated n) ≡ signed (not negated) n
flipped true zero = refl
flipped true (suc n) = refl
flipped false n = refl

pub literal_is : (variable : List (Option ℕ)) (l : Lit) (n : ℕ) → variable_of variable l.wire ≡ Some n → literal_of variable l ≡ signed l.negated n
literal_is variable l n there = ap (λ o. signed l.negated (unwrap_or o 0)) there

pub inverse_is : (variable : List (Option ℕ)) (l : Lit) → literal_of variable (inverse l) ≡ neg_ℤ (literal_of variable l)
inverse_is variable l = sym (flipped l.negated (unwrap_or (variable_of variable l.wire) 0))

pub key_within : (negated : Bool) (n : ℕ) → 0 < n → (2 * n ≤ literal_key (signed negated n)) × (literal_key (signed negated n) ≤ 2 * n + 1)
key_within negated zero lt = absurd (omega arith)
key_within true (suc n) lt = (omega arith, omega arith)
key_within false (suc n) lt = (omega arith, omega arith)

pub rising_two : (s t : Bool) (m n : ℕ) → 0 < m → m < n → n < 2 ^ 31 → IsClause (signed s m ∷ signed t n ∷ [])
rising_two s t m n low rise high =
    let p = key_within s m low in
    let q = key_within t n (omega arith) in
    (omega arith, omega arith, (omega arith, omega arith, tt))

pub rising_three : (s t u : Bool) (l m n : ℕ) → 0 < l → l < m → m < n → n < 2 ^ 31 → IsClause (signed s l ∷ signed t m ∷ signed u n ∷ [])
rising_three s t u l m n low rise more high =
    let p = key_within s l low in
    let q = key_within t m (omega arith) in
    let r = key_within u n (omega arith) in
    (omega arith, omega arith, (omega arith, omega arith, (omega arith, omega arith, tt)))

-- ---- literals that aren't constant

abbrev pub AreNotConstant : List Lit → Type 0
AreNotConstant [] = Unit {0}
AreNotConstant (l ∷ ls) = (0 < l.wire) × AreNotConstant ls

not_zero : (n : ℕ) → 0 < n → (n == 0) ≡ false
not_zero zero lt = absurd (omega arith)
not_zero (suc n) lt = eqb-suc-zero n

no_yes : (ls : List Lit) → AreNotConstant ls → list_any is_yes ls ≡ false
no_yes [] h = refl
no_yes (l ∷ ls) h = rw (not_zero l.wire h.0) (no_yes ls h.1)

all_stay : (ls : List Lit) → AreNotConstant ls → filter (λ l. not (is_no l)) ls ≡ ls
all_stay [] h = refl
all_stay (l ∷ ls) h = rw (not_zero l.wire h.0) (ap (λ xs. l ∷ xs) (all_stay ls h.1))

pub disjunction_is : (variable : List (Option ℕ)) (ls : List Lit) → AreNotConstant ls → disjunction variable ls ≡ map (literal_of variable) ls ∷ []
disjunction_is variable ls h =
    ap (λ b. if b then [] else map (literal_of variable) (filter (λ l. not (is_no l)) ls) ∷ []) (no_yes ls h)
    ∙ ap (λ xs. map (literal_of variable) xs ∷ []) (all_stay ls h)

pub gate_clauses_are : (variable : List (Option ℕ)) (wire : ℕ) (a b : Lit) → 0 < wire → 0 < a.wire → 0 < b.wire
    → gate_clauses variable wire (And a b) ≡ conjunction_clauses (literal_of variable (lit_of wire)) (literal_of variable a) (literal_of variable b)
gate_clauses_are variable wire a b p q r =
    rw (
      disjunction_is variable (a ∷ inverse (lit_of wire) ∷ []) (q, (p, tt)),
      disjunction_is variable (b ∷ inverse (lit_of wire) ∷ []) (r, (p, tt)),
      disjunction_is variable (inverse a ∷ inverse b ∷ lit_of wire ∷ []) (q, (r, (p, tt))),
      inverse_is variable a,
      inverse_is variable b,
      inverse_is variable (lit_of wire),
    )
    refl

-- ---- truth

pub truth_of : (value : ℕ → Bool) (negated : Bool) (n : ℕ) → 0 < n → is_true_literal value (signed negated n) ≡ (if negated then not (value n) else value n)
truth_of value negated zero lt = absurd (omega arith)
truth_of value true (suc n) lt = refl
truth_of value false (suc n) lt = refl

not_not : (b : Bool) → not (not b) ≡ b
not_not true = refl
not_not false = refl

negated_truth : (value : ℕ → Bool) (x : ℤ) → 0 < literal_key x → is_true_literal value (neg_ℤ x) ≡ not (is_true_literal value x)
negated_truth value (pos zero) lt = absurd (omega arith)
negated_truth value (pos (suc n)) lt = refl
negated_truth value (negsuc n) lt = sym (not_not (value (suc n)))

three : (g a b : Bool) → ((a || (not g || false)) && ((b || (not g || false)) && ((not a || (not b || (g || false))) && true))) ≡ beq g (a && b)
three true true true = refl
three true true false = refl
three true false true = refl
three true false false = refl
three false true true = refl
three false true false = refl
three false false true = refl
three false false false = refl

-- the three clauses of a gate are true exactly where its literal is as both others
pub conjunction_truth : (value : ℕ → Bool) (g a b : ℤ) → 0 < literal_key g → 0 < literal_key a → 0 < literal_key b
    → list_all (is_true_clause value) (conjunction_clauses g a b) ≡ beq (is_true_literal value g) (is_true_literal value a && is_true_literal value b)
conjunction_truth value g a b p q r =
    rw (negated_truth value g p, negated_truth value a q, negated_truth value b r) (three (is_true_literal value g) (is_true_literal value a) (is_true_literal value b))

pub same_beq : (a b : Bool) → beq a b ≡ true → a ≡ b
same_beq true true h = refl
same_beq true false h = cc
same_beq false true h = cc
same_beq false false h = refl

pub beq_same : (a b : Bool) → a ≡ b → beq a b ≡ true
beq_same true b h = subst (λ x. beq true x ≡ true) h refl
beq_same false b h = subst (λ x. beq false x ≡ true) h refl

-- ---- which variables they are of

pub over : (variables : ℕ) (negated : Bool) (n : ℕ) → 0 < n → n ≤ variables → is_over variables (signed negated n) ≡ true
over variables negated zero lt le = absurd (omega arith)
over variables negated (suc n) lt le = let k = key_within negated (suc n) lt in rw (lt-ltb 1 (literal_key (signed negated (suc n))) (omega arith), lt-ltb (literal_key (signed negated (suc n))) (2 * variables + 2) (omega arith)) refl

-- ---- clauses one after another

pub pushed_three : {A : Type 0} (xs ys zs ws : List A) (x y z : A) → ys ≡ xs ++ x ∷ [] → zs ≡ ys ++ y ∷ [] → ws ≡ zs ++ z ∷ [] → ws ≡ xs ++ x ∷ y ∷ z ∷ []
pushed_three xs ys zs ws x y z e f g =
    g ∙ ap (λ l. l ++ z ∷ []) (f ∙ ap (λ l. l ++ y ∷ []) e ∙ append_assoc xs (x ∷ []) (y ∷ [])) ∙ append_assoc xs (x ∷ y ∷ []) (z ∷ [])

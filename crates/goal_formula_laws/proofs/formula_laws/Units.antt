-- Formulas with unit clauses.
use Rattle.std.proofs.Common.{◌≡◌, ◌↔◌, Bool, true, false, List, [], ◌∷◌, refl, sym, ◌∙◌}
use Rattle.std.proofs.Math.Bool.{and-true, or-false}
use Rattle.std.proofs.lemmas.List.Folds.{list_all-append}
use Rattle.std.specs.List.{list_all}
use Rattle.std.specs.Prelude.{ℤ, ◌&&◌}
use Rattle.cnf.proofs.ChecksLaws.{no_model}
use Rattle.cnf.specs.Formulas.{is_true_clause, is_true_literal}
use Rattle.goal_formula_laws.specs.formula_laws.Laws.{UnitsHold, UnitsKeep, UnitsRefuted}
use Rattle.goal_formula_laws.specs.formula_laws.Units.{unit_clauses, with_units}

both : (a b c d e : Bool) → a ≡ (b && c) → b ≡ d → c ≡ e → (a ≡ true) ↔ ((d ≡ true) × (e ≡ true))
both a b c d e all p q = (λ h. split d e (sym (all ∙ (λ i. p i && q i)) ∙ h), λ h. all ∙ (λ i. p i && q i) ∙ (λ i. h.0 i && h.1 i))
  where
    split : (x y : Bool) → (x && y) ≡ true → (x ≡ true) × (y ≡ true)
    split true true h = (refl, refl)
    split true false h = absurd cc
    split false y h = absurd cc

-- what a test of clauses says of units, where of each it says what a test of its literal says
units_are : (clause_test : List ℤ → Bool) (test : ℤ → Bool) → ((x : ℤ) → clause_test (x ∷ []) ≡ test x) → (literals : List ℤ) → list_all clause_test (unit_clauses literals) ≡ list_all test literals
units_are clause_test test one [] = refl
units_are clause_test test one (x ∷ xs) =
    let here = one x in
    let rest = units_are clause_test test one xs in
    λ i. here i && rest i

pub units_hold : UnitsHold
units_hold value formula literals =
    both (list_all (is_true_clause value) (with_units formula literals).clauses) (list_all (is_true_clause value) formula.clauses) (list_all (is_true_clause value) (unit_clauses literals))
    (list_all (is_true_clause value) formula.clauses) (list_all (is_true_literal value) literals)
    (list_all-append (is_true_clause value) formula.clauses (unit_clauses literals)) refl
    (units_are (is_true_clause value) (is_true_literal value) (λ x. or-false (is_true_literal value x)) literals)

pub units_keep : UnitsKeep
units_keep test formula literals =
    both (list_all (list_all test) (with_units formula literals).clauses) (list_all (list_all test) formula.clauses) (list_all (list_all test) (unit_clauses literals))
    (list_all (list_all test) formula.clauses) (list_all test literals)
    (list_all-append (list_all test) formula.clauses (unit_clauses literals)) refl
    (units_are (list_all test) test (λ x. and-true (test x)) literals)

pub units_refuted : UnitsRefuted
units_refuted value formula literals derivation checks holds units =
    no_model (with_units formula literals) derivation value checks ((units_hold value formula literals).1 (holds, units))

-- A lesson as a clause of a goal's formula.
use Rattle.std.proofs.Common.{◌≡◌, ℕ, zero, suc, ◌≤◌, ◌<◌, Bool, true, false, ◌&&◌, List, [], ◌∷◌, ◌++◌, length, take, Option, Some, refl, sym, ◌∙◌, subst, arith}
use Rattle.std.specs.Prelude.{ℤ}
use Rattle.std.specs.List.{list_all}
use Rattle.std.proofs.lemmas.List.Folds.{list_all-append}
use Rattle.circuit.specs.declared.lit.Gate.{Gate}
use Rattle.clause_form.specs.Encoding.{is_over, variable_of}
use Rattle.cnf.specs.Formulas.{Satisfies, is_true_clause}
use Rattle.cnf.specs.declared.formula.Formula.{Formula}
use Rattle.goal_formula.specs.Forms.{HasWorlds}
use Rattle.goal_formula.specs.declared.goal.GoalFormula.{GoalFormula}
use Rattle.search_lemmas.specs.Giving.{SaysTheSame}
use Rattle.search_lemmas.specs.Holding.{HoldsAlways, wire_value}
use Rattle.search_lemmas.specs.Naming.{AreNamed}
use Rattle.search_lemmas.proofs.Names.{names_true}

-- a number in the first part of a table stands in the table
first_part : (table : List (Option ℕ)) (count k n : ℕ) → variable_of (take count table) (suc k) ≡ Some n → (k < count) × (variable_of table (suc k) ≡ Some n)
first_part table zero k n e = absurd cc
first_part [] (suc count) k n e = absurd cc
first_part (x ∷ table) (suc count) zero n e = (omega arith, e)
first_part (x ∷ table) (suc count) (suc k) n e = let rest = first_part table count k n e in (omega (arith, rest.0), rest.1)

-- a lesson holds in each assignment that satisfies the formula
pub lesson_follows : (gates : List Gate) (g : GoalFormula) (count : ℕ) (lesson clause : List ℤ) → HasWorlds gates g → count ≤ length gates → HoldsAlways gates lesson → AreNamed (take count g.variable) lesson clause
    → (value : ℕ → Bool) → Satisfies value g.formula → is_true_clause value clause ≡ true
lesson_follows gates g count lesson clause worlds le holds named value own =
    let it = worlds value own in
    sym (names_true (take count g.variable) (wire_value gates it.0) value
    (λ k n e. let there = first_part g.variable count k n e in sym (it.1 (suc k) n (omega (arith, there.0)) there.1)) lesson clause named)
    ∙ holds it.0

and_left : (a b : Bool) → (a && b) ≡ true → a ≡ true
and_left true b e = refl
and_left false b e = e

both : (a b : Bool) → a ≡ true → b ≡ true → (a && (b && true)) ≡ true
both a b e f = rw (e, f) refl

-- the formula itself says the same
pub says_itself : (formula : Formula) → SaysTheSame formula formula
says_itself formula = record { variables = refl; given_from = λ value own. own; own_from = λ value own. own; over = λ over. over }

-- and so with one clause more that follows from it
pub says_more : (formula given : Formula) (clause : List ℤ) → SaysTheSame formula given → ((value : ℕ → Bool) → Satisfies value formula → is_true_clause value clause ≡ true)
    → list_all (is_over formula.variables) clause ≡ true → SaysTheSame formula (record given { clauses = given.clauses ++ clause ∷ [] })
says_more formula given clause same follows over = record {
  variables = same.variables;
  given_from = λ value own.
      list_all-append (is_true_clause value) given.clauses (clause ∷ [])
      ∙ both (list_all (is_true_clause value) given.clauses) (is_true_clause value clause) (same.given_from value own) (follows value own);
  own_from = λ value own.
      same.own_from value (and_left (list_all (is_true_clause value) given.clauses) (list_all (is_true_clause value) (clause ∷ [])) (sym (list_all-append (is_true_clause value) given.clauses (clause ∷ [])) ∙ own));
  over = λ own.
      list_all-append (list_all (is_over given.variables)) given.clauses (clause ∷ [])
      ∙ both (list_all (list_all (is_over given.variables)) given.clauses) (list_all (is_over given.variables) clause) (same.over own)
      (subst (λ n. list_all (is_over n) clause ≡ true) (sym same.variables) over);
}

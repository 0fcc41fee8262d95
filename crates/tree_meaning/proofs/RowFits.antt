-- The parts of rows that fit.
use Rattle.std.proofs.Common.{◌≡◌, ℕ, zero, suc, List, [], ◌∷◌, drop, sym, subst}
use Rattle.std.specs.Prelude.{IsTrue, ◌&&◌}
use Rattle.std.specs.Borrow.{Bor}
use Rattle.std.specs.List.{list_all}
use Rattle.c_values.proofs.Fitting.{and_left, and_right}
use Rattle.c_typed_trees.specs.Fitting.{expression_fits, statement_fits}
use Rattle.c_typed_trees.specs.declared.expression.TypedExpr.{TypedExpr}
use Rattle.c_typed_trees.specs.declared.statement.TypedGroup.{TypedGroup, out-TypedGroup}
use Rattle.c_typed_trees.specs.declared.statement.TypedStatement.{TypedStatement}
use Rattle.tree_meaning.specs.Running.{FitExpression, FitExpressions, FitStatement, FitStatements, FitArms, FitGroups}

pub statement_fits_first : (l : Bor (List TypedStatement)) (x : Bor TypedStatement) (others : List TypedStatement) → l.now ≡ x.now ∷ others → FitStatements l.now → FitStatement x.now
statement_fits_first l x others e f = record { names = f.names; fits = and_left _ _ (subst (λ q. IsTrue (list_all (statement_fits f.names) q)) e f.fits) }

pub statement_fits_others : (l others : Bor (List TypedStatement)) (x : TypedStatement) → l.now ≡ x ∷ others.now → FitStatements l.now → FitStatements others.now
statement_fits_others l others x e f = record { names = f.names; fits = and_right _ _ (subst (λ q. IsTrue (list_all (statement_fits f.names) q)) e f.fits) }

pub expression_fits_first : (l : Bor (List TypedExpr)) (x : Bor TypedExpr) (others : List TypedExpr) → l.now ≡ x.now ∷ others → FitExpressions l.now → FitExpression x.now
expression_fits_first l x others e f = record { names = f.names; fits = and_left _ _ (subst (λ q. IsTrue (list_all (expression_fits f.names) q)) e f.fits) }

pub expression_fits_others : (l others : Bor (List TypedExpr)) (x : TypedExpr) → l.now ≡ x ∷ others.now → FitExpressions l.now → FitExpressions others.now
expression_fits_others l others x e f = record { names = f.names; fits = and_right _ _ (subst (λ q. IsTrue (list_all (expression_fits f.names) q)) e f.fits) }

module _ (l : Bor (List (TypedExpr × TypedStatement))) (arm : TypedExpr × TypedStatement) where
  pub arm_fits_test : (x : Bor TypedExpr) (others : List (TypedExpr × TypedStatement)) → l.now ≡ arm ∷ others → x.now ≡ arm.0 → FitArms l.now → FitExpression x.now
  arm_fits_test x others e h f =
      subst FitExpression (sym h) (record { names = f.names; fits = and_left _ (statement_fits f.names arm.1) (and_left _ _ (subst (λ q. IsTrue (list_all (λ (a : TypedExpr × TypedStatement). expression_fits f.names a.0 && statement_fits f.names a.1) q)) e f.fits)) })

  pub arm_fits_body : (x : Bor TypedStatement) (others : List (TypedExpr × TypedStatement)) → l.now ≡ arm ∷ others → x.now ≡ arm.1 → FitArms l.now → FitStatement x.now
  arm_fits_body x others e h f =
      subst FitStatement (sym h) (record { names = f.names; fits = and_right (expression_fits f.names arm.0) _ (and_left _ _ (subst (λ q. IsTrue (list_all (λ (a : TypedExpr × TypedStatement). expression_fits f.names a.0 && statement_fits f.names a.1) q)) e f.fits)) })

  pub arm_fits_others : (others : Bor (List (TypedExpr × TypedStatement))) → l.now ≡ arm ∷ others.now → FitArms l.now → FitArms others.now
  arm_fits_others others e f = record { names = f.names; fits = and_right _ _ (subst (λ q. IsTrue (list_all (λ (a : TypedExpr × TypedStatement). expression_fits f.names a.0 && statement_fits f.names a.1) q)) e f.fits) }

module _ (l : Bor (List TypedGroup)) where
  pub group_fits_body : (g : TypedGroup) (body : Bor (List TypedStatement)) (others : List TypedGroup) → l.now ≡ g ∷ others → body.now ≡ (out-TypedGroup g).body → FitGroups l.now → FitStatements body.now
  group_fits_body g body others e h f =
      subst FitStatements (sym h) (record { names = f.names; fits = and_left _ _ (subst (λ q. IsTrue (list_all (λ (a : TypedGroup). list_all (statement_fits f.names) (out-TypedGroup a).body) q)) e f.fits) })

  pub group_fits_others : (g : TypedGroup) (others : Bor (List TypedGroup)) → l.now ≡ g ∷ others.now → FitGroups l.now → FitGroups others.now
  group_fits_others g others e f = record { names = f.names; fits = and_right _ _ (subst (λ q. IsTrue (list_all (λ (a : TypedGroup). list_all (statement_fits f.names) (out-TypedGroup a).body) q)) e f.fits) }

  pub group_fits_from : (n : ℕ) (others : Bor (List TypedGroup)) → others.now ≡ drop n l.now → FitGroups l.now → FitGroups others.now
  group_fits_from n others e f = subst FitGroups (sym e) (record { names = f.names; fits = from l.now n f.fits })
    where
      from : (gs : List TypedGroup) (k : ℕ) → IsTrue (list_all (λ (a : TypedGroup). list_all (statement_fits f.names) (out-TypedGroup a).body) gs) → IsTrue (list_all (λ (a : TypedGroup). list_all (statement_fits f.names) (out-TypedGroup a).body) (drop k gs))
      from gs zero h = h
      from [] (suc k) h = h
      from (g ∷ gs) (suc k) h = from gs k (and_right _ _ h)

pub ruleset row_fits_laws = (statement_fits_first, statement_fits_others, expression_fits_first, expression_fits_others, arm_fits_test, arm_fits_body, arm_fits_others, group_fits_body, group_fits_others, group_fits_from)

-- The parts of loops.
use Rattle.std.proofs.Common.{◌≡◌, Option, Some, None, sym, ap, subst, ◌∙◌}
use Rattle.std.specs.Borrow.{Bor}
use Rattle.std.specs.Option.{option_map}
use Rattle.c_typed_trees.specs.declared.expression.TypedExpr.{TypedExpr}
use Rattle.c_typed_trees.specs.declared.statement.TypedStatement.{TypedStatement}
use Rattle.tree_meaning.specs.declared.task.LoopStep.TheVariants as step
use Rattle.tree_meaning.specs.declared.task.LoopTest.TheVariants as test
use Rattle.tree_meaning.specs.Loops.{test_or, step_or}
use Rattle.tree_meaning.specs.Running.{Scene, value_in, does_in, FitExpression, FitStatement, FitOption, FitLast}
use Rattle.tree_meaning.specs.Tasks.{test_does, step_does}
use Rattle.tree_meaning.proofs.StatementFits.{option_of, last_of}

module _ (c : Scene) where
  pub test_none : (o : Option TypedExpr) → o ≡ None → test_does c test.Always ≡ test_or (option_map (value_in c) o)
  test_none o e = ap (λ q. test_or (option_map (value_in c) q)) (sym e)

  pub test_some : (o : Option TypedExpr) (x : Bor TypedExpr) (x' : TypedExpr) → o ≡ Some x' → x.now ≡ x' → test_does c (test.When x) ≡ test_or (option_map (value_in c) o)
  test_some o x x' e h = ap (λ q. test_or (Some (value_in c q))) h ∙ ap (λ q. test_or (option_map (value_in c) q)) (sym e)

  pub step_none : (o : Option TypedStatement) → o ≡ None → step_does c step.Nothing ≡ step_or (option_map (does_in c) o)
  step_none o e = ap (λ q. step_or (option_map (does_in c) q)) (sym e)

  pub step_some : (o : Option TypedStatement) (x : Bor TypedStatement) (x' : TypedStatement) → o ≡ Some x' → x.now ≡ x' → step_does c (step.Do x) ≡ step_or (option_map (does_in c) o)
  step_some o x x' e h = ap (λ q. step_or (Some (does_in c q))) h ∙ ap (λ q. step_or (option_map (does_in c) q)) (sym e)

pub test_fit : (o : Option TypedExpr) (x : Bor TypedExpr) (x' : TypedExpr) → o ≡ Some x' → x.now ≡ x' → FitOption o → FitExpression x.now
test_fit o x x' e h f = subst FitExpression (sym h) (option_of o x' e f)

pub step_fit : (o : Option TypedStatement) (x : Bor TypedStatement) (x' : TypedStatement) → o ≡ Some x' → x.now ≡ x' → FitLast o → FitStatement x.now
step_fit o x x' e h f = subst FitStatement (sym h) (last_of o x' e f)

pub ruleset test_laws = (test_none, test_some, test_fit)

pub ruleset step_laws = (step_none, step_some, step_fit)

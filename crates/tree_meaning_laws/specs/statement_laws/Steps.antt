-- Trees in which what follows a pass of `for` is what an expression becomes (ISO/IEC 9899:2011, 6.8.5p1).
use Rattle.std.specs.Prelude.{Bool, true, false, ◌&&◌, List, [], ◌∷◌, Option, Some, None}
use Rattle.c_typed_trees.specs.declared.expression.TypedExpr.{TypedExpr}
use Rattle.c_typed_trees.specs.declared.statement.TypedForm.{TypedForm, fold-TypedForm}
use Rattle.c_typed_trees.specs.declared.statement.TypedForm.TheOpen.{TypedForm-F, TypedGroup-F, TypedStatement-F}
use Rattle.c_typed_trees.specs.declared.statement.TypedGroup.{TypedGroup, fold-TypedGroup}
use Rattle.c_typed_trees.specs.declared.statement.TypedStatement.{TypedStatement, fold-TypedStatement}

-- whether a statement is an assignment or a call, which an expression becomes; and whether those are that follow the passes
-- of each `for` within it
pub record Stepping : Type 0 where
  pub is_step : Bool
  pub steps : Bool

abbrev pub within : Bool → Stepping
within steps = record { is_step = false; steps = steps }

abbrev pub all_steps : List Stepping → Bool
all_steps [] = true
all_steps (s ∷ rest) = s.steps && all_steps rest

abbrev pub steps_if : Option Stepping → Bool
steps_if None = true
steps_if (Some s) = s.steps

abbrev pub step_if : Option Stepping → Bool
step_if None = true
step_if (Some s) = s.is_step && s.steps

abbrev pub arms_steps : List (TypedExpr × Stepping) → Bool
arms_steps [] = true
arms_steps (arm ∷ rest) = (arm.1).steps && arms_steps rest

abbrev pub groups_steps : List Bool → Bool
groups_steps [] = true
groups_steps (g ∷ rest) = g && groups_steps rest

abbrev pub form_step : TypedForm-F Stepping Bool Stepping → Stepping
form_step (TypedForm-F.Block body) = within (all_steps body)
form_step TypedForm-F.Empty = within true
form_step (TypedForm-F.Local v first) = within true
form_step (TypedForm-F.LocalArray v list) = within true
form_step (TypedForm-F.Assign p op e) = record { is_step = true; steps = true }
form_step (TypedForm-F.Call c) = record { is_step = true; steps = true }
form_step (TypedForm-F.Label name body) = within body.steps
form_step (TypedForm-F.If arms otherwise) = within (arms_steps arms && steps_if otherwise)
form_step (TypedForm-F.While test body) = within body.steps
form_step (TypedForm-F.Do body test) = within body.steps
form_step (TypedForm-F.For first test next body) = within (all_steps first && step_if next && body.steps)
form_step (TypedForm-F.Switch value cell groups) = within (groups_steps groups)
form_step TypedForm-F.Break = within true
form_step TypedForm-F.Continue = within true
form_step (TypedForm-F.Return value) = within true
form_step (TypedForm-F.Assert test) = within true
form_step (TypedForm-F.Assume test) = within true

abbrev pub group_step : TypedGroup-F Stepping Bool Stepping → Bool
group_step g = all_steps g.body

abbrev pub statement_step : TypedStatement-F Stepping Bool Stepping → Stepping
statement_step s = s.form

unfoldable pub form_stepping : TypedForm → Stepping
form_stepping = fold-TypedForm Stepping Bool Stepping form_step group_step statement_step

unfoldable pub group_stepping : TypedGroup → Bool
group_stepping = fold-TypedGroup Stepping Bool Stepping form_step group_step statement_step

unfoldable pub stepping : TypedStatement → Stepping
stepping = fold-TypedStatement Stepping Bool Stepping form_step group_step statement_step

-- Parse trees in which what follows a pass of `for` is what an expression becomes (ISO/IEC 9899:2011, 6.8.5p1).
use Rattle.std.specs.Prelude.{Bool, true, false, ◌&&◌, List, [], ◌∷◌, map, Option, Some, None}
use Rattle.c_parse.specs.declared.expr.ExprTree.{ExprTree}
use Rattle.c_parse.specs.declared.statement.Form.{Form, fold-Form}
use Rattle.c_parse.specs.declared.statement.Form.TheOpen.{Form-F, Group-F, Statement-F}
use Rattle.c_parse.specs.declared.statement.Group.{Group, fold-Group}
use Rattle.c_parse.specs.declared.statement.Statement.{Statement, fold-Statement}
use Rattle.c_parse.specs.declared.unit.Body.{Body}
use Rattle.c_parse.specs.declared.unit.Item.{Item}
use Rattle.c_parse.specs.declared.unit.Item.TheVariants as items

-- whether a statement is an assignment, a step or a call, which expressions are; and whether those are that follow the
-- passes of each `for` within it
pub record Simple : Type 0 where
  pub is_simple : Bool
  pub steps : Bool

abbrev pub inner : Bool → Simple
inner steps = record { is_simple = false; steps = steps }

abbrev pub all_simple : List Simple → Bool
all_simple [] = true
all_simple (s ∷ rest) = s.steps && all_simple rest

abbrev pub if_simple : Option Simple → Bool
if_simple None = true
if_simple (Some s) = s.steps

abbrev pub next_simple : Option Simple → Bool
next_simple None = true
next_simple (Some s) = s.is_simple && s.steps

abbrev pub arms_simple : List (ExprTree × Simple) → Bool
arms_simple [] = true
arms_simple (arm ∷ rest) = (arm.1).steps && arms_simple rest

abbrev pub groups_simple : List Bool → Bool
groups_simple [] = true
groups_simple (g ∷ rest) = g && groups_simple rest

abbrev pub form_step : Form-F Simple Bool Simple → Simple
form_step (Form-F.Block statements) = inner (all_simple statements)
form_step Form-F.Empty = inner true
form_step (Form-F.Local kind list) = inner true
form_step (Form-F.Assign to operator value) = record { is_simple = true; steps = true }
form_step (Form-F.Step to up) = record { is_simple = true; steps = true }
form_step (Form-F.Call name arguments) = record { is_simple = true; steps = true }
form_step (Form-F.Label name body) = inner body.steps
form_step (Form-F.If arms otherwise) = inner (arms_simple arms && if_simple otherwise)
form_step (Form-F.While test body) = inner body.steps
form_step (Form-F.Do body test) = inner body.steps
form_step (Form-F.For first test next body) = inner (if_simple first && next_simple next && body.steps)
form_step (Form-F.Switch value groups) = inner (groups_simple groups)
form_step Form-F.Break = inner true
form_step Form-F.Continue = inner true
form_step (Form-F.Return value) = inner true
form_step (Form-F.Assert test) = inner true
form_step (Form-F.Assume test) = inner true

abbrev pub group_step : Group-F Simple Bool Simple → Bool
group_step g = all_simple g.body

abbrev pub statement_step : Statement-F Simple Bool Simple → Simple
statement_step s = s.form

unfoldable pub form_simple : Form → Simple
form_simple = fold-Form Simple Bool Simple form_step group_step statement_step

unfoldable pub group_simple : Group → Bool
group_simple = fold-Group Simple Bool Simple form_step group_step statement_step

unfoldable pub simple : Statement → Simple
simple = fold-Statement Simple Bool Simple form_step group_step statement_step

-- so of the bodies of a unit's functions
abbrev pub body_simple : Option Body → Bool
body_simple None = true
body_simple (Some b) = all_simple (map simple b.statements)

abbrev pub item_simple : Item → Bool
item_simple (items.Function span result name parameters body) = body_simple body
item_simple (items.Variables span kind list) = true
item_simple (items.Constants span list) = true

abbrev pub items_simple : List Item → Bool
items_simple [] = true
items_simple (i ∷ rest) = item_simple i && items_simple rest

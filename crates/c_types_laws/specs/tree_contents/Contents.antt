-- The numbers, the places and the kinds in trees. The tests of numbers and of places are any: that numbers are values of
-- their kinds, that places lie in the files that are there, or that a place is that of one of some tokens. Beside them each
-- kind that is written is a kind, and each `if` has an arm.
use Rattle.std.specs.Prelude.{ℕ, Bool, true, false, ◌&&◌, nat_lt, List, [], ◌∷◌, length, map, Option, Some, None, IsTrue}
use Rattle.std.specs.List.{list_all}
use Rattle.fq_core.specs.declared.span.Span.{Span}
use Rattle.c_values.specs.declared.kinds.Kind.{Kind}
use Rattle.c_values.specs.Kind.{is_kind, is_value}
use Rattle.c_lex.specs.declared.token.SourceText.{SourceText}
use Rattle.c_lex.specs.declared.token.Token.{Token}
use Rattle.c_lex.specs.Lexed.{Lexed}
use Rattle.c_parse.specs.declared.sign.Sign.{Sign}
use Rattle.c_parse.specs.declared.sign.Sign.TheVariants as sign
use Rattle.c_parse.specs.declared.sign.Terminal.{Terminal}
use Rattle.c_parse.specs.declared.expr.Ident.{Ident}
use Rattle.c_parse.specs.declared.expr.ExprForm.TheOpen.{ExprForm-F}
use Rattle.c_parse.specs.declared.expr.ExprTree.{ExprTree, fold-ExprTree}
use Rattle.c_parse.specs.declared.statement.CaseLabel.{CaseLabel}
use Rattle.c_parse.specs.declared.statement.Declarator.{Declarator}
use Rattle.c_parse.specs.declared.statement.Form.TheOpen.{Form-F, Group-F}
use Rattle.c_parse.specs.declared.statement.Group.{Group, fold-Group}
use Rattle.c_parse.specs.declared.statement.Initial.{Initial}
use Rattle.c_parse.specs.declared.statement.Initial.TheVariants as initial
use Rattle.c_parse.specs.declared.statement.PlaceTree.{PlaceTree}
use Rattle.c_parse.specs.declared.statement.Statement.{Statement, fold-Statement}
use Rattle.c_parse.specs.declared.unit.Body.{Body}
use Rattle.c_parse.specs.declared.unit.Item.{Item}
use Rattle.c_parse.specs.declared.unit.Item.TheVariants as item
use Rattle.c_parse.specs.declared.unit.Parameter.{Parameter}
use Rattle.c_parse.specs.Grammar.{DerivesChoice}
use Rattle.c_parse.specs.Items.{DerivesItems}
use Rattle.c_parse.specs.Signs.{terminal_of}

module _ (number : ℕ → Kind → Bool) (place : Span → Bool) where
  -- ---- a token

  abbrev pub sign_passes : Sign → Bool
  sign_passes (sign.Number n kind) = number n kind
  sign_passes _ = true

  abbrev pub token_passes : Terminal → Bool
  token_passes t = place t.span && sign_passes t.sign

  -- ---- an expression: all numbers and all places in it

  abbrev pub form_step : ExprForm-F Bool Bool → Bool
  form_step (ExprForm-F.Number n kind) = number n kind
  form_step (ExprForm-F.Name w) = true
  form_step (ExprForm-F.Element w index) = index
  form_step (ExprForm-F.Call w arguments) = list_all (λ a. a) arguments
  form_step (ExprForm-F.Cast kind operand) = is_kind kind && operand
  form_step (ExprForm-F.Plus operand) = operand
  form_step (ExprForm-F.Unary op operand) = operand
  form_step (ExprForm-F.Binary op left right) = left && right
  form_step (ExprForm-F.Both left right) = left && right
  form_step (ExprForm-F.Either left right) = left && right
  form_step (ExprForm-F.Choice test first second) = test && first && second

  unfoldable pub tree_passes : ExprTree → Bool
  tree_passes = fold-ExprTree Bool Bool form_step (λ t. place t.span && t.form)

  abbrev pub optional_passes : Option ExprTree → Bool
  optional_passes None = true
  optional_passes (Some t) = tree_passes t

  -- ---- declarators and statements

  abbrev pub place_passes : PlaceTree → Bool
  place_passes p = place p.name.span && optional_passes p.index

  abbrev pub initial_passes : Option Initial → Bool
  initial_passes None = true
  initial_passes (Some (initial.One t)) = tree_passes t
  initial_passes (Some (initial.List ts)) = list_all tree_passes ts

  abbrev pub declarator_passes : Declarator → Bool
  declarator_passes d = place d.name.span && optional_passes d.length && initial_passes d.first

  abbrev pub label_passes : CaseLabel → Bool
  label_passes l = place l.span && optional_passes l.value

  abbrev pub arm_passes : ExprTree × Bool → Bool
  arm_passes arm = tree_passes arm.0 && arm.1

  -- an `if` has an arm
  abbrev pub arms_pass : List (ExprTree × Bool) → Bool
  arms_pass [] = false
  arms_pass (arm ∷ rest) = list_all arm_passes (arm ∷ rest)

  abbrev pub if_there : Option Bool → Bool
  if_there None = true
  if_there (Some b) = b

  abbrev pub statement_step : Form-F Bool Bool Bool → Bool
  statement_step (Form-F.Block statements) = list_all (λ s. s) statements
  statement_step Form-F.Empty = true
  statement_step (Form-F.Local kind list) = is_kind kind && list_all declarator_passes list
  statement_step (Form-F.Assign to operator value) = place_passes to && tree_passes value
  statement_step (Form-F.Step to up) = place_passes to
  statement_step (Form-F.Call name arguments) = place name.span && list_all tree_passes arguments
  statement_step (Form-F.Label name body) = place name.span && body
  statement_step (Form-F.If arms otherwise) = arms_pass arms && if_there otherwise
  statement_step (Form-F.While test body) = tree_passes test && body
  statement_step (Form-F.Do body test) = body && tree_passes test
  statement_step (Form-F.For first test next body) = if_there first && optional_passes test && if_there next && body
  statement_step (Form-F.Switch value groups) = tree_passes value && list_all (λ g. g) groups
  statement_step Form-F.Break = true
  statement_step Form-F.Continue = true
  statement_step (Form-F.Return value) = optional_passes value
  statement_step (Form-F.Assert test) = tree_passes test
  statement_step (Form-F.Assume test) = tree_passes test

  abbrev pub group_step : Group-F Bool Bool Bool → Bool
  group_step g = list_all label_passes g.labels && list_all (λ s. s) g.body

  unfoldable pub statement_passes : Statement → Bool
  statement_passes = fold-Statement Bool Bool Bool statement_step group_step (λ s. place s.span && s.form)

  unfoldable pub group_passes : Group → Bool
  group_passes = fold-Group Bool Bool Bool statement_step group_step (λ s. place s.span && s.form)

  -- ---- items

  abbrev pub name_passes : Option Ident → Bool
  name_passes None = true
  name_passes (Some name) = place name.span

  abbrev pub parameter_passes : Parameter → Bool
  parameter_passes p = place p.span && name_passes p.name && optional_passes p.length && is_kind p.kind

  abbrev pub body_passes : Option Body → Bool
  body_passes None = true
  body_passes (Some body) = list_all statement_passes body.statements && place body.close

  abbrev pub result_passes : Option Kind → Bool
  result_passes None = true
  result_passes (Some kind) = is_kind kind

  abbrev pub constant_passes : Ident × Option ExprTree → Bool
  constant_passes c = place c.0.span && optional_passes c.1

  abbrev pub item_passes : Item → Bool
  item_passes (item.Function span result name parameters body) = place span && place name.span && list_all parameter_passes parameters && body_passes body && result_passes result
  item_passes (item.Variables span kind list) = place span && list_all declarator_passes list && is_kind kind
  item_passes (item.Constants span list) = place span && list_all constant_passes list

-- ---- what the layers above need

-- every number in the items is a value of its kind, and every place lies in one of so many files
abbrev pub ContentsFit : ℕ → List Item → Type 0
ContentsFit files items = IsTrue (list_all (item_passes (λ n kind. is_value kind n) (λ place. nat_lt place.file files)) items)

-- ---- the laws

-- what all tokens of a unit pass, all its trees pass
abbrev pub ItemsHoldTheirTokens : Type 0
ItemsHoldTheirTokens =
    (number : ℕ → Kind → Bool) (place : Span → Bool) (items : List Item) (ts : List Terminal) → DerivesItems items ts →
    IsTrue (list_all (token_passes number place) ts) → IsTrue (list_all (item_passes number place) items)

abbrev pub ExpressionsHoldTheirTokens : Type 0
ExpressionsHoldTheirTokens =
    (number : ℕ → Kind → Bool) (place : Span → Bool) (t : ExprTree) (ts : List Terminal) → DerivesChoice t ts →
    IsTrue (list_all (token_passes number place) ts) → IsTrue (tree_passes number place t)

-- The units of texts have numbers that are values of their kinds, and places in these texts.
abbrev pub UnitsOfTexts : Type 0
UnitsOfTexts =
    (texts : List SourceText) (tokens : List Token) (items : List Item) → Lexed texts tokens → DerivesItems items (map terminal_of tokens) →
    ContentsFit (length texts) items

-- An expression of texts has numbers that are values of their kinds, and places in these texts.
abbrev pub ExpressionsOfTexts : Type 0
ExpressionsOfTexts =
    (texts : List SourceText) (tokens : List Token) (t : ExprTree) → Lexed texts tokens → DerivesChoice t (map terminal_of tokens) →
    IsTrue (tree_passes (λ n kind. is_value kind n) (λ place. nat_lt place.file (length texts)) t)

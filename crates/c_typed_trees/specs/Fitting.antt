-- Which typed units a control flow automaton can be made of: what their trees name is there, and operands are of the
-- kinds that their operations take.
use Rattle.std.specs.Prelude.{ℕ, ◌+◌, ◌≤◌, Bool, true, false, not, ◌&&◌, ◌||◌, nat_lt, nat_le, List, [], ◌∷◌, map, length, filter_map, Option, Some, None, slice_get, IsTrue}
use Rattle.std.specs.List.{list_all, flat_map}
use Rattle.std.specs.Option.{is_none}
use Rattle.fq_core.specs.declared.span.Span.{Span}
use Rattle.c_values.specs.Kind.{int, is_kind, is_value}
use Rattle.c_values.specs.Operations.{unary_kind, binary_kind, is_shift}
use Rattle.c_values.specs.declared.kinds.Kind.{Kind}
use Rattle.c_values.specs.declared.operators.BinaryOp.{BinaryOp}
use Rattle.cfa.specs.Each.{matched}
use Rattle.cfa.specs.Graph.{variable_fits, result_kind_fits}
use Rattle.cfa.specs.Kinds.{same_kind}
use Rattle.cfa.specs.Rules.{Room, is_length, cell_count}
use Rattle.cfa.specs.declared.parts.InputFunction.{InputFunction}
use Rattle.cfa.specs.declared.parts.Variable.{Variable}
use Rattle.cfa.specs.declared.parts.VariablePlace.{VariablePlace}
use Rattle.cfa.specs.declared.parts.VariablePlace.TheVariants as place
use Rattle.c_typed_trees.specs.declared.expression.Callee.{Callee}
use Rattle.c_typed_trees.specs.declared.expression.Callee.TheVariants.{Defined, Input}
use Rattle.c_typed_trees.specs.declared.expression.TypedCall.{TypedCall, fold-TypedCall}
use Rattle.c_typed_trees.specs.declared.expression.TypedExprForm.TheOpen.{TypedCall-F, TypedExpr-F, TypedExprForm-F, TypedPlace-F}
use Rattle.c_typed_trees.specs.declared.expression.TypedExpr.{TypedExpr, fold-TypedExpr}
use Rattle.c_typed_trees.specs.declared.expression.TypedPlace.{TypedPlace, fold-TypedPlace}
use Rattle.c_typed_trees.specs.declared.statement.TypedForm.TheOpen.{TypedForm-F, TypedGroup-F, TypedStatement-F}
use Rattle.c_typed_trees.specs.declared.statement.TypedStatement.{TypedStatement, fold-TypedStatement}
use Rattle.c_typed_trees.specs.declared.unit.Global.{Global}
use Rattle.c_typed_trees.specs.declared.unit.Typed.{Typed}
use Rattle.c_typed_trees.specs.declared.unit.TypedFunction.{TypedFunction}

-- ---- signatures

-- an integer has no length
abbrev pub word_kind : Variable → Option Kind
word_kind v = elim v.length [ None ↦ Some v.kind | Some length ↦ None ]

-- the kinds of the parameters that are integers, and the lengths of those that are arrays, each in order
abbrev pub word_kinds : TypedFunction → List Kind
word_kinds f = filter_map word_kind f.parameters

abbrev pub array_lengths : TypedFunction → List ℕ
array_lengths f = filter_map (λ (v : Variable). v.length) f.parameters

-- the kind and the first value of each cell of the globals
abbrev pub global_cells : Typed → List (Kind × ℕ)
global_cells t = flat_map (λ (g : Global). map (λ value. (g.variable.kind, value)) g.first) t.globals

-- what the trees of a function may name: how many files there are, the unit's functions, and the room for its variables
pub record Nameable : Type 0 where
  pub files : ℕ
  pub functions : List TypedFunction
  pub inputs : List InputFunction
  pub room : Room

-- ---- variables

abbrev pub is_lent : VariablePlace → Bool
is_lent (place.Global cell) = false
is_lent (place.Local cell) = false
is_lent (place.Lent parameter) = true

-- the right operand is of the left one's kind; that of a shift has a kind of its own (6.5.7p3)
abbrev pub operands_meet : BinaryOp → Kind → Kind → Bool
operands_meet op left right = is_shift op || same_kind right left

-- a kind is what a function or an input function gives
abbrev pub gives : Option Kind → Kind → Bool
gives None kind = false
gives (Some own) kind = same_kind own kind

-- an expression's kind, and whether it fits
pub record Fit : Type 0 where
  pub kind : Kind
  pub fits : Bool

-- what a call gives, and whether it fits
pub record CallFit : Type 0 where
  pub result : Option Kind
  pub fits : Bool

module _ (n : Nameable) where
  -- a token of a file that is there
  abbrev pub span_fits : Span → Bool
  span_fits span = nat_lt span.file n.files

  -- a variable is of a kind, and lies, whole, within the globals or the frame, or is an array parameter of its length
  abbrev pub is_variable : Variable → Bool
  is_variable v = is_kind v.kind && variable_fits n.room v.length v.place

  -- an integer with a cell of its own
  abbrev pub is_integer : Variable → Bool
  is_integer v = is_variable v && is_none v.length && not (is_lent v.place)

  abbrev pub is_array : Variable → Bool
  is_array v = is_variable v && not (is_none v.length)

  abbrev pub is_cell : ℕ → Bool
  is_cell cell = nat_lt cell n.room.cells

  -- ---- expressions

  -- one word for each integer parameter, of its kind
  abbrev pub word_fits : Fit → Kind → Bool
  word_fits word kind = word.fits && same_kind word.kind kind

  -- an array of the length of its parameter
  abbrev pub array_fits : Variable → ℕ → Bool
  array_fits v length = is_variable v && is_length v.length length

  abbrev pub defined_fits : Option TypedFunction → List Fit → List Variable → CallFit
  defined_fits None words arrays = record { result = None; fits = false }
  defined_fits (Some f) words arrays = record { result = f.result; fits = matched word_fits words (word_kinds f) && matched array_fits arrays (array_lengths f) }

  abbrev pub input_fits : Option InputFunction → List Fit → List Variable → CallFit
  input_fits None words arrays = record { result = None; fits = false }
  input_fits (Some f) [] [] = record { result = Some f.result; fits = true }
  input_fits (Some f) _ _ = record { result = None; fits = false }

  -- a call of a function that is there, with the cell that its result is put into
  abbrev pub callee_fits : Callee → List Fit → List Variable → CallFit
  callee_fits (Defined i) words arrays = defined_fits (slice_get n.functions i) words arrays
  callee_fits (Input i) words arrays = input_fits (slice_get n.inputs i) words arrays

  abbrev pub in_cell : ℕ → CallFit → CallFit
  in_cell cell c = record { result = c.result; fits = c.fits && is_cell cell }

  abbrev pub call_step : TypedCall-F (Kind → Bool) CallFit Fit Bool → CallFit
  call_step c = in_cell c.cell (callee_fits c.callee c.words c.arrays)

  -- an integer, or an array with an index
  abbrev pub indexed : Variable → Option Fit → Bool
  indexed v None = is_integer v
  indexed v (Some index) = is_array v && index.fits

  abbrev pub place_step : TypedPlace-F (Kind → Bool) CallFit Fit Bool → Bool
  place_step p = indexed p.variable p.index

  -- an expression's form fits its kind
  abbrev pub form_step : TypedExprForm-F (Kind → Bool) CallFit Fit Bool → Kind → Bool
  form_step (TypedExprForm-F.Constant value) kind = is_value kind value
  form_step (TypedExprForm-F.Load p) kind = p
  form_step (TypedExprForm-F.Convert x) kind = x.fits
  form_step (TypedExprForm-F.Unary op x) kind = x.fits && same_kind kind (unary_kind op x.kind)
  form_step (TypedExprForm-F.Binary op x y) kind = x.fits && y.fits && operands_meet op x.kind y.kind && same_kind kind (binary_kind op x.kind)
  form_step (TypedExprForm-F.Both x y cell) kind = x.fits && y.fits && is_cell cell && same_kind kind int
  form_step (TypedExprForm-F.Either x y cell) kind = x.fits && y.fits && is_cell cell && same_kind kind int
  form_step (TypedExprForm-F.Choice c x y cell) kind = c.fits && x.fits && y.fits && is_cell cell && same_kind kind x.kind && same_kind kind y.kind
  form_step (TypedExprForm-F.Call c) kind = c.fits && gives c.result kind

  abbrev pub expr_step : TypedExpr-F (Kind → Bool) CallFit Fit Bool → Fit
  expr_step x = record { kind = x.kind; fits = is_kind x.kind && span_fits x.span && x.form x.kind }

  unfoldable pub expression_fit : TypedExpr → Fit
  expression_fit = fold-TypedExpr (Kind → Bool) CallFit Fit Bool form_step call_step expr_step place_step

  unfoldable pub place_fits : TypedPlace → Bool
  place_fits = fold-TypedPlace (Kind → Bool) CallFit Fit Bool form_step call_step expr_step place_step

  unfoldable pub call_fit : TypedCall → CallFit
  call_fit = fold-TypedCall (Kind → Bool) CallFit Fit Bool form_step call_step expr_step place_step

  abbrev pub expression_fits : TypedExpr → Bool
  expression_fits x = (expression_fit x).fits

  abbrev pub option_fits : Option TypedExpr → Bool
  option_fits None = true
  option_fits (Some x) = expression_fits x

  -- ---- statements

  abbrev pub statement_if : Option Bool → Bool
  statement_if None = true
  statement_if (Some fits) = fits

  -- `x op= e` is done in a kind of its own, in which e is (6.5.16.2)
  abbrev pub operator_fits : Option (BinaryOp × Kind) → TypedExpr → Bool
  operator_fits None e = true
  operator_fits (Some op) e = is_kind op.1 && operands_meet op.0 op.1 (expression_fit e).kind

  -- a label has the place of its word, and a value of the switch's kind
  abbrev pub label_fits : Kind → Span × Option ℕ → Bool
  label_fits kind (span, None) = span_fits span
  label_fits kind (span, Some value) = span_fits span && is_value kind value

  abbrev pub labels_fit : Kind → List (Span × Option ℕ) → Bool
  labels_fit kind labels = list_all (label_fits kind) labels

  abbrev pub arm_fits : TypedExpr × Bool → Bool
  arm_fits arm = expression_fits arm.0 && arm.1

  -- an `if` has an arm
  abbrev pub arms_fit : List (TypedExpr × Bool) → Bool
  arms_fit [] = false
  arms_fit (arm ∷ rest) = list_all arm_fits (arm ∷ rest)

  -- an array that is declared has at most 1,024 elements, by this profile, and begins as no more values (6.7.9p2)
  abbrev pub begins_within : Option ℕ → ℕ → Bool
  begins_within None count = false
  begins_within (Some length) count = nat_le count length && nat_le length 1024

  abbrev pub group_step : TypedGroup-F Bool (Kind → Bool) Bool → Kind → Bool
  group_step g kind = labels_fit kind g.labels && list_all (λ fits. fits) g.body

  abbrev pub statement_form : TypedForm-F Bool (Kind → Bool) Bool → Bool
  statement_form (TypedForm-F.Block body) = list_all (λ fits. fits) body
  statement_form TypedForm-F.Empty = true
  statement_form (TypedForm-F.Local v first) = is_integer v && option_fits first
  statement_form (TypedForm-F.LocalArray v list) = is_array v && list_all expression_fits list && begins_within v.length (length list)
  statement_form (TypedForm-F.Assign p op e) = place_fits p && operator_fits op e && expression_fits e
  statement_form (TypedForm-F.Call c) = (call_fit c).fits
  statement_form (TypedForm-F.Label name body) = body
  statement_form (TypedForm-F.If arms otherwise) = arms_fit arms && statement_if otherwise
  statement_form (TypedForm-F.While test body) = expression_fits test && body
  statement_form (TypedForm-F.Do body test) = body && expression_fits test
  statement_form (TypedForm-F.For first test next body) = list_all (λ fits. fits) first && option_fits test && statement_if next && body
  statement_form (TypedForm-F.Switch value cell groups) = expression_fits value && is_cell cell && list_all (λ (g : Kind → Bool). g (expression_fit value).kind) groups
  statement_form TypedForm-F.Break = true
  statement_form TypedForm-F.Continue = true
  statement_form (TypedForm-F.Return value) = option_fits value
  statement_form (TypedForm-F.Assert test) = expression_fits test
  statement_form (TypedForm-F.Assume test) = expression_fits test

  abbrev pub statement_step : TypedStatement-F Bool (Kind → Bool) Bool → Bool
  statement_step s = span_fits s.span && s.form

  unfoldable pub statement_fits : TypedStatement → Bool
  statement_fits = fold-TypedStatement Bool (Kind → Bool) Bool statement_form group_step statement_step

-- ---- the unit

abbrev pub room_in : Typed → TypedFunction → Room
room_in t f = record { globals = length (global_cells t); cells = f.cells; arrays = array_lengths f }

abbrev pub nameable : Typed → ℕ → TypedFunction → Nameable
nameable t files f = record { files = files; functions = t.functions; inputs = t.inputs; room = room_in t f }

-- A function's tokens lie in files that are there, its kinds are kinds, its frame has a cell for the result and one for
-- each integer parameter, and at most 16,384 in all, and its parameters and statements fit.
abbrev pub function_fits : Typed → ℕ → TypedFunction → Bool
function_fits t files f =
    let n = nameable t files f in
    span_fits n f.span && span_fits n f.close && result_kind_fits f.result && list_all (is_variable n) f.parameters
    && nat_le (length (word_kinds f) + 1) f.cells && nat_le f.cells 16384 && list_all (statement_fits n) f.body

abbrev pub is_global : ℕ → Option ℕ → VariablePlace → Bool
is_global cells length (place.Global first) = nat_le (first + cell_count length) cells
is_global cells length (place.Local first) = false
is_global cells length (place.Lent parameter) = false

-- a global is of a kind and lies within the globals' cells
abbrev pub global_fits : ℕ → Global → Bool
global_fits cells g = is_kind g.variable.kind && is_global cells g.variable.length g.variable.place

-- A typed unit that an automaton can be made of, with so many files.
pub record IsFitting (t : Typed) (files : ℕ) : Type 0 where
  pub globals : IsTrue (list_all (global_fits (length (global_cells t))) t.globals)
  pub cells : length (global_cells t) ≤ 16384
  pub inputs : IsTrue (list_all (λ (f : InputFunction). is_kind f.result) t.inputs)
  pub functions : IsTrue (list_all (function_fits t files) t.functions)

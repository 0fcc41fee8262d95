-- Which cells the value of a typed expression depends on, once its calls, `&&`, `||` and `?:` have their values in their
-- cells.
use Rattle.std.specs.Prelude.{◌≡◌, ◌⊎◌, ℕ, ◌+◌, ◌<◌, List, [], ◌∷◌, ◌++◌, Option, Some, None, slice_get, slice_index, IsTrue}
use Rattle.std.specs.List.{AllByRecursion}
use Rattle.cfa.specs.declared.state.Frame.{Frame}
use Rattle.cfa.specs.Rules.{Room, expr_fits}
use Rattle.cfa.specs.Values.{value_of}
use Rattle.c_meaning.specs.Storage.{HasRoom}
use Rattle.c_typed_trees.specs.declared.expression.TypedExprForm.TheOpen.{TypedCall-F, TypedExpr-F, TypedExprForm-F, TypedPlace-F}
use Rattle.c_typed_trees.specs.declared.expression.TypedExpr.{TypedExpr, fold-TypedExpr}
use Rattle.c_typed_trees.specs.declared.expression.TypedPlace.{TypedPlace, fold-TypedPlace}
use Rattle.c_typed_trees.specs.Fitting.{Nameable, expression_fits}
use Rattle.c_type_rules.specs.Values.{expr_of}
use Rattle.tree_meaning_laws.specs.temporaries_apart.Named.{named, IsBelow}

-- ---- the temporaries of the outermost calls, `&&`, `||` and `?:`, from left to right

abbrev pub outer_if : Option (List ℕ) → List ℕ
outer_if None = []
outer_if (Some cells) = cells

abbrev pub outer_step : TypedExprForm-F (List ℕ) ℕ (List ℕ) (List ℕ) → List ℕ
outer_step (TypedExprForm-F.Constant value) = []
outer_step (TypedExprForm-F.Load p) = p
outer_step (TypedExprForm-F.Convert x) = x
outer_step (TypedExprForm-F.Unary op x) = x
outer_step (TypedExprForm-F.Binary op x y) = x ++ y
outer_step (TypedExprForm-F.Both x y cell) = cell ∷ []
outer_step (TypedExprForm-F.Either x y cell) = cell ∷ []
outer_step (TypedExprForm-F.Choice c x y cell) = cell ∷ []
outer_step (TypedExprForm-F.Call cell) = cell ∷ []

abbrev pub outer_call : TypedCall-F (List ℕ) ℕ (List ℕ) (List ℕ) → ℕ
outer_call c = c.cell

abbrev pub outer_expr : TypedExpr-F (List ℕ) ℕ (List ℕ) (List ℕ) → List ℕ
outer_expr x = x.form

abbrev pub outer_place : TypedPlace-F (List ℕ) ℕ (List ℕ) (List ℕ) → List ℕ
outer_place p = outer_if p.index

unfoldable pub outermost : TypedExpr → List ℕ
outermost = fold-TypedExpr (List ℕ) ℕ (List ℕ) (List ℕ) outer_step outer_call outer_expr outer_place

unfoldable pub place_outermost : TypedPlace → List ℕ
place_outermost = fold-TypedPlace (List ℕ) ℕ (List ℕ) (List ℕ) outer_step outer_call outer_expr outer_place

-- ---- the cells of variables

-- a cell of an array that the frame is lent
abbrev pub IsLent : Room → Frame → ℕ → Type 0
IsLent room frame cell = (p : ℕ) × (count : ℕ) × (i : ℕ) × (slice_get room.arrays p ≡ Some count) × (i < count) × (cell ≡ slice_index frame.arrays p + i)

-- a cell of a frame, below one
abbrev pub IsLocal : Frame → ℕ → ℕ → Type 0
IsLocal frame end cell = (k : ℕ) × (k < end) × (cell ≡ frame.base + k)

-- a cell of the globals, of the frame's variables, or of an array that it is lent
abbrev pub IsOwn : Room → Frame → ℕ → ℕ → Type 0
IsOwn room frame end cell = (cell < room.globals) ⊎ (IsLocal frame end cell ⊎ IsLent room frame cell)

-- Where two lists hold the same in all cells of variables, and in those of an expression's outermost temporaries, the
-- expression has the same value, or the same trap, over both.
abbrev pub ReadsOwnCells : Type 0
ReadsOwnCells =
    (n : Nameable) (frame : Frame) (xs ys : List ℕ) (end : ℕ) (e : TypedExpr)
    → IsTrue (expression_fits n e) → IsTrue (expr_fits n.room (expr_of e)) → AllByRecursion (IsBelow end) (named e).variables
    → HasRoom (record { cells = xs; frame = frame; room = n.room })
    → ((cell : ℕ) → IsOwn n.room frame end cell → slice_index xs cell ≡ slice_index ys cell)
    → AllByRecursion (λ cell. slice_index xs (frame.base + cell) ≡ slice_index ys (frame.base + cell)) (outermost e)
    → value_of xs frame (expr_of e) ≡ value_of ys frame (expr_of e)

-- The values of constant expressions (ISO/IEC 9899:2011, 6.6). They are read off typed trees, in which the kinds of all
-- operands are known, enumeration constants are numbers, and only variables, their elements and calls aren't constant.
use Rattle.std.specs.Prelude.{ℕ, Bool, true, false, not, ◌&&◌, ◌||◌, if◌then◌else◌, ◌==◌, Option, Some, None}
use Rattle.c_values.specs.declared.kinds.Kind.{Kind}
use Rattle.c_values.specs.declared.operators.UnaryOp.{UnaryOp}
use Rattle.c_values.specs.declared.operators.BinaryOp.{BinaryOp}
use Rattle.c_values.specs.Kind.{is_kind, is_value, converted}
use Rattle.c_values.specs.Operations.{is_shift, truth_of, unary_value, binary_value}
use Rattle.cfa.specs.Kinds.{same_kind}
use Rattle.c_typed_trees.specs.declared.expression.TypedExprForm.TheOpen.{TypedExprForm-F}
use Rattle.c_typed_trees.specs.declared.expression.TypedExpr.{TypedExpr, fold-TypedExpr}
use Rattle.c_type_rules.specs.declared.constants.Folded.{Folded}
use Rattle.c_type_rules.specs.declared.constants.Folded.TheVariants.{Varying, Undefined, Value}

-- a variable, an element or a call stands in it
abbrev pub varies : Folded → Bool
varies Varying = true
varies Undefined = false
varies (Value v) = false

-- goes on with a value
abbrev pub with_value : Folded → (ℕ → Folded) → Folded
with_value Varying next = Varying
with_value Undefined next = Undefined
with_value (Value v) next = next v

abbrev pub value_if_any : Option ℕ → Folded
value_if_any None = Undefined
value_if_any (Some v) = Value v

abbrev pub value_if : Bool → ℕ → Folded
value_if known v = if known then Value v else Undefined

-- The operations of 6.3.1.3 and 6.5, on values of their kinds; an operation on anything else, which no typed tree has,
-- has no value.
abbrev pub converted_folded : Kind → Kind → Folded → Folded
converted_folded from to a = with_value a (λ v. value_if (is_value from v && is_kind to) (converted from to v))

abbrev pub unary_folded : UnaryOp → Kind → Folded → Folded
unary_folded op kind a = with_value a (λ v. value_if (is_value kind v) (unary_value op kind v))

-- the second operand has the first one's kind, but for a shift
abbrev pub is_operation : BinaryOp → Kind → Kind → ℕ → ℕ → Bool
is_operation op kind right v w = is_value kind v && is_value right w && (is_shift op || same_kind right kind)

abbrev pub operation_folded : BinaryOp → Kind → Kind → ℕ → ℕ → Folded
operation_folded op kind right v w = if is_operation op kind right v w then value_if_any (binary_value op kind right v w) else Undefined

abbrev pub binary_folded : BinaryOp → Kind → Kind → Folded → Folded → Folded
binary_folded op kind right a b =
    if varies a || varies b then Varying
    else with_value a (λ v. with_value b (λ w. operation_folded op kind right v w))

-- 1 for what is not 0
abbrev pub truth_folded : Folded → Folded
truth_folded a = with_value a (λ v. Value (truth_of (not (v == 0))))

-- what is not evaluated needs no value (6.6p3, 6.5.13p4, 6.5.14p4, 6.5.15p4)
abbrev pub both_folded : Folded → Folded → Folded
both_folded a b =
    if varies a || varies b then Varying
    else with_value a (λ v. if v == 0 then Value 0 else truth_folded b)

abbrev pub either_folded : Folded → Folded → Folded
either_folded a b =
    if varies a || varies b then Varying
    else with_value a (λ v. if v == 0 then truth_folded b else Value 1)

abbrev pub choice_folded : Folded → Folded → Folded → Folded
choice_folded a b c =
    if varies a || varies b || varies c then Varying
    else with_value a (λ v. if v == 0 then c else b)

-- an expression's kind, and what it is as a constant
pub record Part : Type 0 where
  pub kind : Kind
  pub folded : Folded

-- each form, from its parts, at its kind
abbrev pub folded_step : TypedExprForm-F (Kind → Folded) (Unit {0}) Part (Unit {0}) → Kind → Folded
folded_step (TypedExprForm-F.Constant v) = λ kind. Value v
folded_step (TypedExprForm-F.Load place) = λ kind. Varying
folded_step (TypedExprForm-F.Convert a) = λ kind. converted_folded a.kind kind a.folded
folded_step (TypedExprForm-F.Unary op a) = λ kind. unary_folded op a.kind a.folded
folded_step (TypedExprForm-F.Binary op a b) = λ kind. binary_folded op a.kind b.kind a.folded b.folded
folded_step (TypedExprForm-F.Both a b cell) = λ kind. both_folded a.folded b.folded
folded_step (TypedExprForm-F.Either a b cell) = λ kind. either_folded a.folded b.folded
folded_step (TypedExprForm-F.Choice a b c cell) = λ kind. choice_folded a.folded b.folded c.folded
folded_step (TypedExprForm-F.Call call) = λ kind. Varying

unfoldable pub part_of : TypedExpr → Part
part_of = fold-TypedExpr (Kind → Folded) (Unit {0}) Part (Unit {0}) folded_step (λ call. tt) (λ e. record { kind = e.kind; folded = e.form e.kind }) (λ place. tt)

-- what an expression is as a constant
abbrev pub folded : TypedExpr → Folded
folded e = (part_of e).folded

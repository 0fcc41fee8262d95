-- What is known where a function runs.
use Rattle.std.specs.Prelude.{ℕ, Bool, true, false, ◌&&◌, nat_le, List, Option, Some, None, Result, Ok, IsTrue}
use Rattle.std.specs.List.{list_all}
use Rattle.c_values.specs.declared.kinds.Kind.{Kind}
use Rattle.c_values.specs.declared.operators.BinaryOp.{BinaryOp}
use Rattle.c_values.specs.Kind.{converted}
use Rattle.c_values.specs.Operations.{binary_kind}
use Rattle.cfa.specs.Values.{after_value}
use Rattle.cfa.specs.declared.state.Trap.{Trap}
use Rattle.cfa.specs.declared.parts.Variable.{Variable}
use Rattle.c_typed_trees.specs.Fitting.{Nameable, IsFitting, expression_fits, option_fits, place_fits, operator_fits, call_fit, statement_fits}
use Rattle.c_typed_trees.specs.declared.expression.TypedCall.{TypedCall}
use Rattle.c_typed_trees.specs.declared.expression.TypedExpr.{TypedExpr}
use Rattle.c_typed_trees.specs.declared.expression.TypedExprForm.{TypedExprForm, out-TypedExprForm}
use Rattle.c_typed_trees.specs.declared.expression.TypedExprForm.TheOpen.{TypedExprForm-F}
use Rattle.c_typed_trees.specs.declared.expression.TypedPlace.{TypedPlace}
use Rattle.c_typed_trees.specs.declared.statement.TypedGroup.{TypedGroup, out-TypedGroup}
use Rattle.c_typed_trees.specs.declared.statement.TypedStatement.{TypedStatement}
use Rattle.c_typed_trees.specs.declared.unit.Typed.{Typed}
use Rattle.c_typed_trees.specs.declared.unit.TypedFunction.{TypedFunction}
use Rattle.tree_meaning.specs.declared.activation.Activation.{Activation}
use Rattle.tree_meaning.specs.declared.way.Way.{Way}
use Rattle.tree_meaning.specs.declared.way.Way.TheVariants.{GoesOn, Breaks, Continues, Returns}
use Rattle.tree_meaning.specs.Outcomes.{Gives, unless_trap, turn, Evaluation, Meaning}
use Rattle.tree_meaning.specs.Activations.{stored, as_kind}
use Rattle.tree_meaning.specs.Calls.{word_values, unless_deep, called, run_function}
use Rattle.tree_meaning.specs.Expressions.{Meant, Placed, evaluate, operated, both_does, either_does, choice_does}
use Rattle.tree_meaning.specs.Statements.{combined}
use Rattle.tree_meaning.specs.Switch.{Group}
use Rattle.tree_meaning.specs.Trees.{meant, placed, call_does, does, group_of, body_does, calls_in}

-- a unit, and the function that runs
pub record Scene : Type 0 where
  pub unit : Typed
  pub activation : Activation

module _ (c : Scene) where
  -- what trees mean there
  unfoldable pub meant_in : TypedExpr → Meant
  meant_in = meant c.unit (calls_in c.unit c.activation) c.activation

  unfoldable pub placed_in : TypedPlace → Placed
  placed_in = placed c.unit (calls_in c.unit c.activation) c.activation

  unfoldable pub call_in : TypedCall → Evaluation
  call_in = call_does c.unit (calls_in c.unit c.activation) c.activation

  unfoldable pub does_in : TypedStatement → Meaning
  does_in = does c.unit (calls_in c.unit c.activation) c.activation

  unfoldable pub group_in : TypedGroup → Group
  group_in = group_of c.unit (calls_in c.unit c.activation) c.activation

  abbrev pub value_in : TypedExpr → Evaluation
  value_in x = evaluate (meant_in x)

  -- what an outermost `&&`, `||`, `?:` or call does
  abbrev pub part_form : TypedExprForm-F TypedExprForm TypedCall TypedExpr TypedPlace → Evaluation
  part_form (TypedExprForm-F.Both x y cell) = both_does (value_in x) (value_in y)
  part_form (TypedExprForm-F.Either x y cell) = either_does (value_in x) (value_in y)
  part_form (TypedExprForm-F.Choice test x y cell) = choice_does (value_in test) (value_in x) (value_in y)
  part_form (TypedExprForm-F.Call q) = call_in q
  part_form (TypedExprForm-F.Constant v) = λ s. Gives 0 s
  part_form (TypedExprForm-F.Load p) = λ s. Gives 0 s
  part_form (TypedExprForm-F.Convert x) = λ s. Gives 0 s
  part_form (TypedExprForm-F.Unary op x) = λ s. Gives 0 s
  part_form (TypedExprForm-F.Binary op x y) = λ s. Gives 0 s

  unfoldable pub part_in : TypedExpr → Evaluation
  part_in x = part_form (out-TypedExprForm x.form)

  -- a condition and the statement behind it
  abbrev pub arm_in : TypedExpr × TypedStatement → Evaluation × Meaning
  arm_in arm = (value_in arm.0, does_in arm.1)

  -- running a function in the activation
  unfoldable pub run_in : Option TypedFunction → List ℕ → Evaluation
  run_in f words = run_function (body_does c.unit) c.unit.functions (calls_in c.unit c.activation) f c.activation words

  -- a call behind the first parts of its words
  abbrev pub begun : List Meant → List Variable → List ℕ → (Activation → List ℕ → Evaluation) → Evaluation
  begun words arrays vs run s =
      unless_deep (nat_le 64 c.activation.depth) (unless_trap (word_values words vs s.cells) (λ values. turn s (λ s'. run (called c.activation arrays s) values s')))

-- the rest of an expression, as something that is done
abbrev pub rest_does : Meant → List ℕ → Evaluation
rest_does m vs s = unless_trap (m.rest vs s.cells) (λ v. Gives v s)

-- what an assignment puts into a cell, of what it holds and a value
abbrev pub combined_with : Kind → Option (BinaryOp × Kind) → Kind → ℕ → ℕ → Result ℕ Trap
combined_with own None kind held v = Ok v
combined_with own (Some op) kind held v = after_value (operated op.0 op.1 kind (converted own op.1 (as_kind own held)) v) (λ w. Ok (converted (binary_kind op.0 op.1) own w))

-- an assignment behind the first parts of its place and its value
abbrev pub assigned : Placed → Option (BinaryOp × Kind) → Meant → List ℕ → List ℕ → Meaning
assigned p op x is vs s = unless_trap (p.cell is s.cells) (λ cell. unless_trap (after_value (x.rest vs s.cells) (combined p.variable.kind op x.kind s.cells cell)) (λ v. Gives GoesOn (stored s cell v)))

-- a loop ends as it says, or what comes behind its body is done
abbrev pub ended : Option Way → Meaning → Meaning
ended None behind s = behind s
ended (Some way) behind s = Gives way s

abbrev pub is_on : Way → Bool
is_on GoesOn = true
is_on Breaks = false
is_on Continues = false
is_on Returns = false

-- ---- trees that fit, whatever they may name

pub record FitExpression (x : TypedExpr) : Type 0 where
  pub names : Nameable
  pub fits : IsTrue (expression_fits names x)

pub record FitPlace (p : TypedPlace) : Type 0 where
  pub names : Nameable
  pub fits : IsTrue (place_fits names p)

pub record FitCall (c : TypedCall) : Type 0 where
  pub names : Nameable
  pub fits : IsTrue (call_fit names c).fits

pub record FitStatement (s : TypedStatement) : Type 0 where
  pub names : Nameable
  pub fits : IsTrue (statement_fits names s)

pub record FitStatements (ss : List TypedStatement) : Type 0 where
  pub names : Nameable
  pub fits : IsTrue (list_all (statement_fits names) ss)

pub record FitUnit (t : Typed) : Type 0 where
  pub files : ℕ
  pub fits : IsFitting t files

pub record FitExpressions (xs : List TypedExpr) : Type 0 where
  pub names : Nameable
  pub fits : IsTrue (list_all (expression_fits names) xs)

pub record FitOption (o : Option TypedExpr) : Type 0 where
  pub names : Nameable
  pub fits : IsTrue (option_fits names o)

abbrev pub last_fits : Nameable → Option TypedStatement → Bool
last_fits n None = true
last_fits n (Some s) = statement_fits n s

pub record FitLast (o : Option TypedStatement) : Type 0 where
  pub names : Nameable
  pub fits : IsTrue (last_fits names o)

pub record FitArms (arms : List (TypedExpr × TypedStatement)) : Type 0 where
  pub names : Nameable
  pub fits : IsTrue (list_all (λ (arm : TypedExpr × TypedStatement). expression_fits names arm.0 && statement_fits names arm.1) arms)

pub record FitGroups (groups : List TypedGroup) : Type 0 where
  pub names : Nameable
  pub fits : IsTrue (list_all (λ (g : TypedGroup). list_all (statement_fits names) (out-TypedGroup g).body) groups)

pub record FitAssign (p : TypedPlace) (op : Option (BinaryOp × Kind)) (x : TypedExpr) : Type 0 where
  pub names : Nameable
  pub place : IsTrue (place_fits names p)
  pub operator : IsTrue (operator_fits names op x)
  pub value : IsTrue (expression_fits names x)

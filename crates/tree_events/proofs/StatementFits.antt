-- When the forms of statements fit, by their parts.
use Rattle.std.proofs.Common.{◌≡◌, ℕ, Bool, List, map, Option, rules}
use Rattle.std.specs.Option.{option_map}
use Rattle.c_values.specs.declared.kinds.Kind.{Kind}
use Rattle.c_values.specs.declared.operators.BinaryOp.{BinaryOp}
use Rattle.cfa.specs.declared.parts.Variable.{Variable}
use Rattle.c_typed_trees.specs.declared.expression.TypedCall.{TypedCall}
use Rattle.c_typed_trees.specs.declared.expression.TypedExpr.{TypedExpr}
use Rattle.c_typed_trees.specs.declared.expression.TypedPlace.{TypedPlace}
use Rattle.c_typed_trees.specs.declared.statement.TypedForm.{TypedForm, fold-TypedForm, roll-TypedForm, the_lemmas}
use Rattle.c_typed_trees.specs.declared.statement.TypedForm.TheOpen.{TypedForm-F, TypedGroup-F, TypedStatement-F}
use Rattle.c_typed_trees.specs.declared.statement.TypedGroup.{TypedGroup, fold-TypedGroup, roll-TypedGroup}
use Rattle.c_typed_trees.specs.declared.statement.TypedStatement.{TypedStatement, roll-TypedStatement}
use Rattle.c_typed_trees.specs.Fitting.{Nameable, statement_fits}
use Rattle.c_typed_trees.specs.Fitting as fitting

unfoldable pub form_fits : Nameable → TypedForm → Bool
form_fits n = fold-TypedForm Bool (Kind → Bool) Bool (fitting.statement_form n) (fitting.group_step n) (fitting.statement_step n)

unfoldable pub group_fits : Nameable → TypedGroup → Kind → Bool
group_fits n = fold-TypedGroup Bool (Kind → Bool) Bool (fitting.statement_form n) (fitting.group_step n) (fitting.statement_step n)

-- arms by what their statements give
abbrev pub arms_by : {A : Type 0} → (TypedStatement → A) → TypedExpr × TypedStatement → TypedExpr × A
arms_by f arm = (arm.0, f arm.1)

-- ---- when they fit

pub fit_block : (n : Nameable) (body : List TypedStatement) → form_fits n (roll-TypedForm (TypedForm-F.Block body)) ≡ fitting.statement_form n (TypedForm-F.Block (map (statement_fits n) body))
unfolding form_fits statement_fits
fit_block n body = search (rules, the_lemmas)

pub fit_empty : (n : Nameable) → form_fits n (roll-TypedForm (TypedForm-F.Empty)) ≡ fitting.statement_form n (TypedForm-F.Empty)
unfolding form_fits
fit_empty n = search (rules, the_lemmas)

pub fit_local : (n : Nameable) (v : Variable) (first : Option TypedExpr) → form_fits n (roll-TypedForm (TypedForm-F.Local v first)) ≡ fitting.statement_form n (TypedForm-F.Local v first)
unfolding form_fits
fit_local n v first = search (rules, the_lemmas)

pub fit_array : (n : Nameable) (v : Variable) (list : List TypedExpr) → form_fits n (roll-TypedForm (TypedForm-F.LocalArray v list)) ≡ fitting.statement_form n (TypedForm-F.LocalArray v list)
unfolding form_fits
fit_array n v list = search (rules, the_lemmas)

pub fit_assign : (n : Nameable) (p : TypedPlace) (op : Option (BinaryOp × Kind)) (x : TypedExpr) → form_fits n (roll-TypedForm (TypedForm-F.Assign p op x)) ≡ fitting.statement_form n (TypedForm-F.Assign p op x)
unfolding form_fits
fit_assign n p op x = search (rules, the_lemmas)

pub fit_call : (n : Nameable) (q : TypedCall) → form_fits n (roll-TypedForm (TypedForm-F.Call q)) ≡ fitting.statement_form n (TypedForm-F.Call q)
unfolding form_fits
fit_call n q = search (rules, the_lemmas)

pub fit_label : (n : Nameable) (name : List ℕ) (body : TypedStatement) → form_fits n (roll-TypedForm (TypedForm-F.Label name body)) ≡ fitting.statement_form n (TypedForm-F.Label name ((statement_fits n) body))
unfolding form_fits statement_fits
fit_label n name body = search (rules, the_lemmas)

pub fit_if : (n : Nameable) (list : List (TypedExpr × TypedStatement)) (o : Option TypedStatement) → form_fits n (roll-TypedForm (TypedForm-F.If list o)) ≡ fitting.statement_form n (TypedForm-F.If (map (arms_by (statement_fits n)) list) (option_map (statement_fits n) o))
unfolding form_fits statement_fits
fit_if n list o = search (rules, the_lemmas)

pub fit_while : (n : Nameable) (test : TypedExpr) (body : TypedStatement) → form_fits n (roll-TypedForm (TypedForm-F.While test body)) ≡ fitting.statement_form n (TypedForm-F.While test ((statement_fits n) body))
unfolding form_fits statement_fits
fit_while n test body = search (rules, the_lemmas)

pub fit_do : (n : Nameable) (body : TypedStatement) (test : TypedExpr) → form_fits n (roll-TypedForm (TypedForm-F.Do body test)) ≡ fitting.statement_form n (TypedForm-F.Do ((statement_fits n) body) test)
unfolding form_fits statement_fits
fit_do n body test = search (rules, the_lemmas)

pub fit_for : (n : Nameable) (first : List TypedStatement) (test : Option TypedExpr) (next : Option TypedStatement) (body : TypedStatement) → form_fits n (roll-TypedForm (TypedForm-F.For first test next body)) ≡ fitting.statement_form n (TypedForm-F.For (map (statement_fits n) first) test (option_map (statement_fits n) next) ((statement_fits n) body))
unfolding form_fits statement_fits
fit_for n first test next body = search (rules, the_lemmas)

pub fit_switch : (n : Nameable) (x : TypedExpr) (cell : ℕ) (groups : List TypedGroup) → form_fits n (roll-TypedForm (TypedForm-F.Switch x cell groups)) ≡ fitting.statement_form n (TypedForm-F.Switch x cell (map (group_fits n) groups))
unfolding form_fits group_fits
fit_switch n x cell groups = search (rules, the_lemmas)

pub fit_break : (n : Nameable) → form_fits n (roll-TypedForm (TypedForm-F.Break)) ≡ fitting.statement_form n (TypedForm-F.Break)
unfolding form_fits
fit_break n = search (rules, the_lemmas)

pub fit_continue : (n : Nameable) → form_fits n (roll-TypedForm (TypedForm-F.Continue)) ≡ fitting.statement_form n (TypedForm-F.Continue)
unfolding form_fits
fit_continue n = search (rules, the_lemmas)

pub fit_return : (n : Nameable) (x : Option TypedExpr) → form_fits n (roll-TypedForm (TypedForm-F.Return x)) ≡ fitting.statement_form n (TypedForm-F.Return x)
unfolding form_fits
fit_return n x = search (rules, the_lemmas)

pub fit_assert : (n : Nameable) (x : TypedExpr) → form_fits n (roll-TypedForm (TypedForm-F.Assert x)) ≡ fitting.statement_form n (TypedForm-F.Assert x)
unfolding form_fits
fit_assert n x = search (rules, the_lemmas)

pub fit_assume : (n : Nameable) (x : TypedExpr) → form_fits n (roll-TypedForm (TypedForm-F.Assume x)) ≡ fitting.statement_form n (TypedForm-F.Assume x)
unfolding form_fits
fit_assume n x = search (rules, the_lemmas)

pub fit_group : (n : Nameable) (g : TypedGroup-F TypedForm TypedGroup TypedStatement) → group_fits n (roll-TypedGroup g) ≡ fitting.group_step n (record { labels = g.labels; body = map (statement_fits n) g.body })
unfolding group_fits statement_fits
fit_group n g = search (rules, the_lemmas)

pub fit_statement : (n : Nameable) (s : TypedStatement-F TypedForm TypedGroup TypedStatement) → statement_fits n (roll-TypedStatement s) ≡ fitting.statement_step n (record { span = s.span; form = form_fits n s.form })
unfolding statement_fits form_fits
fit_statement n s = search (rules, the_lemmas)

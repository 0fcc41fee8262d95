-- What each form of a statement is made into, which cells it names, when it fits, and what its steps are, by those of its
-- parts.
use Rattle.std.proofs.Common.{◌≡◌, ℕ, Bool, List, map, Option, rules}
use Rattle.std.specs.Option.{option_map}
use Rattle.c_values.specs.declared.kinds.Kind.{Kind}
use Rattle.c_values.specs.declared.operators.BinaryOp.{BinaryOp}
use Rattle.cfa.specs.declared.parts.Variable.{Variable}
use Rattle.c_typed_trees.specs.declared.expression.TypedCall.{TypedCall}
use Rattle.c_typed_trees.specs.declared.expression.TypedExpr.{TypedExpr}
use Rattle.c_typed_trees.specs.declared.expression.TypedPlace.{TypedPlace}
use Rattle.c_typed_trees.specs.declared.statement.TypedForm.{TypedForm, fold-TypedForm, roll-TypedForm, the_lemmas}
use Rattle.c_typed_trees.specs.declared.statement.TypedForm.TheOpen.{TypedForm-F, TypedGroup-F, TypedStatement-F}
use Rattle.c_typed_trees.specs.declared.statement.TypedGroup.{TypedGroup, fold-TypedGroup, roll-TypedGroup}
use Rattle.c_typed_trees.specs.declared.statement.TypedStatement.{TypedStatement, roll-TypedStatement}
use Rattle.c_typed_trees.specs.Fitting.{Nameable, span_fits, statement_fits}
use Rattle.c_typed_trees.specs.Fitting as fitting
use Rattle.c_lower_rules.specs.graph_of.Table.{form_step, shape, group_of, piece}
use Rattle.tree_meaning_laws.specs.temporaries_apart.Named.{Named, statement_named, group_named, names_in_order}
use Rattle.tree_meaning_laws.specs.temporaries_apart.Named as naming
use Rattle.tree_meaning_laws.specs.statement_laws.Steps.{Stepping, stepping, form_stepping, group_stepping, all_steps}
use Rattle.tree_meaning_laws.specs.statement_laws.Steps as steps

unfoldable pub form_named : TypedForm → Named
form_named = fold-TypedForm Named Named Named naming.statement_form naming.group_step naming.statement_step

unfoldable pub form_fits : Nameable → TypedForm → Bool
form_fits n = fold-TypedForm Bool (Kind → Bool) Bool (fitting.statement_form n) (fitting.group_step n) (fitting.statement_step n)

unfoldable pub group_fits : Nameable → TypedGroup → Kind → Bool
group_fits n = fold-TypedGroup Bool (Kind → Bool) Bool (fitting.statement_form n) (fitting.group_step n) (fitting.statement_step n)

-- arms by what their statements give
abbrev pub arms_by : {A : Type 0} → (TypedStatement → A) → TypedExpr × TypedStatement → TypedExpr × A
arms_by f arm = (arm.0, f arm.1)

-- ---- what is made

pub made_block : (body : List TypedStatement) → shape (roll-TypedForm (TypedForm-F.Block body)) ≡ form_step (TypedForm-F.Block (map piece body))
unfolding shape piece
made_block body = search (rules, the_lemmas)

pub made_empty : shape (roll-TypedForm (TypedForm-F.Empty)) ≡ form_step (TypedForm-F.Empty)
unfolding shape
made_empty = search (rules, the_lemmas)

pub made_local : (v : Variable) (first : Option TypedExpr) → shape (roll-TypedForm (TypedForm-F.Local v first)) ≡ form_step (TypedForm-F.Local v first)
unfolding shape
made_local v first = search (rules, the_lemmas)

pub made_array : (v : Variable) (list : List TypedExpr) → shape (roll-TypedForm (TypedForm-F.LocalArray v list)) ≡ form_step (TypedForm-F.LocalArray v list)
unfolding shape
made_array v list = search (rules, the_lemmas)

pub made_assign : (p : TypedPlace) (op : Option (BinaryOp × Kind)) (x : TypedExpr) → shape (roll-TypedForm (TypedForm-F.Assign p op x)) ≡ form_step (TypedForm-F.Assign p op x)
unfolding shape
made_assign p op x = search (rules, the_lemmas)

pub made_call : (q : TypedCall) → shape (roll-TypedForm (TypedForm-F.Call q)) ≡ form_step (TypedForm-F.Call q)
unfolding shape
made_call q = search (rules, the_lemmas)

pub made_label : (name : List ℕ) (body : TypedStatement) → shape (roll-TypedForm (TypedForm-F.Label name body)) ≡ form_step (TypedForm-F.Label name (piece body))
unfolding shape piece
made_label name body = search (rules, the_lemmas)

pub made_if : (list : List (TypedExpr × TypedStatement)) (o : Option TypedStatement) → shape (roll-TypedForm (TypedForm-F.If list o)) ≡ form_step (TypedForm-F.If (map (arms_by piece) list) (option_map piece o))
unfolding shape piece
made_if list o = search (rules, the_lemmas)

pub made_while : (test : TypedExpr) (body : TypedStatement) → shape (roll-TypedForm (TypedForm-F.While test body)) ≡ form_step (TypedForm-F.While test (piece body))
unfolding shape piece
made_while test body = search (rules, the_lemmas)

pub made_do : (body : TypedStatement) (test : TypedExpr) → shape (roll-TypedForm (TypedForm-F.Do body test)) ≡ form_step (TypedForm-F.Do (piece body) test)
unfolding shape piece
made_do body test = search (rules, the_lemmas)

pub made_for : (first : List TypedStatement) (test : Option TypedExpr) (next : Option TypedStatement) (body : TypedStatement) → shape (roll-TypedForm (TypedForm-F.For first test next body)) ≡ form_step (TypedForm-F.For (map piece first) test (option_map piece next) (piece body))
unfolding shape piece
made_for first test next body = search (rules, the_lemmas)

pub made_switch : (x : TypedExpr) (cell : ℕ) (groups : List TypedGroup) → shape (roll-TypedForm (TypedForm-F.Switch x cell groups)) ≡ form_step (TypedForm-F.Switch x cell (map group_of groups))
unfolding shape group_of
made_switch x cell groups = search (rules, the_lemmas)

pub made_break : shape (roll-TypedForm (TypedForm-F.Break)) ≡ form_step (TypedForm-F.Break)
unfolding shape
made_break = search (rules, the_lemmas)

pub made_continue : shape (roll-TypedForm (TypedForm-F.Continue)) ≡ form_step (TypedForm-F.Continue)
unfolding shape
made_continue = search (rules, the_lemmas)

pub made_return : (x : Option TypedExpr) → shape (roll-TypedForm (TypedForm-F.Return x)) ≡ form_step (TypedForm-F.Return x)
unfolding shape
made_return x = search (rules, the_lemmas)

pub made_assert : (x : TypedExpr) → shape (roll-TypedForm (TypedForm-F.Assert x)) ≡ form_step (TypedForm-F.Assert x)
unfolding shape
made_assert x = search (rules, the_lemmas)

pub made_assume : (x : TypedExpr) → shape (roll-TypedForm (TypedForm-F.Assume x)) ≡ form_step (TypedForm-F.Assume x)
unfolding shape
made_assume x = search (rules, the_lemmas)

pub made_group : (g : TypedGroup-F TypedForm TypedGroup TypedStatement) → group_of (roll-TypedGroup g) ≡ record { labels = g.labels; body = map piece g.body }
unfolding group_of piece
made_group g = search (rules, the_lemmas)

pub made_statement : (s : TypedStatement-F TypedForm TypedGroup TypedStatement) → piece (roll-TypedStatement s) ≡ shape s.form s.span
unfolding piece shape
made_statement s = search (rules, the_lemmas)

-- ---- the cells that are named

pub named_block : (body : List TypedStatement) → form_named (roll-TypedForm (TypedForm-F.Block body)) ≡ naming.statement_form (TypedForm-F.Block (map statement_named body))
unfolding form_named statement_named
named_block body = search (rules, the_lemmas)

pub named_empty : form_named (roll-TypedForm (TypedForm-F.Empty)) ≡ naming.statement_form (TypedForm-F.Empty)
unfolding form_named
named_empty = search (rules, the_lemmas)

pub named_local : (v : Variable) (first : Option TypedExpr) → form_named (roll-TypedForm (TypedForm-F.Local v first)) ≡ naming.statement_form (TypedForm-F.Local v first)
unfolding form_named
named_local v first = search (rules, the_lemmas)

pub named_array : (v : Variable) (list : List TypedExpr) → form_named (roll-TypedForm (TypedForm-F.LocalArray v list)) ≡ naming.statement_form (TypedForm-F.LocalArray v list)
unfolding form_named
named_array v list = search (rules, the_lemmas)

pub named_assign : (p : TypedPlace) (op : Option (BinaryOp × Kind)) (x : TypedExpr) → form_named (roll-TypedForm (TypedForm-F.Assign p op x)) ≡ naming.statement_form (TypedForm-F.Assign p op x)
unfolding form_named
named_assign p op x = search (rules, the_lemmas)

pub named_call : (q : TypedCall) → form_named (roll-TypedForm (TypedForm-F.Call q)) ≡ naming.statement_form (TypedForm-F.Call q)
unfolding form_named
named_call q = search (rules, the_lemmas)

pub named_label : (name : List ℕ) (body : TypedStatement) → form_named (roll-TypedForm (TypedForm-F.Label name body)) ≡ naming.statement_form (TypedForm-F.Label name (statement_named body))
unfolding form_named statement_named
named_label name body = search (rules, the_lemmas)

pub named_if : (list : List (TypedExpr × TypedStatement)) (o : Option TypedStatement) → form_named (roll-TypedForm (TypedForm-F.If list o)) ≡ naming.statement_form (TypedForm-F.If (map (arms_by statement_named) list) (option_map statement_named o))
unfolding form_named statement_named
named_if list o = search (rules, the_lemmas)

pub named_while : (test : TypedExpr) (body : TypedStatement) → form_named (roll-TypedForm (TypedForm-F.While test body)) ≡ naming.statement_form (TypedForm-F.While test (statement_named body))
unfolding form_named statement_named
named_while test body = search (rules, the_lemmas)

pub named_do : (body : TypedStatement) (test : TypedExpr) → form_named (roll-TypedForm (TypedForm-F.Do body test)) ≡ naming.statement_form (TypedForm-F.Do (statement_named body) test)
unfolding form_named statement_named
named_do body test = search (rules, the_lemmas)

pub named_for : (first : List TypedStatement) (test : Option TypedExpr) (next : Option TypedStatement) (body : TypedStatement) → form_named (roll-TypedForm (TypedForm-F.For first test next body)) ≡ naming.statement_form (TypedForm-F.For (map statement_named first) test (option_map statement_named next) (statement_named body))
unfolding form_named statement_named
named_for first test next body = search (rules, the_lemmas)

pub named_switch : (x : TypedExpr) (cell : ℕ) (groups : List TypedGroup) → form_named (roll-TypedForm (TypedForm-F.Switch x cell groups)) ≡ naming.statement_form (TypedForm-F.Switch x cell (map group_named groups))
unfolding form_named group_named
named_switch x cell groups = search (rules, the_lemmas)

pub named_break : form_named (roll-TypedForm (TypedForm-F.Break)) ≡ naming.statement_form (TypedForm-F.Break)
unfolding form_named
named_break = search (rules, the_lemmas)

pub named_continue : form_named (roll-TypedForm (TypedForm-F.Continue)) ≡ naming.statement_form (TypedForm-F.Continue)
unfolding form_named
named_continue = search (rules, the_lemmas)

pub named_return : (x : Option TypedExpr) → form_named (roll-TypedForm (TypedForm-F.Return x)) ≡ naming.statement_form (TypedForm-F.Return x)
unfolding form_named
named_return x = search (rules, the_lemmas)

pub named_assert : (x : TypedExpr) → form_named (roll-TypedForm (TypedForm-F.Assert x)) ≡ naming.statement_form (TypedForm-F.Assert x)
unfolding form_named
named_assert x = search (rules, the_lemmas)

pub named_assume : (x : TypedExpr) → form_named (roll-TypedForm (TypedForm-F.Assume x)) ≡ naming.statement_form (TypedForm-F.Assume x)
unfolding form_named
named_assume x = search (rules, the_lemmas)

pub named_group : (g : TypedGroup-F TypedForm TypedGroup TypedStatement) → group_named (roll-TypedGroup g) ≡ names_in_order (map statement_named g.body)
unfolding group_named statement_named
named_group g = search (rules, the_lemmas)

pub named_statement : (s : TypedStatement-F TypedForm TypedGroup TypedStatement) → statement_named (roll-TypedStatement s) ≡ form_named s.form
unfolding statement_named form_named
named_statement s = search (rules, the_lemmas)

-- ---- what follows the passes of `for`

pub steps_block : (body : List TypedStatement) → form_stepping (roll-TypedForm (TypedForm-F.Block body)) ≡ steps.form_step (TypedForm-F.Block (map stepping body))
unfolding form_stepping stepping
steps_block body = search (rules, the_lemmas)

pub steps_empty : form_stepping (roll-TypedForm (TypedForm-F.Empty)) ≡ steps.form_step (TypedForm-F.Empty)
unfolding form_stepping
steps_empty = search (rules, the_lemmas)

pub steps_local : (v : Variable) (first : Option TypedExpr) → form_stepping (roll-TypedForm (TypedForm-F.Local v first)) ≡ steps.form_step (TypedForm-F.Local v first)
unfolding form_stepping
steps_local v first = search (rules, the_lemmas)

pub steps_array : (v : Variable) (list : List TypedExpr) → form_stepping (roll-TypedForm (TypedForm-F.LocalArray v list)) ≡ steps.form_step (TypedForm-F.LocalArray v list)
unfolding form_stepping
steps_array v list = search (rules, the_lemmas)

pub steps_assign : (p : TypedPlace) (op : Option (BinaryOp × Kind)) (x : TypedExpr) → form_stepping (roll-TypedForm (TypedForm-F.Assign p op x)) ≡ steps.form_step (TypedForm-F.Assign p op x)
unfolding form_stepping
steps_assign p op x = search (rules, the_lemmas)

pub steps_call : (q : TypedCall) → form_stepping (roll-TypedForm (TypedForm-F.Call q)) ≡ steps.form_step (TypedForm-F.Call q)
unfolding form_stepping
steps_call q = search (rules, the_lemmas)

pub steps_label : (name : List ℕ) (body : TypedStatement) → form_stepping (roll-TypedForm (TypedForm-F.Label name body)) ≡ steps.form_step (TypedForm-F.Label name (stepping body))
unfolding form_stepping stepping
steps_label name body = search (rules, the_lemmas)

pub steps_if : (list : List (TypedExpr × TypedStatement)) (o : Option TypedStatement) → form_stepping (roll-TypedForm (TypedForm-F.If list o)) ≡ steps.form_step (TypedForm-F.If (map (arms_by stepping) list) (option_map stepping o))
unfolding form_stepping stepping
steps_if list o = search (rules, the_lemmas)

pub steps_while : (test : TypedExpr) (body : TypedStatement) → form_stepping (roll-TypedForm (TypedForm-F.While test body)) ≡ steps.form_step (TypedForm-F.While test (stepping body))
unfolding form_stepping stepping
steps_while test body = search (rules, the_lemmas)

pub steps_do : (body : TypedStatement) (test : TypedExpr) → form_stepping (roll-TypedForm (TypedForm-F.Do body test)) ≡ steps.form_step (TypedForm-F.Do (stepping body) test)
unfolding form_stepping stepping
steps_do body test = search (rules, the_lemmas)

pub steps_for : (first : List TypedStatement) (test : Option TypedExpr) (next : Option TypedStatement) (body : TypedStatement) → form_stepping (roll-TypedForm (TypedForm-F.For first test next body)) ≡ steps.form_step (TypedForm-F.For (map stepping first) test (option_map stepping next) (stepping body))
unfolding form_stepping stepping
steps_for first test next body = search (rules, the_lemmas)

pub steps_switch : (x : TypedExpr) (cell : ℕ) (groups : List TypedGroup) → form_stepping (roll-TypedForm (TypedForm-F.Switch x cell groups)) ≡ steps.form_step (TypedForm-F.Switch x cell (map group_stepping groups))
unfolding form_stepping group_stepping
steps_switch x cell groups = search (rules, the_lemmas)

pub steps_break : form_stepping (roll-TypedForm (TypedForm-F.Break)) ≡ steps.form_step (TypedForm-F.Break)
unfolding form_stepping
steps_break = search (rules, the_lemmas)

pub steps_continue : form_stepping (roll-TypedForm (TypedForm-F.Continue)) ≡ steps.form_step (TypedForm-F.Continue)
unfolding form_stepping
steps_continue = search (rules, the_lemmas)

pub steps_return : (x : Option TypedExpr) → form_stepping (roll-TypedForm (TypedForm-F.Return x)) ≡ steps.form_step (TypedForm-F.Return x)
unfolding form_stepping
steps_return x = search (rules, the_lemmas)

pub steps_assert : (x : TypedExpr) → form_stepping (roll-TypedForm (TypedForm-F.Assert x)) ≡ steps.form_step (TypedForm-F.Assert x)
unfolding form_stepping
steps_assert x = search (rules, the_lemmas)

pub steps_assume : (x : TypedExpr) → form_stepping (roll-TypedForm (TypedForm-F.Assume x)) ≡ steps.form_step (TypedForm-F.Assume x)
unfolding form_stepping
steps_assume x = search (rules, the_lemmas)

pub steps_group : (g : TypedGroup-F TypedForm TypedGroup TypedStatement) → group_stepping (roll-TypedGroup g) ≡ all_steps (map stepping g.body)
unfolding group_stepping stepping
steps_group g = search (rules, the_lemmas)

pub steps_statement : (s : TypedStatement-F TypedForm TypedGroup TypedStatement) → stepping (roll-TypedStatement s) ≡ form_stepping s.form
unfolding stepping form_stepping
steps_statement s = search (rules, the_lemmas)

-- ---- when they fit

pub fit_block : (n : Nameable) (body : List TypedStatement) → form_fits n (roll-TypedForm (TypedForm-F.Block body)) ≡ fitting.statement_form n (TypedForm-F.Block (map (statement_fits n) body))
unfolding form_fits statement_fits
fit_block n body = search (rules, the_lemmas)

pub fit_empty : (n : Nameable) → form_fits n (roll-TypedForm (TypedForm-F.Empty)) ≡ fitting.statement_form n (TypedForm-F.Empty)
unfolding form_fits
fit_empty n = search (rules, the_lemmas)

pub fit_local : (n : Nameable) (v : Variable) (first : Option TypedExpr) → form_fits n (roll-TypedForm (TypedForm-F.Local v first)) ≡ fitting.statement_form n (TypedForm-F.Local v first)
unfolding form_fits
fit_local n v first = search (rules, the_lemmas)

pub fit_array : (n : Nameable) (v : Variable) (list : List TypedExpr) → form_fits n (roll-TypedForm (TypedForm-F.LocalArray v list)) ≡ fitting.statement_form n (TypedForm-F.LocalArray v list)
unfolding form_fits
fit_array n v list = search (rules, the_lemmas)

pub fit_assign : (n : Nameable) (p : TypedPlace) (op : Option (BinaryOp × Kind)) (x : TypedExpr) → form_fits n (roll-TypedForm (TypedForm-F.Assign p op x)) ≡ fitting.statement_form n (TypedForm-F.Assign p op x)
unfolding form_fits
fit_assign n p op x = search (rules, the_lemmas)

pub fit_call : (n : Nameable) (q : TypedCall) → form_fits n (roll-TypedForm (TypedForm-F.Call q)) ≡ fitting.statement_form n (TypedForm-F.Call q)
unfolding form_fits
fit_call n q = search (rules, the_lemmas)

pub fit_label : (n : Nameable) (name : List ℕ) (body : TypedStatement) → form_fits n (roll-TypedForm (TypedForm-F.Label name body)) ≡ fitting.statement_form n (TypedForm-F.Label name ((statement_fits n) body))
unfolding form_fits statement_fits
fit_label n name body = search (rules, the_lemmas)

pub fit_if : (n : Nameable) (list : List (TypedExpr × TypedStatement)) (o : Option TypedStatement) → form_fits n (roll-TypedForm (TypedForm-F.If list o)) ≡ fitting.statement_form n (TypedForm-F.If (map (arms_by (statement_fits n)) list) (option_map (statement_fits n) o))
unfolding form_fits statement_fits
fit_if n list o = search (rules, the_lemmas)

pub fit_while : (n : Nameable) (test : TypedExpr) (body : TypedStatement) → form_fits n (roll-TypedForm (TypedForm-F.While test body)) ≡ fitting.statement_form n (TypedForm-F.While test ((statement_fits n) body))
unfolding form_fits statement_fits
fit_while n test body = search (rules, the_lemmas)

pub fit_do : (n : Nameable) (body : TypedStatement) (test : TypedExpr) → form_fits n (roll-TypedForm (TypedForm-F.Do body test)) ≡ fitting.statement_form n (TypedForm-F.Do ((statement_fits n) body) test)
unfolding form_fits statement_fits
fit_do n body test = search (rules, the_lemmas)

pub fit_for : (n : Nameable) (first : List TypedStatement) (test : Option TypedExpr) (next : Option TypedStatement) (body : TypedStatement) → form_fits n (roll-TypedForm (TypedForm-F.For first test next body)) ≡ fitting.statement_form n (TypedForm-F.For (map (statement_fits n) first) test (option_map (statement_fits n) next) ((statement_fits n) body))
unfolding form_fits statement_fits
fit_for n first test next body = search (rules, the_lemmas)

pub fit_switch : (n : Nameable) (x : TypedExpr) (cell : ℕ) (groups : List TypedGroup) → form_fits n (roll-TypedForm (TypedForm-F.Switch x cell groups)) ≡ fitting.statement_form n (TypedForm-F.Switch x cell (map (group_fits n) groups))
unfolding form_fits group_fits
fit_switch n x cell groups = search (rules, the_lemmas)

pub fit_break : (n : Nameable) → form_fits n (roll-TypedForm (TypedForm-F.Break)) ≡ fitting.statement_form n (TypedForm-F.Break)
unfolding form_fits
fit_break n = search (rules, the_lemmas)

pub fit_continue : (n : Nameable) → form_fits n (roll-TypedForm (TypedForm-F.Continue)) ≡ fitting.statement_form n (TypedForm-F.Continue)
unfolding form_fits
fit_continue n = search (rules, the_lemmas)

pub fit_return : (n : Nameable) (x : Option TypedExpr) → form_fits n (roll-TypedForm (TypedForm-F.Return x)) ≡ fitting.statement_form n (TypedForm-F.Return x)
unfolding form_fits
fit_return n x = search (rules, the_lemmas)

pub fit_assert : (n : Nameable) (x : TypedExpr) → form_fits n (roll-TypedForm (TypedForm-F.Assert x)) ≡ fitting.statement_form n (TypedForm-F.Assert x)
unfolding form_fits
fit_assert n x = search (rules, the_lemmas)

pub fit_assume : (n : Nameable) (x : TypedExpr) → form_fits n (roll-TypedForm (TypedForm-F.Assume x)) ≡ fitting.statement_form n (TypedForm-F.Assume x)
unfolding form_fits
fit_assume n x = search (rules, the_lemmas)

pub fit_group : (n : Nameable) (g : TypedGroup-F TypedForm TypedGroup TypedStatement) → group_fits n (roll-TypedGroup g) ≡ fitting.group_step n (record { labels = g.labels; body = map (statement_fits n) g.body })
unfolding group_fits statement_fits
fit_group n g = search (rules, the_lemmas)

pub fit_statement : (n : Nameable) (s : TypedStatement-F TypedForm TypedGroup TypedStatement) → statement_fits n (roll-TypedStatement s) ≡ fitting.statement_step n (record { span = s.span; form = form_fits n s.form })
unfolding statement_fits form_fits
fit_statement n s = search (rules, the_lemmas)

-- What statements make, form by form.
use Rattle.std.proofs.Common.{◌≡◌, ℕ, List, [], ◌∷◌, map, Option, Some, None, refl, sym, ap, subst, length, ◌∙◌, rules}
use Rattle.std.specs.Option.{option_map}
use Rattle.fq_core.specs.declared.span.Span.{Span}
use Rattle.fq_core.specs.declared.statement_kind.StatementKind.{StatementKind}
use Rattle.fq_core.specs.declared.statement_kind.StatementKind.TheVariants as kinds
use Rattle.c_values.specs.declared.kinds.Kind.{Kind}
use Rattle.c_values.specs.declared.operators.BinaryOp.{BinaryOp}
use Rattle.cfa.specs.declared.parts.Operation.TheVariants.{Assert, Assume}
use Rattle.cfa.specs.declared.parts.Variable.{Variable}
use Rattle.c_typed_trees.specs.declared.expression.TypedCall.{TypedCall}
use Rattle.c_typed_trees.specs.declared.expression.TypedExpr.{TypedExpr}
use Rattle.c_typed_trees.specs.declared.expression.TypedPlace.{TypedPlace}
use Rattle.c_typed_trees.specs.declared.statement.TypedForm.{TypedForm, the_lemmas}
use Rattle.c_typed_trees.specs.declared.statement.TypedForm.TheOpen.{TypedForm-F}
use Rattle.c_typed_trees.specs.declared.statement.TypedForm.TheVariants as forms
use Rattle.c_typed_trees.specs.declared.statement.TypedGroup.{TypedGroup}
use Rattle.c_typed_trees.specs.declared.statement.TypedStatement.{TypedStatement}
use Rattle.c_lower_rules.specs.declared.graph_of.parts.Around.{Around}
use Rattle.c_lower_rules.specs.declared.graph_of.parts.Parts.{Parts}
use Rattle.c_lower_rules.specs.graph_of.Builder.{after}
use Rattle.c_lower_rules.specs.graph_of.Edges.{Lowering, stated, node_here, skip, label_edge}
use Rattle.c_lower_rules.specs.graph_of.Expressions.{Value, value_of, spot_of, calling_of}
use Rattle.c_lower_rules.specs.graph_of.Statements.{Piece, block_row, arms_row, while_row, do_row, for_row, return_row, break_row, continue_row, label_row, test_row, assign_row, local_row, array_row, call_row}
use Rattle.c_lower_rules.specs.graph_of.Switch.{switch_row}
use Rattle.c_lower_rules.specs.graph_of.Table.{stating, tested, form_step, shape, group_of, piece, lowered}
use Rattle.c_lower.specs.Forms.{kind_of, arm_of}
use Rattle.c_lower.proofs.ScopeLaws.{shaped}
use Rattle.c_lower.specs.Stopping.{IsStop}
use Rattle.c_lower.specs.declared.stop.Stop.{Stop}
use Rattle.c_lower.proofs.LoopLaws.{label_law}
use Rattle.c_lower.proofs.Stops.{stop_grows, memory_stops}

arms_are : (arms : List (TypedExpr × TypedStatement)) → map tested (map (λ (arm : TypedExpr × TypedStatement). (arm.0, piece arm.1)) arms) ≡ map arm_of arms
arms_are [] = refl
arms_are (arm ∷ arms) = ap (λ rest. arm_of arm ∷ rest) (arms_are arms)

-- ---- what a form makes

empty_shape : shape (forms.Empty) ≡ form_step TypedForm-F.Empty
unfolding shape
empty_shape = search (rules, the_lemmas)

block_shape : (body : List TypedStatement) → shape (forms.Block body) ≡ form_step (TypedForm-F.Block (map piece body))
unfolding shape piece group_of
block_shape body = search (rules, the_lemmas)

local_shape : (x : Variable) (first : Option TypedExpr) → shape (forms.Local x first) ≡ form_step (TypedForm-F.Local x first)
unfolding shape
local_shape x first = search (rules, the_lemmas)

local_array_shape : (x : Variable) (list : List TypedExpr) → shape (forms.LocalArray x list) ≡ form_step (TypedForm-F.LocalArray x list)
unfolding shape
local_array_shape x list = search (rules, the_lemmas)

assign_shape : (p : TypedPlace) (op : Option (BinaryOp × Kind)) (x : TypedExpr) → shape (forms.Assign p op x) ≡ form_step (TypedForm-F.Assign p op x)
unfolding shape
assign_shape p op x = search (rules, the_lemmas)

call_form_shape : (c : TypedCall) → shape (forms.Call c) ≡ form_step (TypedForm-F.Call c)
unfolding shape
call_form_shape c = search (rules, the_lemmas)

label_shape : (name : List ℕ) (body : TypedStatement) → shape (forms.Label name body) ≡ form_step (TypedForm-F.Label name (piece body))
unfolding shape piece group_of
label_shape name body = search (rules, the_lemmas)

if_shape : (arms : List (TypedExpr × TypedStatement)) (otherwise : Option TypedStatement) → shape (forms.If arms otherwise) ≡ form_step (TypedForm-F.If (map (λ (arm : TypedExpr × TypedStatement). (arm.0, piece arm.1)) arms) (option_map piece otherwise))
unfolding shape piece group_of
if_shape arms otherwise = search (rules, the_lemmas)

while_shape : (c : TypedExpr) (body : TypedStatement) → shape (forms.While c body) ≡ form_step (TypedForm-F.While c (piece body))
unfolding shape piece group_of
while_shape c body = search (rules, the_lemmas)

do_shape : (body : TypedStatement) (c : TypedExpr) → shape (forms.Do body c) ≡ form_step (TypedForm-F.Do (piece body) c)
unfolding shape piece group_of
do_shape body c = search (rules, the_lemmas)

for_shape : (first : List TypedStatement) (c : Option TypedExpr) (j : Option TypedStatement) (body : TypedStatement) → shape (forms.For first c j body) ≡ form_step (TypedForm-F.For (map piece first) c (option_map piece j) (piece body))
unfolding shape piece group_of
for_shape first c j body = search (rules, the_lemmas)

switch_shape : (x : TypedExpr) (cell : ℕ) (groups : List TypedGroup) → shape (forms.Switch x cell groups) ≡ form_step (TypedForm-F.Switch x cell (map group_of groups))
unfolding shape piece group_of
switch_shape x cell groups = search (rules, the_lemmas)

break_shape : shape (forms.Break) ≡ form_step TypedForm-F.Break
unfolding shape
break_shape = search (rules, the_lemmas)

continue_shape : shape (forms.Continue) ≡ form_step TypedForm-F.Continue
unfolding shape
continue_shape = search (rules, the_lemmas)

return_shape : (x : Option TypedExpr) → shape (forms.Return x) ≡ form_step (TypedForm-F.Return x)
unfolding shape
return_shape x = search (rules, the_lemmas)

assert_shape : (x : TypedExpr) → shape (forms.Assert x) ≡ form_step (TypedForm-F.Assert x)
unfolding shape
assert_shape x = search (rules, the_lemmas)

assume_shape : (x : TypedExpr) → shape (forms.Assume x) ≡ form_step (TypedForm-F.Assume x)
unfolding shape
assume_shape x = search (rules, the_lemmas)

-- `return` leads to the exit wherever its statement leads
return_anywhere : (o : Option Value) (u : Around) (a y z : ℕ) (m : Parts) → after (return_row o u a y) m ≡ after (return_row o u a z) m
return_anywhere None u a y z m = refl
return_anywhere (Some x) u a y z m = refl

-- a statement, by its form
module _ (u : Around) (a z : ℕ) (m : Parts) (s : TypedStatement) where
  by_form : (f : TypedForm) (kind : StatementKind) (vs : List Variable) (row : Lowering) → s.form ≡ f → shape f ≡ stating kind vs row → kind_of f ≡ kind → after (lowered s u a z) m ≡ after (row (stated u s.span (kind_of s.form)) a z) m
  by_form f kind vs row e h k =
      ap (λ (p : Piece). after (p.make u a z) m) (shaped s ∙ ap (λ g. shape g s.span) e ∙ ap (λ (g : Span → Piece). g s.span) h)
      ∙ ap (λ k'. after (row (stated u s.span k') a z) m) (sym (ap kind_of e ∙ k))

  pub empty_row_law : s.form ≡ forms.Empty → after (lowered s u a z) m ≡ after (skip (stated u s.span (kind_of s.form)) a z) m
  unfolding kind_of
  empty_row_law e = by_form (forms.Empty) kinds.Empty [] (skip) e empty_shape (search (rules, the_lemmas))

  pub block_row_law : (body : List TypedStatement) → s.form ≡ forms.Block body → after (lowered s u a z) m ≡ after (block_row (map piece body) (stated u s.span (kind_of s.form)) a z) m
  unfolding kind_of
  block_row_law body e = by_form (forms.Block body) kinds.Empty [] (block_row (map piece body)) e (block_shape body) (search (rules, the_lemmas))

  pub local_row_law : (x : Variable) (first : Option TypedExpr) → s.form ≡ forms.Local x first → after (lowered s u a z) m ≡ after (local_row x (option_map value_of first) (stated u s.span (kind_of s.form)) a z) m
  unfolding kind_of
  local_row_law x first e = by_form (forms.Local x first) kinds.Decl (x ∷ []) (local_row x (option_map value_of first)) e (local_shape x first) (search (rules, the_lemmas))

  pub local_array_row_law : (x : Variable) (list : List TypedExpr) → s.form ≡ forms.LocalArray x list → after (lowered s u a z) m ≡ after (array_row x (map value_of list) (stated u s.span (kind_of s.form)) a z) m
  unfolding kind_of
  local_array_row_law x list e = by_form (forms.LocalArray x list) kinds.Decl (x ∷ []) (array_row x (map value_of list)) e (local_array_shape x list) (search (rules, the_lemmas))

  pub assign_row_law : (p : TypedPlace) (op : Option (BinaryOp × Kind)) (x : TypedExpr) → s.form ≡ forms.Assign p op x → after (lowered s u a z) m ≡ after (assign_row (spot_of p) op (value_of x) (stated u s.span (kind_of s.form)) a z) m
  unfolding kind_of
  assign_row_law p op x e = by_form (forms.Assign p op x) kinds.Assign [] (assign_row (spot_of p) op (value_of x)) e (assign_shape p op x) (search (rules, the_lemmas))

  pub call_form_row_law : (c : TypedCall) → s.form ≡ forms.Call c → after (lowered s u a z) m ≡ after (call_row (calling_of c) (stated u s.span (kind_of s.form)) a z) m
  unfolding kind_of
  call_form_row_law c e = by_form (forms.Call c) kinds.Call [] (call_row (calling_of c)) e (call_form_shape c) (search (rules, the_lemmas))

  label_row_is : (name : List ℕ) (body : TypedStatement) → s.form ≡ forms.Label name body → after (lowered s u a z) m ≡ after (label_row name (piece body) (stated u s.span (kind_of s.form)) a z) m
  unfolding kind_of
  label_row_is name body e = by_form (forms.Label name body) kinds.Label [] (label_row name (piece body)) e (label_shape name body) (search (rules, the_lemmas))

  pub label_row_law : (name : List ℕ) (body : TypedStatement) → s.form ≡ forms.Label name body → after (lowered s u a z) m
      ≡ (let v = stated u s.span (kind_of s.form) in after (lowered body v (length m.nodes) z) (after (label_edge v name a (length m.nodes)) (after (node_here v) m)))
  label_row_law name body e = label_row_is name body e ∙ label_law (stated u s.span (kind_of s.form)) a z m name body

  pub label_stop : (name : List ℕ) (body : TypedStatement) (stop : Stop) → s.form ≡ forms.Label name body
      → IsStop stop (let v = stated u s.span (kind_of s.form) in after (label_edge v name a (length m.nodes)) (after (node_here v) m)) → IsStop stop (after (lowered s u a z) m)
  label_stop name body stop e h = subst (λ p. IsStop stop p) (sym (label_row_law name body e)) (stop_grows stop _ _ h)

  pub if_row_law : (arms : List (TypedExpr × TypedStatement)) (otherwise : Option TypedStatement) → s.form ≡ forms.If arms otherwise → after (lowered s u a z) m ≡ after (arms_row (map arm_of arms) (option_map piece otherwise) (stated u s.span (kind_of s.form)) a z) m
  unfolding kind_of
  if_row_law arms otherwise e = by_form (forms.If arms otherwise) kinds.If [] (arms_row (map arm_of arms) (option_map piece otherwise)) e (if_shape arms otherwise ∙ ap (λ (list : List (Value × Piece)). stating kinds.If [] (arms_row list (option_map piece otherwise))) (arms_are arms)) (search (rules, the_lemmas))

  pub while_row_law : (c : TypedExpr) (body : TypedStatement) → s.form ≡ forms.While c body → after (lowered s u a z) m ≡ after (while_row (value_of c) (piece body) (stated u s.span (kind_of s.form)) a z) m
  unfolding kind_of
  while_row_law c body e = by_form (forms.While c body) kinds.While [] (while_row (value_of c) (piece body)) e (while_shape c body) (search (rules, the_lemmas))

  pub do_row_law : (body : TypedStatement) (c : TypedExpr) → s.form ≡ forms.Do body c → after (lowered s u a z) m ≡ after (do_row (piece body) (value_of c) (stated u s.span (kind_of s.form)) a z) m
  unfolding kind_of
  do_row_law body c e = by_form (forms.Do body c) kinds.Do [] (do_row (piece body) (value_of c)) e (do_shape body c) (search (rules, the_lemmas))

  pub for_row_law : (first : List TypedStatement) (c : Option TypedExpr) (j : Option TypedStatement) (body : TypedStatement) → s.form ≡ forms.For first c j body → after (lowered s u a z) m ≡ after (for_row (map piece first) (option_map value_of c) (option_map piece j) (piece body) (stated u s.span (kind_of s.form)) a z) m
  unfolding kind_of
  for_row_law first c j body e = by_form (forms.For first c j body) kinds.For [] (for_row (map piece first) (option_map value_of c) (option_map piece j) (piece body)) e (for_shape first c j body) (search (rules, the_lemmas))

  pub switch_row_law : (x : TypedExpr) (cell : ℕ) (groups : List TypedGroup) → s.form ≡ forms.Switch x cell groups → after (lowered s u a z) m ≡ after (switch_row (value_of x) cell (map group_of groups) (stated u s.span (kind_of s.form)) a z) m
  unfolding kind_of
  switch_row_law x cell groups e = by_form (forms.Switch x cell groups) kinds.Switch [] (switch_row (value_of x) cell (map group_of groups)) e (switch_shape x cell groups) (search (rules, the_lemmas))

  pub break_row_law : s.form ≡ forms.Break → after (lowered s u a z) m ≡ after (skip (stated u s.span (kind_of s.form)) a u.on_break) m
  unfolding kind_of
  break_row_law e = by_form (forms.Break) kinds.Jump [] (break_row) e break_shape (search (rules, the_lemmas))

  pub continue_row_law : s.form ≡ forms.Continue → after (lowered s u a z) m ≡ after (skip (stated u s.span (kind_of s.form)) a u.on_continue) m
  unfolding kind_of
  continue_row_law e = by_form (forms.Continue) kinds.Jump [] (continue_row) e continue_shape (search (rules, the_lemmas))

  pub return_row_law : (x : Option TypedExpr) → s.form ≡ forms.Return x → after (lowered s u a z) m ≡ after (return_row (option_map value_of x) (stated u s.span (kind_of s.form)) a 0) m
  unfolding kind_of
  return_row_law x e = by_form (forms.Return x) kinds.Return [] (return_row (option_map value_of x)) e (return_shape x) (search (rules, the_lemmas)) ∙ return_anywhere (option_map value_of x) (stated u s.span (kind_of s.form)) a z 0 m

  pub assert_row_law : (x : TypedExpr) → s.form ≡ forms.Assert x → after (lowered s u a z) m ≡ after (test_row Assert (value_of x) (stated u s.span (kind_of s.form)) a z) m
  unfolding kind_of
  assert_row_law x e = by_form (forms.Assert x) kinds.Assert [] (test_row Assert (value_of x)) e (assert_shape x) (search (rules, the_lemmas))

  pub assume_row_law : (x : TypedExpr) → s.form ≡ forms.Assume x → after (lowered s u a z) m ≡ after (test_row Assume (value_of x) (stated u s.span (kind_of s.form)) a z) m
  unfolding kind_of
  assume_row_law x e = by_form (forms.Assume x) kinds.Assume [] (test_row Assume (value_of x)) e (assume_shape x) (search (rules, the_lemmas))

pub ruleset statement_laws = (empty_row_law, block_row_law, local_row_law, local_array_row_law, assign_row_law, call_form_row_law, label_row_law, label_stop, if_row_law, while_row_law, do_row_law, for_row_law, switch_row_law, break_row_law, continue_row_law, return_row_law, assert_row_law, assume_row_law, stop_grows, memory_stops)

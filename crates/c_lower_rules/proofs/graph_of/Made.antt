-- What a statement makes stands in an order.
use Rattle.std.proofs.Common.{◌≡◌, ℕ, List, [], ◌∷◌, map, Option, Some, None, sym, subst, rules}
use Rattle.std.specs.Prelude.{IfSome}
use Rattle.std.specs.List.{AllByRecursion}
use Rattle.std.specs.Option.{option_map}
use Rattle.fq_core.specs.declared.span.Span.{Span}
use Rattle.fq_core.specs.declared.statement_kind.StatementKind.{StatementKind}
use Rattle.c_values.specs.declared.kinds.Kind.{Kind}
use Rattle.c_values.specs.declared.operators.BinaryOp.{BinaryOp}
use Rattle.cfa.specs.declared.parts.Operation.TheVariants.{Assert, Assume}
use Rattle.cfa.specs.declared.parts.Variable.{Variable}
use Rattle.c_typed_trees.specs.declared.expression.TypedCall.{TypedCall}
use Rattle.c_typed_trees.specs.declared.expression.TypedExpr.{TypedExpr}
use Rattle.c_typed_trees.specs.declared.expression.TypedPlace.{TypedPlace}
use Rattle.c_typed_trees.specs.declared.statement.TypedForm.{TypedForm, roll-TypedForm, the_lemmas as statement_lemmas}
use Rattle.c_typed_trees.specs.declared.statement.TypedForm.TheOpen.{TypedForm-F, TypedGroup-F, TypedStatement-F}
use Rattle.c_typed_trees.specs.declared.statement.TypedGroup.{TypedGroup, roll-TypedGroup}
use Rattle.c_typed_trees.specs.declared.statement.TypedStatement.{TypedStatement, ind-TypedStatement, roll-TypedStatement}
use Rattle.c_lower_rules.specs.graph_of.Edges.{Lowering, stated}
use Rattle.c_lower_rules.specs.graph_of.Expressions.{value_of, spot_of, calling_of}
use Rattle.c_lower_rules.specs.graph_of.Statements.{Piece}
use Rattle.c_lower_rules.specs.graph_of.Table.{stating, tested, form_step, shape, group_of, piece}
use Rattle.c_lower_rules.proofs.graph_of.Flows.{IsValue}
use Rattle.c_lower_rules.proofs.graph_of.Rows.{IsLowering, IsPiece, skip_is, break_is, continue_is, return_is, test_is, assign_is, local_is, array_is, label_is, call_is, block_is}
use Rattle.c_lower_rules.proofs.graph_of.Branches.{IsArm, arms_are, while_is, do_is, for_is}
use Rattle.c_lower_rules.proofs.graph_of.SwitchRows.{IsGroup, switch_is}
use Rattle.c_lower_rules.proofs.graph_of.Trees.{is_value, is_spot, is_call}

abbrev FormMakes : TypedForm → Type 0
FormMakes f = (span : Span) → IsPiece (shape f span)

abbrev GroupMakes : TypedGroup → Type 0
GroupMakes g = IsGroup (group_of g)

abbrev pub Makes : TypedStatement → Type 0
Makes s = IsPiece (piece s)

stating_is : (kind : StatementKind) (vs : List Variable) (row : Lowering) (span : Span) → IsLowering row → IsPiece (stating kind vs row span)
stating_is kind vs row span h u a z n e k lo loops d = h (stated u span kind) a z n e k lo loops d

-- a form is what its step makes
form_is : (x : TypedForm-F TypedForm TypedGroup TypedStatement) (kind : StatementKind) (vs : List Variable) (row : Lowering) → shape (roll-TypedForm x) ≡ stating kind vs row → IsLowering row → FormMakes (roll-TypedForm x)
form_is x kind vs row e h = subst (λ (m : Span → Piece). (span : Span) → IsPiece (m span)) (sym e) (λ span. stating_is kind vs row span h)

-- ---- the parts

values : (xs : List TypedExpr) → AllByRecursion IsValue (map value_of xs)
values [] = tt
values (x ∷ xs) = (is_value x, values xs)

value_if : (o : Option TypedExpr) → IfSome (option_map value_of o) IsValue
value_if None = tt
value_if (Some x) = is_value x

pieces : (ss : List TypedStatement) → AllByRecursion Makes ss → AllByRecursion IsPiece (map piece ss)
pieces [] h = tt
pieces (s ∷ ss) h = (h.0, pieces ss h.1)

piece_if : (o : Option TypedStatement) → IfSome o Makes → IfSome (option_map piece o) IsPiece
piece_if None h = tt
piece_if (Some s) h = h

groups : (gs : List TypedGroup) → AllByRecursion GroupMakes gs → AllByRecursion IsGroup (map group_of gs)
groups [] h = tt
groups (g ∷ gs) h = (h.0, groups gs h.1)

arms_in : (arms : List (TypedExpr × TypedStatement)) → AllByRecursion (λ (arm : TypedExpr × TypedStatement). Makes arm.1) arms → AllByRecursion IsArm (map tested (map (λ (arm : TypedExpr × TypedStatement). (arm.0, piece arm.1)) arms))
arms_in [] h = tt
arms_in (arm ∷ arms) h = ((is_value arm.0, h.0), arms_in arms h.1)

-- ---- the forms

block_at : (body : List TypedStatement) → AllByRecursion Makes body → FormMakes (roll-TypedForm (TypedForm-F.Block body))
unfolding shape piece
block_at body h = form_is (TypedForm-F.Block body) _ _ _ (let e : shape (roll-TypedForm (TypedForm-F.Block body)) ≡ form_step (TypedForm-F.Block (map piece body)) = search (rules, statement_lemmas) in e) (block_is (map piece body) (pieces body h))

empty_at : FormMakes (roll-TypedForm (TypedForm-F.Empty))
unfolding shape
empty_at = form_is (TypedForm-F.Empty) _ _ _ (let e : shape (roll-TypedForm (TypedForm-F.Empty)) ≡ form_step (TypedForm-F.Empty) = search (rules, statement_lemmas) in e) (skip_is)

local_at : (v : Variable) (first : Option TypedExpr) → FormMakes (roll-TypedForm (TypedForm-F.Local v first))
unfolding shape
local_at v first = form_is (TypedForm-F.Local v first) _ _ _ (let e : shape (roll-TypedForm (TypedForm-F.Local v first)) ≡ form_step (TypedForm-F.Local v first) = search (rules, statement_lemmas) in e) (local_is v (option_map value_of first) (value_if first))

array_at : (v : Variable) (list : List TypedExpr) → FormMakes (roll-TypedForm (TypedForm-F.LocalArray v list))
unfolding shape
array_at v list = form_is (TypedForm-F.LocalArray v list) _ _ _ (let e : shape (roll-TypedForm (TypedForm-F.LocalArray v list)) ≡ form_step (TypedForm-F.LocalArray v list) = search (rules, statement_lemmas) in e) (array_is v (map value_of list) (values list))

assign_at : (p : TypedPlace) (op : Option (BinaryOp × Kind)) (x : TypedExpr) → FormMakes (roll-TypedForm (TypedForm-F.Assign p op x))
unfolding shape
assign_at p op x = form_is (TypedForm-F.Assign p op x) _ _ _ (let e : shape (roll-TypedForm (TypedForm-F.Assign p op x)) ≡ form_step (TypedForm-F.Assign p op x) = search (rules, statement_lemmas) in e) (assign_is (spot_of p) op (value_of x) (is_spot p) (is_value x))

call_at : (c : TypedCall) → FormMakes (roll-TypedForm (TypedForm-F.Call c))
unfolding shape
call_at c = form_is (TypedForm-F.Call c) _ _ _ (let e : shape (roll-TypedForm (TypedForm-F.Call c)) ≡ form_step (TypedForm-F.Call c) = search (rules, statement_lemmas) in e) (call_is (calling_of c) (is_call c))

label_at : (name : List ℕ) (s : TypedStatement) → Makes s → FormMakes (roll-TypedForm (TypedForm-F.Label name s))
unfolding shape piece
label_at name s h = form_is (TypedForm-F.Label name s) _ _ _ (let e : shape (roll-TypedForm (TypedForm-F.Label name s)) ≡ form_step (TypedForm-F.Label name (piece s)) = search (rules, statement_lemmas) in e) (label_is name (piece s) h)

if_at : (arms : List (TypedExpr × TypedStatement)) (otherwise : Option TypedStatement) → AllByRecursion (λ (arm : TypedExpr × TypedStatement). Makes arm.1) arms → IfSome otherwise Makes → FormMakes (roll-TypedForm (TypedForm-F.If arms otherwise))
unfolding shape piece
if_at arms otherwise h i = form_is (TypedForm-F.If arms otherwise) _ _ _ (let e : shape (roll-TypedForm (TypedForm-F.If arms otherwise)) ≡ form_step (TypedForm-F.If (map (λ (arm : TypedExpr × TypedStatement). (arm.0, piece arm.1)) arms) (option_map piece otherwise)) = search (rules, statement_lemmas) in e) (arms_are _ (option_map piece otherwise) (arms_in arms h) (piece_if otherwise i))

while_at : (c : TypedExpr) (s : TypedStatement) → Makes s → FormMakes (roll-TypedForm (TypedForm-F.While c s))
unfolding shape piece
while_at c s h = form_is (TypedForm-F.While c s) _ _ _ (let e : shape (roll-TypedForm (TypedForm-F.While c s)) ≡ form_step (TypedForm-F.While c (piece s)) = search (rules, statement_lemmas) in e) (while_is (value_of c) (piece s) (is_value c) h)

do_at : (s : TypedStatement) (c : TypedExpr) → Makes s → FormMakes (roll-TypedForm (TypedForm-F.Do s c))
unfolding shape piece
do_at s c h = form_is (TypedForm-F.Do s c) _ _ _ (let e : shape (roll-TypedForm (TypedForm-F.Do s c)) ≡ form_step (TypedForm-F.Do (piece s) c) = search (rules, statement_lemmas) in e) (do_is (piece s) (value_of c) h (is_value c))

for_at : (first : List TypedStatement) (c : Option TypedExpr) (j : Option TypedStatement) (s : TypedStatement) → AllByRecursion Makes first → IfSome j Makes → Makes s → FormMakes (roll-TypedForm (TypedForm-F.For first c j s))
unfolding shape piece
for_at first c j s h i k = form_is (TypedForm-F.For first c j s) _ _ _ (let e : shape (roll-TypedForm (TypedForm-F.For first c j s)) ≡ form_step (TypedForm-F.For (map piece first) c (option_map piece j) (piece s)) = search (rules, statement_lemmas) in e) (for_is (map piece first) (option_map value_of c) (option_map piece j) (piece s) (pieces first h) (value_if c) (piece_if j i) k)

switch_at : (x : TypedExpr) (cell : ℕ) (gs : List TypedGroup) → AllByRecursion GroupMakes gs → FormMakes (roll-TypedForm (TypedForm-F.Switch x cell gs))
unfolding shape group_of
switch_at x cell gs h = form_is (TypedForm-F.Switch x cell gs) _ _ _ (let e : shape (roll-TypedForm (TypedForm-F.Switch x cell gs)) ≡ form_step (TypedForm-F.Switch x cell (map group_of gs)) = search (rules, statement_lemmas) in e) (switch_is (value_of x) cell (map group_of gs) (is_value x) (groups gs h))

break_at : FormMakes (roll-TypedForm (TypedForm-F.Break))
unfolding shape
break_at = form_is (TypedForm-F.Break) _ _ _ (let e : shape (roll-TypedForm (TypedForm-F.Break)) ≡ form_step (TypedForm-F.Break) = search (rules, statement_lemmas) in e) (break_is)

continue_at : FormMakes (roll-TypedForm (TypedForm-F.Continue))
unfolding shape
continue_at = form_is (TypedForm-F.Continue) _ _ _ (let e : shape (roll-TypedForm (TypedForm-F.Continue)) ≡ form_step (TypedForm-F.Continue) = search (rules, statement_lemmas) in e) (continue_is)

return_at : (x : Option TypedExpr) → FormMakes (roll-TypedForm (TypedForm-F.Return x))
unfolding shape
return_at x = form_is (TypedForm-F.Return x) _ _ _ (let e : shape (roll-TypedForm (TypedForm-F.Return x)) ≡ form_step (TypedForm-F.Return x) = search (rules, statement_lemmas) in e) (return_is (option_map value_of x) (value_if x))

assert_at : (x : TypedExpr) → FormMakes (roll-TypedForm (TypedForm-F.Assert x))
unfolding shape
assert_at x = form_is (TypedForm-F.Assert x) _ _ _ (let e : shape (roll-TypedForm (TypedForm-F.Assert x)) ≡ form_step (TypedForm-F.Assert x) = search (rules, statement_lemmas) in e) (test_is Assert (value_of x) (λ at u v reads m z g. g) (is_value x))

assume_at : (x : TypedExpr) → FormMakes (roll-TypedForm (TypedForm-F.Assume x))
unfolding shape
assume_at x = form_is (TypedForm-F.Assume x) _ _ _ (let e : shape (roll-TypedForm (TypedForm-F.Assume x)) ≡ form_step (TypedForm-F.Assume x) = search (rules, statement_lemmas) in e) (test_is Assume (value_of x) (λ at u v reads m z g. g) (is_value x))

-- ---- groups and statements

group_at : (x : TypedGroup-F TypedForm TypedGroup TypedStatement) → AllByRecursion Makes x.body → GroupMakes (roll-TypedGroup x)
unfolding group_of piece
group_at x h = subst IsGroup (sym e) (pieces x.body h)
  where
    e : group_of (roll-TypedGroup x) ≡ record { labels = x.labels; body = map piece x.body }
    e = search (rules, statement_lemmas)

statement_at : (x : TypedStatement-F TypedForm TypedGroup TypedStatement) → FormMakes x.form → Makes (roll-TypedStatement x)
unfolding piece shape
statement_at x h = subst IsPiece (sym e) (h x.span)
  where
    e : piece (roll-TypedStatement x) ≡ shape x.form x.span
    e = search (rules, statement_lemmas)

-- what holds of each part holds of the parts in a list
module _ {S : Type 0} (f : S → TypedStatement) (g : (q : S) → Makes (f q)) where
  all_make : (ys : List S) → AllByRecursion Makes (map f ys)
  all_make [] = tt
  all_make (y ∷ ys) = (g y, all_make ys)

  all_arms : (ys : List (TypedExpr × S)) → AllByRecursion (λ (arm : TypedExpr × TypedStatement). Makes arm.1) (map (λ (arm : TypedExpr × S). (arm.0, f arm.1)) ys)
  all_arms [] = tt
  all_arms (y ∷ ys) = (g y.1, all_arms ys)

module _ {S : Type 0} (f : S → TypedGroup) (g : (q : S) → GroupMakes (f q)) where
  all_groups : (ys : List S) → AllByRecursion GroupMakes (map f ys)
  all_groups [] = tt
  all_groups (y ∷ ys) = (g y, all_groups ys)

pub is_made : (s : TypedStatement) → Makes s
is_made s = ind-TypedStatement FormMakes GroupMakes Makes
    (λ x'. elim [
      | TypedForm-F.Block ys ↦ λ e. subst (λ z. FormMakes (roll-TypedForm z)) e (block_at _ (all_make (λ q. q.0) (λ q. q.1) ys))
      | TypedForm-F.Empty ↦ λ e. subst (λ z. FormMakes (roll-TypedForm z)) e (empty_at)
      | TypedForm-F.Local v first ↦ λ e. subst (λ z. FormMakes (roll-TypedForm z)) e (local_at v first)
      | TypedForm-F.LocalArray v list ↦ λ e. subst (λ z. FormMakes (roll-TypedForm z)) e (array_at v list)
      | TypedForm-F.Assign p op x ↦ λ e. subst (λ z. FormMakes (roll-TypedForm z)) e (assign_at p op x)
      | TypedForm-F.Call c ↦ λ e. subst (λ z. FormMakes (roll-TypedForm z)) e (call_at c)
      | TypedForm-F.Label name y ↦ λ e. subst (λ z. FormMakes (roll-TypedForm z)) e (label_at name y.0 y.1)
      | TypedForm-F.If arms None ↦ λ e. subst (λ z. FormMakes (roll-TypedForm z)) e (if_at _ None (all_arms (λ q. q.0) (λ q. q.1) arms) tt)
      | TypedForm-F.If arms (Some o) ↦ λ e. subst (λ z. FormMakes (roll-TypedForm z)) e (if_at _ (Some o.0) (all_arms (λ q. q.0) (λ q. q.1) arms) o.1)
      | TypedForm-F.While c y ↦ λ e. subst (λ z. FormMakes (roll-TypedForm z)) e (while_at c y.0 y.1)
      | TypedForm-F.Do y c ↦ λ e. subst (λ z. FormMakes (roll-TypedForm z)) e (do_at y.0 c y.1)
      | TypedForm-F.For first c None y ↦ λ e. subst (λ z. FormMakes (roll-TypedForm z)) e (for_at _ c None y.0 (all_make (λ q. q.0) (λ q. q.1) first) tt y.1)
      | TypedForm-F.For first c (Some j) y ↦ λ e. subst (λ z. FormMakes (roll-TypedForm z)) e (for_at _ c (Some j.0) y.0 (all_make (λ q. q.0) (λ q. q.1) first) j.1 y.1)
      | TypedForm-F.Switch x cell gs ↦ λ e. subst (λ z. FormMakes (roll-TypedForm z)) e (switch_at x cell _ (all_groups (λ q. q.0) (λ q. q.1) gs))
      | TypedForm-F.Break ↦ λ e. subst (λ z. FormMakes (roll-TypedForm z)) e (break_at)
      | TypedForm-F.Continue ↦ λ e. subst (λ z. FormMakes (roll-TypedForm z)) e (continue_at)
      | TypedForm-F.Return x ↦ λ e. subst (λ z. FormMakes (roll-TypedForm z)) e (return_at x)
      | TypedForm-F.Assert x ↦ λ e. subst (λ z. FormMakes (roll-TypedForm z)) e (assert_at x)
      | TypedForm-F.Assume x ↦ λ e. subst (λ z. FormMakes (roll-TypedForm z)) e (assume_at x)
    ])
    (λ x' y e. subst (λ z. GroupMakes (roll-TypedGroup z)) e (group_at (record { labels = y.labels; body = map (λ q. q.0) y.body }) (all_make (λ q. q.0) (λ q. q.1) y.body)))
    (λ x' y e. subst (λ z. Makes (roll-TypedStatement z)) e (statement_at (record { span = y.span; form = y.form.0 }) y.form.1)) s

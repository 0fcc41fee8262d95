-- The body of a function sits in its unit's automaton, and does there what its tree means.
use Rattle.std.proofs.Common.{◌≡◌, ℕ, zero, suc, ◌+◌, ◌≤◌, Bool, List, [], ◌∷◌, map, length, Option, Some, subst, arith}
use Rattle.std.specs.Prelude.{IsTrue, slice_get, nat_le, ◌&&◌}
use Rattle.std.specs.List.{AllByRecursion, list_all}
use Rattle.std.proofs.lemmas.Bool.{leb-true}
use Rattle.c_values.proofs.Fitting.{and_left, and_right}
use Rattle.cfa.specs.declared.parts.GraphParts.{GraphParts}
use Rattle.cfa.specs.declared.parts.Variable.{Variable}
use Rattle.c_typed_trees.specs.declared.unit.Typed.{Typed}
use Rattle.c_typed_trees.specs.declared.unit.TypedFunction.{TypedFunction}
use Rattle.c_typed_trees.specs.Fitting.{IsFitting, function_fits, nameable, statement_fits, span_fits, is_variable, word_kinds}
use Rattle.cfa.specs.Graph.{result_kind_fits}
use Rattle.c_lower_rules.specs.graph_of.Builder.{in_order}
use Rattle.c_lower_rules.specs.graph_of.Edges.{entry_of, exit_of}
use Rattle.c_lower_rules.specs.graph_of.Statements.{block_row}
use Rattle.c_lower_rules.specs.graph_of.Table.{piece}
use Rattle.c_lower_rules.specs.graph_of.GraphOf.{graph_of, global_variables, around_of, bodies_from, made}
use Rattle.tree_meaning_laws.specs.expression_laws.Sits.{Sits}
use Rattle.tree_meaning_laws.proofs.expression_laws.Sits.{sit_first, sit_rest, holds_itself}

same_some : {A : Type 0} (x y : A) → (let o : Option A = Some x in o) ≡ Some y → x ≡ y
same_some x y e = cc

-- what all of a list have, each has
pub all_there : {A : Type 0} (P : A → Type 0) (xs : List A) (k : ℕ) (x : A) → AllByRecursion P xs → slice_get xs k ≡ Some x → P x
all_there P [] k x h is = absurd cc
all_there P (y ∷ ys) zero x h is = subst P (same_some y x is) h.0
all_there P (y ∷ ys) (suc k) x h is = all_there P ys k x h.1 is

-- a body sits at some numbers
pub record BodySits (graph : GraphParts) (globals : List Variable) (k : ℕ) (f : TypedFunction) : Type 0 where
  pub node : ℕ
  pub edge : ℕ
  pub scope : ℕ
  pub sits : Sits graph (block_row (map piece f.body) (around_of globals k f) (entry_of k) (exit_of k) node edge scope) node edge scope

bodies_sit : (graph : GraphParts) (globals : List Variable) (i : ℕ) (fs : List TypedFunction) (k : ℕ) (f : TypedFunction) (n e q : ℕ) → Sits graph (in_order (bodies_from globals i fs) n e q) n e q → slice_get fs k ≡ Some f → BodySits graph globals (i + k) f
bodies_sit graph globals i [] k f n e q s is = absurd (cc)
bodies_sit graph globals i (g ∷ fs) zero f n e q s is =
    let same : i ≡ i + 0 = omega arith in
    subst (λ j. BodySits graph globals j f) same (subst (BodySits graph globals i) (same_some g f is) (record { node = n; edge = e; scope = q; sits = sit_first graph _ _ n e q s }))
bodies_sit graph globals i (g ∷ fs) (suc k) f n e q s is =
    let same : i + 1 + k ≡ i + suc k = omega arith in
    subst (λ j. BodySits graph globals j f) same (bodies_sit graph globals (i + 1) fs k f _ _ _ (sit_rest graph _ _ n e q s) is)

pub body_sits : (t : Typed) (files : List (List ℕ)) (k : ℕ) (f : TypedFunction) → slice_get t.functions k ≡ Some f → BodySits (graph_of t files) (global_variables t) k f
unfolding graph_of
body_sits t files k f there =
    let whole : Sits (graph_of t files) (made (global_variables t) t.functions) 0 0 0 = record {
      nodes = holds_itself [] (made (global_variables t) t.functions).nodes;
      edges = holds_itself [] (made (global_variables t) t.functions).edges;
      scopes = holds_itself [] (made (global_variables t) t.functions).scopes;
    } in
    let e : 0 + k ≡ k = omega arith in
    subst (λ j. BodySits (graph_of t files) (global_variables t) j f) e (bodies_sit (graph_of t files) (global_variables t) 0 t.functions k f _ _ _ (sit_rest (graph_of t files) _ _ 0 0 0 whole) there)

-- ---- what a function that fits has

pub record FunctionHas (t : Typed) (files : ℕ) (f : TypedFunction) : Type 0 where
  pub most : f.cells ≤ 16384
  pub body : IsTrue (list_all (statement_fits (nameable t files f)) f.body)

all_at : {A : Type 0} (test : A → Bool) (xs : List A) (k : ℕ) (x : A) → IsTrue (list_all test xs) → slice_get xs k ≡ Some x → IsTrue (test x)
all_at test [] k x h is = absurd (cc)
all_at test (y ∷ ys) zero x h is = subst (λ z. IsTrue (test z)) (same_some y x is) (and_left (test y) (list_all test ys) h)
all_at test (y ∷ ys) (suc k) x h is = all_at test ys k x (and_right (test y) (list_all test ys) h) is

pub function_has : (t : Typed) (files : ℕ) → IsFitting t files → (k : ℕ) (f : TypedFunction) → slice_get t.functions k ≡ Some f → FunctionHas t files f
function_has t files fitting k f there =
    let n = nameable t files f in
    let a6 : IsTrue (span_fits n f.span && span_fits n f.close && result_kind_fits f.result && list_all (is_variable n) f.parameters && nat_le (length (word_kinds f) + 1) f.cells && nat_le f.cells 16384 && list_all (statement_fits n) f.body) =
    all_at (function_fits t files) t.functions k f fitting.functions there in
    record { most = leb-true f.cells 16384 (and_right _ _ (and_left _ _ a6)); body = and_right _ _ a6 }

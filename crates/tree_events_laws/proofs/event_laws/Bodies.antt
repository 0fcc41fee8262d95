-- The body of a function sits in its unit's automaton, behind the exits of all functions.
use Rattle.std.proofs.Common.{◌≡◌, ℕ, zero, suc, ◌+◌, ◌*◌, List, [], ◌∷◌, length, Option, Some, subst, arith}
use Rattle.std.specs.Prelude.{slice_get}
use Rattle.cfa.specs.declared.parts.GraphParts.{GraphParts}
use Rattle.cfa.specs.declared.parts.Variable.{Variable}
use Rattle.c_typed_trees.specs.declared.unit.Typed.{Typed}
use Rattle.c_typed_trees.specs.declared.unit.TypedFunction.{TypedFunction}
use Rattle.c_lower_rules.specs.graph_of.Builder.{in_order}
use Rattle.c_lower_rules.specs.graph_of.Edges.{exit_of}
use Rattle.c_lower_rules.specs.graph_of.GraphOf.{graph_of, global_variables, bodies_from, made}
use Rattle.tree_meaning_laws.specs.expression_laws.Sits.{Sits}
use Rattle.tree_meaning_laws.proofs.tree_laws.Bodies.{BodySits}
use Rattle.c_lower_rules.specs.graph_of.GraphOf.{ends_from}
use Rattle.std.specs.Prelude.{◌<◌}
use Rattle.tree_meaning_laws.proofs.expression_laws.Sits.{sit_first, sit_rest, holds_itself}

same_some : {A : Type 0} (x y : A) → (let o : Option A = Some x in o) ≡ Some y → x ≡ y
same_some x y e = cc

-- a body sits at some numbers, behind its exit
pub record SitsBehind (graph : GraphParts) (globals : List Variable) (k : ℕ) (f : TypedFunction) : Type 0 where
  pub sits : BodySits graph globals k f
  pub below : exit_of k < sits.node

bodies_sit : (graph : GraphParts) (globals : List Variable) (i : ℕ) (fs : List TypedFunction) (k : ℕ) (f : TypedFunction) (n e q : ℕ) → exit_of (i + k) < n → Sits graph (in_order (bodies_from globals i fs) n e q) n e q → slice_get fs k ≡ Some f → SitsBehind graph globals (i + k) f
bodies_sit graph globals i [] k f n e q l s is = absurd (cc)
bodies_sit graph globals i (g ∷ fs) zero f n e q l s is =
    let same : i ≡ i + 0 = omega arith in
    let l' : exit_of i < n = omega (arith, l) in
    subst (λ j. SitsBehind graph globals j f) same (subst (SitsBehind graph globals i) (same_some g f is) (record { sits = record { node = n; edge = e; scope = q; sits = sit_first graph _ _ n e q s }; below = l' }))
bodies_sit graph globals i (g ∷ fs) (suc k) f n e q l s is =
    let same : i + 1 + k ≡ i + suc k = omega arith in
    subst (λ j. SitsBehind graph globals j f) same (bodies_sit graph globals (i + 1) fs k f _ _ _ (omega (arith, l)) (sit_rest graph _ _ n e q s) is)

-- there are two ends of each function
ends_long : (globals : List Variable) (i : ℕ) (fs : List TypedFunction) (k : ℕ) (f : TypedFunction) → slice_get fs k ≡ Some f → 2 * k + 1 < length (ends_from globals i fs)
ends_long globals i [] k f is = absurd (cc)
ends_long globals i (g ∷ fs) zero f is = omega arith
ends_long globals i (g ∷ fs) (suc k) f is = let rest = ends_long globals (i + 1) fs k f is in omega (arith, rest)

pub sits_behind : (t : Typed) (files : List (List ℕ)) (k : ℕ) (f : TypedFunction) → slice_get t.functions k ≡ Some f → SitsBehind (graph_of t files) (global_variables t) k f
unfolding graph_of
sits_behind t files k f there =
    let whole : Sits (graph_of t files) (made (global_variables t) t.functions) 0 0 0 = record {
      nodes = holds_itself [] (made (global_variables t) t.functions).nodes;
      edges = holds_itself [] (made (global_variables t) t.functions).edges;
      scopes = holds_itself [] (made (global_variables t) t.functions).scopes;
    } in
    let e : 0 + k ≡ k = omega arith in
    let long = ends_long (global_variables t) 0 t.functions k f there in
    subst (λ j. SitsBehind (graph_of t files) (global_variables t) j f) e (bodies_sit (graph_of t files) (global_variables t) 0 t.functions k f _ _ _ (omega (arith, long)) (sit_rest (graph_of t files) _ _ 0 0 0 whole) there)

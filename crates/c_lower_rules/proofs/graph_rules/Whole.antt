-- The graph of a fitting unit meets the rules of automata.
use Rattle.std.proofs.Common.{◌≡◌, ℕ, zero, suc, ◌+◌, ◌≤◌, Bool, true, false, List, [], ◌∷◌, map, length, Option, Some, None, refl, sym, ap, subst, ◌∙◌, arith}
use Rattle.std.specs.Prelude.{IsTrue, slice_get, filter_map, option_and_then}
use Rattle.std.specs.List.{AllByRecursion, list_all, flat_map, cons_option}
use Rattle.std.proofs.lemmas.List.Folds.{list_all-append}
use Rattle.std.proofs.lemmas.Option.{same_Some, slice_get_within, option_and_then_some}
use Rattle.c_values.specs.Kind.{is_kind}
use Rattle.c_values.specs.declared.kinds.Kind.{Kind}
use Rattle.c_values.proofs.Fitting.{and_left, and_right, and_both}
use Rattle.cfa.specs.declared.parts.Edge.{Edge}
use Rattle.cfa.specs.declared.parts.Function.{Function}
use Rattle.cfa.specs.declared.parts.GraphParts.{GraphParts}
use Rattle.cfa.specs.declared.parts.InputFunction.{InputFunction}
use Rattle.cfa.specs.declared.parts.Node.{Node}
use Rattle.cfa.specs.declared.parts.Operation.{Operation}
use Rattle.cfa.specs.declared.parts.Operation.TheVariants.{Return}
use Rattle.cfa.specs.declared.parts.Scope.{Scope}
use Rattle.cfa.specs.declared.parts.Variable.{Variable}
use Rattle.cfa.specs.Graph.{EdgeFits, SourceFits, IsExit, Continues, edges_from, function_called, callee_of, is_return, FunctionFits, IsGraph, result_kind_fits}
use Rattle.cfa.proofs.Exits.{given, taken}
use Rattle.c_typed_trees.specs.declared.unit.Global.{Global}
use Rattle.c_typed_trees.specs.declared.unit.Typed.{Typed}
use Rattle.c_typed_trees.specs.declared.unit.TypedFunction.{TypedFunction}
use Rattle.c_typed_trees.specs.Fitting.{Nameable, IsFitting, global_cells, global_fits, nameable, is_global, is_variable, word_kind, word_kinds}
use Rattle.c_lower_rules.specs.graph_of.Builder.{in_order}
use Rattle.c_lower_rules.specs.graph_of.Edges.{entry_of, exit_of}
use Rattle.c_lower_rules.specs.graph_of.Statements.{block_row}
use Rattle.c_lower_rules.specs.graph_of.Table.{piece}
use Rattle.c_lower_rules.specs.graph_of.GraphOf.{function_of, functions_from, global_variables, outermost, around_of, ends_from, ends, bodies_from, made, graph_of}
use Rattle.c_lower_rules.proofs.graph_rules.Ways.{among, ways, onward, Lead}
use Rattle.c_lower_rules.proofs.graph_rules.WaysWhole.{among_one, among_most, onward_none, onward_all, continues_one, none_leads, exits, exits_none, exits_some, AllPieces, whole_leads}
use Rattle.c_lower_rules.proofs.graph_rules.Sits.{Sits, sit_first, sit_rest, NodeMeets, ScopeMeets, EdgesMeet, Meets, meet_nil, meet_cons}
use Rattle.c_lower_rules.proofs.graph_rules.Settings.{node_meets}
use Rattle.c_lower_rules.proofs.graph_rules.SitsRows.{block_is}
use Rattle.c_lower_rules.proofs.graph_rules.SitsSwitch.{span_there}
use Rattle.c_lower_rules.proofs.graph_rules.StatementTrees.{PiecesHold, statements_hold}
use Rattle.c_lower_rules.proofs.graph_rules.WholeSettings.{all_at_place, function_from, whole_sits, parts_at, function_there, setting, at_entry, at_exit, within_function}

-- ---- lists

all_each : {A : Type 0} (P : A → Type 0) (xs : List A) (k : ℕ) (x : A) → AllByRecursion P xs → slice_get xs k ≡ Some x → P x
all_each P [] k x h is = absurd (cc)
all_each P (y ∷ ys) zero x h is = subst P (same_Some y x is) h.0
all_each P (y ∷ ys) (suc k) x h is = all_each P ys k x h.1 is

edge_each : (graph : GraphParts) (e : ℕ) (xs : List Edge) (k : ℕ) (x : Edge) → EdgesMeet graph e xs → slice_get xs k ≡ Some x → EdgeFits graph (e + k) x
edge_each graph e [] k x h is = absurd (cc)
edge_each graph e (y ∷ ys) zero x h is = let same : e ≡ e + 0 = omega arith in subst (λ n. EdgeFits graph n x) same (subst (EdgeFits graph e) (same_Some y x is) h.0)
edge_each graph e (y ∷ ys) (suc k) x h is = let same : e + 1 + k ≡ e + suc k = omega arith in subst (λ n. EdgeFits graph n x) same (edge_each graph (e + 1) ys k x h.1 is)

-- ---- returns

-- a function that an edge calls is one of the graph's
called_there : (graph : GraphParts) (call : ℕ) (f : Function) → function_called graph call ≡ Some f → (k : ℕ) × (slice_get graph.functions k ≡ Some f)
called_there graph call f h =
    option_and_then_some (λ (e : Edge). option_and_then (λ callee. slice_get graph.functions callee) (callee_of e.operation)) (slice_get graph.edges call) f h
    (λ e is there. option_and_then_some (λ callee. slice_get graph.functions callee) (callee_of e.operation) f there (λ k is_k at. (k, at)))

-- a return leaves an exit
return_leaves : (graph : GraphParts) (function source : ℕ) (op : Operation) → is_return op ≡ true → SourceFits graph function source op → IsExit graph source
return_leaves graph function source (Return call dest) r h =
    let t = taken (λ (f : Function). source ≡ f.exit) (function_called graph call) h in
    let k = called_there graph call t.0 t.1 in
    (k.0, given (λ (f : Function). f.exit ≡ source) (slice_get graph.functions k.0) t.0 k.1 (sym t.2))
return_leaves graph function source _ r h = absurd (cc)

not_true : (b : Bool) → (b ≡ true → ⊥) → b ≡ false
not_true true h = absurd (h refl)
not_true false h = refl

-- ---- kinds

parameters_known : (n : Nameable) (vs : List Variable) → IsTrue (list_all (is_variable n) vs) → IsTrue (list_all is_kind (filter_map word_kind vs))
parameters_known n [] h = refl
parameters_known n (v ∷ vs) h = by v.length (parameters_known n vs (and_right (is_variable n v) (list_all (is_variable n) vs) h))
  where
    known : IsTrue (is_kind v.kind)
    known = and_left (is_kind v.kind) _ (and_left (is_variable n v) (list_all (is_variable n) vs) h)

    by : (length' : Option ℕ) → IsTrue (list_all is_kind (filter_map word_kind vs)) → IsTrue (list_all is_kind (cons_option (elim length' [ None ↦ Some v.kind | Some length ↦ None ]) (filter_map word_kind vs)))
    by None rest = and_both (is_kind v.kind) (list_all is_kind (filter_map word_kind vs)) known rest
    by (Some own) rest = rest

cells_known : (kind : Kind) (values : List ℕ) → IsTrue (is_kind kind) → IsTrue (list_all (λ (q : Kind × ℕ). is_kind q.0) (map (λ value. (kind, value)) values))
cells_known kind [] h = refl
cells_known kind (v ∷ vs) h = and_both (is_kind kind) _ h (cells_known kind vs h)

globals_known : (cells : ℕ) (gs : List Global) → IsTrue (list_all (global_fits cells) gs) → IsTrue (list_all (λ (q : Kind × ℕ). is_kind q.0) (flat_map (λ (g : Global). map (λ value. (g.variable.kind, value)) g.first) gs))
globals_known cells [] h = refl
globals_known cells (g ∷ gs) h =
    let own = and_left (global_fits cells g) (list_all (global_fits cells) gs) h in
    let first = cells_known g.variable.kind g.first (and_left (is_kind g.variable.kind) (is_global cells g.variable.length g.variable.place) own) in
    list_all-append (λ (q : Kind × ℕ). is_kind q.0) (map (λ value. (g.variable.kind, value)) g.first) _ ∙ and_both _ _ first (globals_known cells gs (and_right (global_fits cells g) (list_all (global_fits cells) gs) h))

module _ (t : Typed) (files : List (List ℕ)) (fitting : IsFitting t (length files)) where
  -- functions from a number on are the unit's
  abbrev Tail : ℕ → List TypedFunction → Type 0
  Tail i fs = (k : ℕ) (f : TypedFunction) → slice_get fs k ≡ Some f → slice_get t.functions (i + k) ≡ Some f

  first_of_tail : (i : ℕ) (f : TypedFunction) (fs : List TypedFunction) → Tail i (f ∷ fs) → slice_get t.functions i ≡ Some f
  first_of_tail i f fs at = let e : i ≡ i + 0 = omega arith in ap (slice_get t.functions) e ∙ at zero f refl

  rest_of_tail : (i : ℕ) (f : TypedFunction) (fs : List TypedFunction) → Tail i (f ∷ fs) → Tail (i + 1) fs
  rest_of_tail i f fs at k g is = let e : i + 1 + k ≡ i + suc k = omega arith in ap (slice_get t.functions) e ∙ at (suc k) g is

  own_tail : Tail 0 t.functions
  own_tail k f is = let e : 0 + k ≡ k = omega arith in ap (slice_get t.functions) e ∙ is

  -- the body of a function
  body_holds : (k : ℕ) (f : TypedFunction) (is : slice_get t.functions k ≡ Some f) → PiecesHold (setting t files fitting k f is) (map piece f.body)
  body_holds k f is = statements_hold (setting t files fitting k f is) f.body (parts_at t files fitting k f is).body

  all_pieces : (i : ℕ) (fs : List TypedFunction) → Tail i fs → AllPieces (global_variables t) fs
  all_pieces i [] at = tt
  all_pieces i (f ∷ fs) at = ((body_holds i f (first_of_tail i f fs at)).ways, all_pieces (i + 1) fs (rest_of_tail i f fs at))

  bodies_meet : (i : ℕ) (fs : List TypedFunction) → Tail i fs → (n e k : ℕ) → Sits (graph_of t files) (in_order (bodies_from (global_variables t) i fs) n e k) n e k → Meets (graph_of t files) (in_order (bodies_from (global_variables t) i fs) n e k) e
  bodies_meet i [] at n e k s = meet_nil (graph_of t files) n e k
  bodies_meet i (f ∷ fs) at n e k s =
      let is = first_of_tail i f fs at in
      let m = block_row (map piece f.body) (around_of (global_variables t) i f) (entry_of i) (exit_of i) n e k in
      meet_cons (graph_of t files) _ _ n e k
      (block_is (setting t files fitting i f is) (map piece f.body) (body_holds i f is).sits (around_of (global_variables t) i f) (entry_of i) (exit_of i) n e k
      (within_function t files fitting i f is) (at_entry t files fitting i f is) (at_exit t files fitting i f is) (sit_first (graph_of t files) _ _ n e k s))
      (bodies_meet (i + 1) fs (rest_of_tail i f fs at) (n + length m.nodes) (e + length m.edges) (k + length m.scopes) (sit_rest (graph_of t files) _ _ n e k s))

  ends_meet : (i : ℕ) (fs : List TypedFunction) → Tail i fs → AllByRecursion (NodeMeets (graph_of t files)) (ends_from (global_variables t) i fs)
  ends_meet i [] at = tt
  ends_meet i (f ∷ fs) at =
      let is = first_of_tail i f fs at in
      let c = setting t files fitting i f is in
      let u = around_of (global_variables t) i f in
      let w = within_function t files fitting i f is in
      let P = parts_at t files fitting i f is in
      ((node_meets c u f.span 0 w (span_there c f.span P.span)).nodes.0, ((node_meets c u f.close 0 w (span_there c f.close P.close)).nodes.0, ends_meet (i + 1) fs (rest_of_tail i f fs at)))

  scopes_meet : (i : ℕ) (fs : List TypedFunction) → Tail i fs → AllByRecursion (ScopeMeets (graph_of t files)) (map (outermost (global_variables t)) fs)
  scopes_meet i [] at = tt
  scopes_meet i (f ∷ fs) at = (record { fits = (within_function t files fitting i f (first_of_tail i f fs at)).own }, scopes_meet (i + 1) fs (rest_of_tail i f fs at))

  all_meets : Meets (graph_of t files) (made (global_variables t) t.functions) 0
  all_meets =
      meet_cons (graph_of t files) (ends (global_variables t) t.functions) _ 0 0 0 (record { nodes = ends_meet 0 t.functions own_tail; edges = tt; scopes = scopes_meet 0 t.functions own_tail })
      (bodies_meet 0 t.functions own_tail _ _ _ (sit_rest (graph_of t files) _ _ 0 0 0 (whole_sits t files fitting)))

  -- ---- nodes, edges and scopes

  node_at_place : (k : ℕ) (n : Node) → slice_get (graph_of t files).nodes k ≡ Some n → NodeMeets (graph_of t files) n
  unfolding graph_of
  node_at_place k n is = all_each (NodeMeets (graph_of t files)) (made (global_variables t) t.functions).nodes k n all_meets.nodes is

  scope_at_place : (k : ℕ) (s : Scope) → slice_get (graph_of t files).scopes k ≡ Some s → ScopeMeets (graph_of t files) s
  unfolding graph_of
  scope_at_place k s is = all_each (ScopeMeets (graph_of t files)) (made (global_variables t) t.functions).scopes k s all_meets.scopes is

  edge_at_place : (k : ℕ) (e : Edge) → slice_get (graph_of t files).edges k ≡ Some e → EdgeFits (graph_of t files) k e
  unfolding graph_of
  edge_at_place k e is =
      let same : 0 + k ≡ k = omega arith in
      subst (λ n. EdgeFits (graph_of t files) n e) same (edge_each (graph_of t files) 0 (made (global_variables t) t.functions).edges k e all_meets.edges is)

  -- ---- functions and globals

  function_fits_at : (k : ℕ) (g : Function) → slice_get (graph_of t files).functions k ≡ Some g → FunctionFits (graph_of t files) k g
  unfolding graph_of
  function_fits_at k g is =
      let F = function_from 0 t.functions k g is in
      let e : 0 + k ≡ k = omega arith in
      let same : g ≡ function_of k F.0 = F.2 ∙ ap (λ j. function_of j F.0) e in
      let P = parts_at t files fitting k F.0 F.1 in
      subst (FunctionFits (graph_of t files) k) (sym same) (record {
        signature = and_both (list_all is_kind (word_kinds F.0)) (result_kind_fits F.0.result) (parameters_known (nameable t (length files) F.0) F.0.parameters P.parameters) P.result;
        entry = (at_entry t files fitting k F.0 F.1).there;
        exit = (at_exit t files fitting k F.0 F.1).there;
        least_cells = P.least;
        most_cells = P.most;
      })

  global_at_place : (k : ℕ) (q : Kind × ℕ) → slice_get (graph_of t files).globals k ≡ Some q → IsTrue (is_kind q.0)
  unfolding graph_of
  global_at_place k q is = all_at_place (λ (q : Kind × ℕ). is_kind q.0) (global_cells t) k q (globals_known (length (global_cells t)) t.globals fitting.globals) is

  input_at_place : (k : ℕ) (f : InputFunction) → slice_get (graph_of t files).inputs k ≡ Some f → IsTrue (is_kind f.result)
  unfolding graph_of
  input_at_place k f is = all_at_place (λ (f : InputFunction). is_kind f.result) t.inputs k f fitting.inputs is

  few_globals : length (graph_of t files).globals ≤ 16384
  unfolding graph_of
  few_globals = fitting.cells

  -- ---- ways on

  graph_leads : Lead (graph_of t files).edges
  unfolding graph_of
  graph_leads = (whole_leads (global_variables t) t.functions (all_pieces 0 t.functions own_tail)).leads

  ways_due : (j : ℕ) → ways j (graph_of t files).edges + exits 0 t.functions j ≡ among j 0 (graph_of t files).nodes
  unfolding graph_of
  ways_due j = let e = (whole_leads (global_variables t) t.functions (all_pieces 0 t.functions own_tail)).same j in omega arith

  -- the exit of a function of the unit
  exit_of_unit : (j : ℕ) → IsExit (graph_of t files) j → (k : ℕ) × ((f : TypedFunction) × (slice_get t.functions k ≡ Some f) × (exit_of (0 + k) ≡ j))
  unfolding graph_of
  exit_of_unit j ex =
      let T = taken (λ (f : Function). f.exit ≡ j) (slice_get (functions_from 0 t.functions) ex.0) ex.1 in
      let F = function_from 0 t.functions ex.0 T.0 T.1 in
      (ex.0, (F.0, F.1, ap (λ (f : Function). f.exit) (sym F.2) ∙ T.2))

  unit_exit : (k : ℕ) (f : TypedFunction) (j : ℕ) → slice_get t.functions k ≡ Some f → exit_of (0 + k) ≡ j → IsExit (graph_of t files) j
  unit_exit k f j is e =
      let none : k ≡ 0 + k = omega arith in
      (k, given (λ (f : Function). f.exit ≡ j) (slice_get (graph_of t files).functions k) (function_of k f) (function_there t files fitting k f is) (ap exit_of none ∙ e))

  returns_at : (k : ℕ) (e : Edge) → slice_get (graph_of t files).edges k ≡ Some e → IsExit (graph_of t files) e.source → IsTrue (is_return e.operation)
  returns_at k e is ex =
      let X = exit_of_unit e.source ex in
      let some = exits_some 0 t.functions e.source X.0 X.1.0 X.1.1 X.1.2 in
      let most = among_most e.source 0 (graph_of t files).nodes in
      let due = ways_due e.source in
      let none : ways e.source (graph_of t files).edges ≡ 0 = omega arith in
      onward_none e.source (graph_of t files).edges (none_leads (onward e.source (graph_of t files).edges) (ways e.source (graph_of t files).edges) (graph_leads.leads e.source) none) k e is refl

  ways_at : (j : ℕ) (n : Node) → slice_get (graph_of t files).nodes j ≡ Some n → ¬ IsExit (graph_of t files) j → Continues (edges_from (graph_of t files) j)
  ways_at j n is apart =
      let none = exits_none 0 t.functions j (λ k f there e. apart (unit_exit k f j there e)) in
      let one = among_one j (graph_of t files).nodes (slice_get_within (graph_of t files).nodes j n is) in
      let due = ways_due j in
      let count : ways j (graph_of t files).edges ≡ 1 = omega arith in
      let same = onward_all j (graph_of t files).edges (λ k e there at. not_true (is_return e.operation) (λ r. apart (subst (IsExit (graph_of t files)) at
      (return_leaves (graph_of t files) e.function e.source e.operation r (edge_at_place k e there).leaves)))) in
      subst Continues (sym same) (continues_one (onward j (graph_of t files).edges) (ways j (graph_of t files).edges) (graph_leads.leads j) count)

  pub graph_fits : IsGraph (graph_of t files)
  graph_fits = record {
    edges = edge_at_place;
    rest = record {
      nodes = λ k n is. (node_at_place k n is).fits;
      functions = function_fits_at;
      inputs = input_at_place;
      global_kinds = global_at_place;
      globals = few_globals;
      scopes = λ k s is. (scope_at_place k s is).fits;
      variables = λ k n is. (node_at_place k n is).sees;
      returns = returns_at;
      ways = ways_at;
    };
  }

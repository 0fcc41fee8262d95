-- The functions of a fitting unit as settings of its graph.
use Rattle.std.proofs.Common.{◌≡◌, ℕ, zero, suc, ◌+◌, ◌*◌, ◌≤◌, Bool, List, [], ◌∷◌, ◌++◌, map, length, Option, Some, refl, sym, ap, subst, ◌∙◌, arith}
use Rattle.std.specs.Prelude.{IsTrue, ◌&&◌, nat_lt, nat_le, slice_get}
use Rattle.std.specs.List.{list_all}
use Rattle.std.proofs.lemmas.Bool.{leb-true, lt-ltb}
use Rattle.std.proofs.lemmas.List.Folds.{list_all-append}
use Rattle.std.proofs.lemmas.Option.{same_Some, slice_get_within}
use Rattle.c_values.specs.Kind.{is_kind}
use Rattle.c_values.proofs.Fitting.{and_left, and_right, and_both}
use Rattle.cfa.specs.declared.parts.Function.{Function}
use Rattle.cfa.specs.declared.parts.Node.{Node}
use Rattle.cfa.specs.declared.parts.Variable.{Variable}
use Rattle.cfa.specs.declared.parts.VariablePlace.{VariablePlace}
use Rattle.cfa.specs.declared.parts.VariablePlace.TheVariants as variable
use Rattle.cfa.specs.Graph.{room_of, variable_fits, result_kind_fits}
use Rattle.cfa.specs.Rules.{Room, cell_count}
use Rattle.c_typed_trees.specs.declared.unit.Global.{Global}
use Rattle.c_typed_trees.specs.declared.unit.Typed.{Typed}
use Rattle.c_typed_trees.specs.declared.unit.TypedFunction.{TypedFunction}
use Rattle.c_typed_trees.specs.Fitting.{IsFitting, global_cells, global_fits, function_fits, nameable, room_in, is_global, is_variable, span_fits, statement_fits, word_kinds}
use Rattle.c_lower_rules.specs.graph_of.Edges.{entry_of, exit_of, node_at}
use Rattle.c_lower_rules.specs.graph_of.GraphOf.{function_of, functions_from, global_variables, outermost, around_of, ends_from, ends, made, graph_of}
use Rattle.c_lower_rules.proofs.graph_rules.Sits.{Holds, holds_itself, Sits, sit_first}
use Rattle.c_lower_rules.proofs.graph_rules.Settings.{Setting, AtNode, Within}
use Rattle.c_lower_rules.proofs.graph_rules.SitsRows.{variables_own, variables_seen}
use Rattle.c_lower_rules.proofs.graph_rules.SitsSwitch.{span_there}
use Rattle.cfa.proofs.Exits.{given}

-- ---- lists

pub holds_at : {A : Type 0} (all : List A) (n : ℕ) (xs : List A) (k : ℕ) (x : A) → Holds all n xs → slice_get xs k ≡ Some x → slice_get all (n + k) ≡ Some x
holds_at all n [] k x h is = absurd (cc)
holds_at all n (y ∷ ys) zero x h is = let e : n ≡ n + 0 = omega arith in ap (slice_get all) (sym e) ∙ h.0 ∙ is
holds_at all n (y ∷ ys) (suc k) x h is = let e : n + 1 + k ≡ n + suc k = omega arith in ap (slice_get all) (sym e) ∙ holds_at all (n + 1) ys k x h.1 is

pub all_at_place : {A : Type 0} (test : A → Bool) (xs : List A) (k : ℕ) (x : A) → IsTrue (list_all test xs) → slice_get xs k ≡ Some x → IsTrue (test x)
all_at_place test [] k x h is = absurd (cc)
all_at_place test (y ∷ ys) zero x h is = let e : y ≡ x = same_Some y x is in subst (λ z. IsTrue (test z)) e (and_left (test y) (list_all test ys) h)
all_at_place test (y ∷ ys) (suc k) x h is = all_at_place test ys k x (and_right (test y) (list_all test ys) h) is

map_at : {A B : Type 0} (f : A → B) (xs : List A) (k : ℕ) (x : A) → slice_get xs k ≡ Some x → slice_get (map f xs) k ≡ Some (f x)
map_at f [] k x is = absurd (cc)
map_at f (y ∷ ys) zero x is = ap (λ z. Some (f z)) (same_Some y x is)
map_at f (y ∷ ys) (suc k) x is = map_at f ys k x is

-- ---- functions

functions_at : (i : ℕ) (fs : List TypedFunction) (k : ℕ) (f : TypedFunction) → slice_get fs k ≡ Some f → slice_get (functions_from i fs) k ≡ Some (function_of (i + k) f)
functions_at i [] k f is = absurd (cc)
functions_at i (g ∷ fs) zero f is = let e : i ≡ i + 0 = omega arith in ap Some (ap (function_of i) (same_Some g f is) ∙ ap (λ j. function_of j f) e)
functions_at i (g ∷ fs) (suc k) f is = let e : i + 1 + k ≡ i + suc k = omega arith in functions_at (i + 1) fs k f is ∙ ap (λ j. Some (function_of j f)) e

-- which function of the unit a function of the graph is
pub function_from : (i : ℕ) (fs : List TypedFunction) (k : ℕ) (g : Function) → slice_get (functions_from i fs) k ≡ Some g → (f : TypedFunction) × (slice_get fs k ≡ Some f) × (g ≡ function_of (i + k) f)
function_from i [] k g is = absurd (cc)
function_from i (f ∷ fs) zero g is = let e : i ≡ i + 0 = omega arith in (f, refl, sym (same_Some (function_of i f) g is) ∙ ap (λ j. function_of j f) e)
function_from i (f ∷ fs) (suc k) g is =
    let r = function_from (i + 1) fs k g is in
    let e : i + 1 + k ≡ i + suc k = omega arith in
    (r.0, r.1, r.2 ∙ ap (λ j. function_of j r.0) e)

module _ (globals : List Variable) where
  -- the nodes of a function's entry and exit
  record Ends (all : List Node) (i : ℕ) (f : TypedFunction) : Type 0 where
    entry : slice_get all (entry_of i) ≡ Some (node_at (around_of globals i f) f.span)
    exit : slice_get all (exit_of i) ≡ Some (node_at (around_of globals i f) f.close)

  ends_at : (all : List Node) (i : ℕ) (fs : List TypedFunction) (k : ℕ) (f : TypedFunction) → Holds all (2 * i) (ends_from globals i fs) → slice_get fs k ≡ Some f → Ends all (i + k) f
  ends_at all i [] k f h is = absurd (cc)
  ends_at all i (g ∷ fs) zero f h is =
      let e : i ≡ i + 0 = omega arith in
      subst (λ j. Ends all j f) e (subst (Ends all i) (same_Some g f is) (record { entry = h.0; exit = h.1.0 }))
  ends_at all i (g ∷ fs) (suc k) f h is =
      let e : i + 1 + k ≡ i + suc k = omega arith in
      let next : 2 * i + 1 + 1 ≡ 2 * (i + 1) = omega arith in
      subst (λ j. Ends all j f) e (ends_at all (i + 1) fs k f (subst (λ n. Holds all n (ends_from globals (i + 1) fs)) next h.1.1) is)

module _ (t : Typed) (files : List (List ℕ)) (fitting : IsFitting t (length files)) where
  pub whole_sits : Sits (graph_of t files) (made (global_variables t) t.functions) 0 0 0
  unfolding graph_of
  whole_sits = record {
    nodes = holds_itself [] (made (global_variables t) t.functions).nodes;
    edges = holds_itself [] (made (global_variables t) t.functions).edges;
    scopes = holds_itself [] (made (global_variables t) t.functions).scopes;
  }

  pub ends_sit : Sits (graph_of t files) (ends (global_variables t) t.functions 0 0 0) 0 0 0
  ends_sit = sit_first (graph_of t files) _ _ 0 0 0 whole_sits

  -- what function_fits says
  pub record FunctionParts (f : TypedFunction) : Type 0 where
    pub span : IsTrue (span_fits (nameable t (length files) f) f.span)
    pub close : IsTrue (span_fits (nameable t (length files) f) f.close)
    pub result : IsTrue (result_kind_fits f.result)
    pub parameters : IsTrue (list_all (is_variable (nameable t (length files) f)) f.parameters)
    pub least : length (word_kinds f) + 1 ≤ f.cells
    pub most : f.cells ≤ 16384
    pub body : IsTrue (list_all (statement_fits (nameable t (length files) f)) f.body)

  pub function_parts : (f : TypedFunction) → IsTrue (function_fits t (length files) f) → FunctionParts f
  function_parts f h =
      let n = nameable t (length files) f in
      let a6 : IsTrue (span_fits n f.span && span_fits n f.close && result_kind_fits f.result && list_all (is_variable n) f.parameters && nat_le (length (word_kinds f) + 1) f.cells && nat_le f.cells 16384 && list_all (statement_fits n) f.body) = h in
      let a5 = and_left _ _ a6 in
      let a4 = and_left _ _ a5 in
      let a3 = and_left _ _ a4 in
      let a2 = and_left _ _ a3 in
      let a1 = and_left _ _ a2 in
      record {
        span = and_left _ _ a1;
        close = and_right _ _ a1;
        result = and_right _ _ a2;
        parameters = and_right _ _ a3;
        least = leb-true (length (word_kinds f) + 1) f.cells (and_right _ _ a4);
        most = leb-true f.cells 16384 (and_right _ _ a5);
        body = and_right _ _ a6;
      }

  pub parts_at : (k : ℕ) (f : TypedFunction) → slice_get t.functions k ≡ Some f → FunctionParts f
  parts_at k f is = function_parts f (all_at_place (function_fits t (length files)) t.functions k f fitting.functions is)

  -- ---- the setting of a function

  pub function_there : (k : ℕ) (f : TypedFunction) → slice_get t.functions k ≡ Some f → slice_get (graph_of t files).functions k ≡ Some (function_of k f)
  unfolding graph_of
  function_there k f is = let e : 0 + k ≡ k = omega arith in functions_at 0 t.functions k f is ∙ ap (λ j. Some (function_of j f)) e

  ends_there : (k : ℕ) (f : TypedFunction) → slice_get t.functions k ≡ Some f → Ends (global_variables t) (graph_of t files).nodes k f
  ends_there k f is =
      let e : 0 + k ≡ k = omega arith in
      subst (λ j. Ends (global_variables t) (graph_of t files).nodes j f) e (ends_at (global_variables t) (graph_of t files).nodes 0 t.functions k f ends_sit.nodes is)

  pub entry_there : (k : ℕ) (f : TypedFunction) → slice_get t.functions k ≡ Some f → slice_get (graph_of t files).nodes (entry_of k) ≡ Some (node_at (around_of (global_variables t) k f) f.span)
  entry_there k f is = (ends_there k f is).entry

  pub exit_there : (k : ℕ) (f : TypedFunction) → slice_get t.functions k ≡ Some f → slice_get (graph_of t files).nodes (exit_of k) ≡ Some (node_at (around_of (global_variables t) k f) f.close)
  exit_there k f is = (ends_there k f is).exit

  pub files_same : length files ≡ length (graph_of t files).files
  unfolding graph_of
  files_same = refl

  pub room_same : (k : ℕ) (f : TypedFunction) → room_in t f ≡ room_of (graph_of t files) (function_of k f)
  unfolding graph_of
  room_same k f = refl

  pub inputs_same : (graph_of t files).inputs ≡ t.inputs
  unfolding graph_of
  inputs_same = refl

  pub some_cell : (k : ℕ) (f : TypedFunction) → slice_get t.functions k ≡ Some f → IsTrue (nat_lt 0 f.cells)
  some_cell k f is = let least = (parts_at k f is).least in lt-ltb 0 f.cells (omega arith)

  abbrev pub setting : (k : ℕ) (f : TypedFunction) → slice_get t.functions k ≡ Some f → Setting
  setting k f is = record {
    graph = graph_of t files;
    names = nameable t (length files) f;
    number = k;
    own = function_of k f;
    files = files_same;
    function = function_there k f is;
    room = room_same k f;
    some_cell = some_cell k f is;
    cells = (parts_at k f is).most;
    globals = fitting.cells;
    functions = function_there;
    entries = λ j g there. slice_get_within (graph_of t files).nodes (entry_of j) _ (entry_there j g there);
    exits = λ j g there. slice_get_within (graph_of t files).nodes (exit_of j) _ (exit_there j g there);
    inputs = inputs_same;
  }

  -- ---- what is known in it

  global_place : (cells : ℕ) (room : Room) (length' : Option ℕ) (p : VariablePlace) → room.globals ≡ cells → IsTrue (is_global cells length' p) → IsTrue (variable_fits room length' p)
  global_place cells room length' (variable.Global first) e h = subst (λ n. IsTrue (nat_le (first + cell_count length') n)) (sym e) h
  global_place cells room length' (variable.Local first) e h = absurd (cc)
  global_place cells room length' (variable.Lent parameter) e h = absurd (cc)

  -- variables of the file's scope are variables of each function
  globals_fit : (f : TypedFunction) (gs : List Global) → IsTrue (list_all (global_fits (length (global_cells t))) gs) → IsTrue (list_all (is_variable (nameable t (length files) f)) (map (λ (g : Global). g.variable) gs))
  globals_fit f [] h = refl
  globals_fit f (g ∷ gs) h =
      let v = g.variable in
      let own : IsTrue (is_kind v.kind && is_global (length (global_cells t)) v.length v.place) = and_left (global_fits (length (global_cells t)) g) (list_all (global_fits (length (global_cells t))) gs) h in
      and_both (is_variable (nameable t (length files) f) v) _
      (and_both (is_kind v.kind) (variable_fits (room_in t f) v.length v.place) (and_left _ _ own) (global_place (length (global_cells t)) (room_in t f) v.length v.place refl (and_right _ _ own)))
      (globals_fit f gs (and_right (global_fits (length (global_cells t)) g) (list_all (global_fits (length (global_cells t))) gs) h))

  outermost_fits : (k : ℕ) (f : TypedFunction) → slice_get t.functions k ≡ Some f → IsTrue (list_all (is_variable (nameable t (length files) f)) (f.parameters ++ global_variables t))
  outermost_fits k f is =
      let test = is_variable (nameable t (length files) f) in
      list_all-append test f.parameters (global_variables t) ∙ and_both (list_all test f.parameters) (list_all test (global_variables t)) (parts_at k f is).parameters (globals_fit f t.globals fitting.globals)

  scope_there : (k : ℕ) (f : TypedFunction) → slice_get t.functions k ≡ Some f → slice_get (graph_of t files).scopes k ≡ Some (outermost (global_variables t) f)
  scope_there k f is =
      let e : 0 + k ≡ k = omega arith in
      ap (slice_get (graph_of t files).scopes) (sym e) ∙ holds_at (graph_of t files).scopes 0 (map (outermost (global_variables t)) t.functions) k (outermost (global_variables t) f) ends_sit.scopes (map_at (outermost (global_variables t)) t.functions k f is)

  pub at_entry : (k : ℕ) (f : TypedFunction) (is : slice_get t.functions k ≡ Some f) → AtNode (setting k f is) (entry_of k)
  at_entry k f is = record { there = given (λ (n : Node). n.function ≡ k) (slice_get (graph_of t files).nodes (entry_of k)) _ (entry_there k f is) refl }

  pub at_exit : (k : ℕ) (f : TypedFunction) (is : slice_get t.functions k ≡ Some f) → AtNode (setting k f is) (exit_of k)
  at_exit k f is = record { there = given (λ (n : Node). n.function ≡ k) (slice_get (graph_of t files).nodes (exit_of k)) _ (exit_there k f is) refl }

  pub within_function : (k : ℕ) (f : TypedFunction) (is : slice_get t.functions k ≡ Some f) → Within (setting k f is) (around_of (global_variables t) k f)
  within_function k f is = record {
    function = refl;
    file = span_there (setting k f is) f.span (parts_at k f is).span;
    scope = scope_there k f is;
    own = variables_own (setting k f is) (f.parameters ++ global_variables t) (outermost_fits k f is);
    sees = variables_seen (setting k f is) (f.parameters ++ global_variables t) (outermost_fits k f is);
    exit = at_exit k f is;
    on_break = at_exit k f is;
    on_continue = at_exit k f is;
  }

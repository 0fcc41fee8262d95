-- A function of a graph that a unit's functions make, and what is known within it.
use Rattle.std.proofs.Common.{◌≡◌, ℕ, ◌+◌, ◌<◌, ◌≤◌, Bool, [], ◌∷◌, length, Option, Some, refl, sym, ap, subst, ◌∙◌, arith}
use Rattle.std.specs.Prelude.{slice_get, IsTrue, nat_lt}
use Rattle.std.specs.Option.{IsSomeAnd}
use Rattle.std.proofs.lemmas.Option.{slice_get_within, same_Some}
use Rattle.cfa.specs.declared.expr.Expr.{Expr}
use Rattle.cfa.specs.declared.expr.ArrayPlace.{ArrayPlace}
use Rattle.cfa.specs.declared.expr.CellPlace.{CellPlace}
use Rattle.cfa.specs.declared.parts.Edge.{Edge}
use Rattle.cfa.specs.declared.parts.Function.{Function}
use Rattle.cfa.specs.declared.parts.GraphParts.{GraphParts}
use Rattle.cfa.specs.declared.parts.Node.{Node}
use Rattle.cfa.specs.declared.parts.Operation.{Operation}
use Rattle.cfa.specs.declared.parts.Operation.TheVariants.{Skip, Assign, Clear, Guard, Answer, Assert, Assume}
use Rattle.cfa.specs.declared.parts.Scope.{Scope}
use Rattle.cfa.specs.Graph.{room_of, IsNodeOf, NumbersFit, SourceFits, TargetFits, PairFits, operands_fit, EdgeFits, scope_fits, scope_fits_in}
use Rattle.cfa.proofs.Exits.{given, taken}
use Rattle.fq_core.specs.declared.span.Span.{Span}
use Rattle.c_typed_trees.specs.declared.unit.TypedFunction.{TypedFunction}
use Rattle.c_typed_trees.specs.Fitting.{Nameable}
use Rattle.c_lower_rules.specs.declared.graph_of.parts.Around.{Around}
use Rattle.c_lower_rules.specs.graph_of.Edges.{entry_of, exit_of, node_at}
use Rattle.c_lower_rules.specs.graph_of.GraphOf.{function_of}
use Rattle.c_lower_rules.proofs.graph_rules.Sits.{Sits, Meets, NodeMeets}

-- a function of a graph, with what its trees may name
pub record Setting : Type 0 where
  pub graph : GraphParts
  pub names : Nameable
  pub number : ℕ
  pub own : Function
  pub files : names.files ≡ length graph.files
  pub function : slice_get graph.functions number ≡ Some own
  pub room : names.room ≡ room_of graph own
  pub some_cell : IsTrue (nat_lt 0 names.room.cells)
  pub cells : names.room.cells ≤ 16384
  pub globals : names.room.globals ≤ 16384
  pub functions : (j : ℕ) (f : TypedFunction) → slice_get names.functions j ≡ Some f → slice_get graph.functions j ≡ Some (function_of j f)
  pub entries : (j : ℕ) (f : TypedFunction) → slice_get names.functions j ≡ Some f → entry_of j < length graph.nodes
  pub exits : (j : ℕ) (f : TypedFunction) → slice_get names.functions j ≡ Some f → exit_of j < length graph.nodes
  pub inputs : graph.inputs ≡ names.inputs

-- a node of the function
pub record AtNode (c : Setting) (n : ℕ) : Type 0 where
  pub there : IsNodeOf c.graph c.number n

-- what stands in the function: its scope sees variables that fit, and the nodes that it leads to are there
pub record Within (c : Setting) (u : Around) : Type 0 where
  pub function : u.function ≡ c.number
  pub file : u.span.file < length c.graph.files
  pub scope : slice_get c.graph.scopes u.scope ≡ Some u.sees
  pub own : IsTrue (scope_fits (length c.graph.globals) u.sees)
  pub sees : IsTrue (scope_fits_in c.names.room u.sees)
  pub exit : AtNode c u.exit
  pub on_break : AtNode c u.on_break
  pub on_continue : AtNode c u.on_continue

module _ (c : Setting) where
  pub node_within : (n : ℕ) → AtNode c n → n < length c.graph.nodes
  node_within n h = let t = taken (λ (x : Node). x.function ≡ c.number) (slice_get c.graph.nodes n) h.there in slice_get_within c.graph.nodes n t.0 t.1

  pub at_node : {x : Node} {n e k : ℕ} → x.function ≡ c.number → Sits c.graph (record { nodes = x ∷ []; edges = []; scopes = [] }) n e k → AtNode c n
  at_node {x = x} {n = n} e s = record { there = given (λ (y : Node). y.function ≡ c.number) (slice_get c.graph.nodes n) x s.nodes.0 e }

  pub third_node : (n : ℕ) → AtNode c (n + 1 + 1) → AtNode c (n + 2)
  third_node n h = let e : n + 1 + 1 ≡ n + 2 = omega arith in subst (AtNode c) e h

  pub in_functions : c.number < length c.graph.functions
  in_functions = slice_get_within c.graph.functions c.number c.own c.function

  -- ---- nodes

  pub node_meets : (u : Around) (span : Span) (e : ℕ) → Within c u → span.file < length c.graph.files → Meets c.graph (record { nodes = node_at u span ∷ []; edges = []; scopes = [] }) e
  node_meets u span e w file = record { nodes = (meets, tt); edges = tt; scopes = tt }
    where
      sees : (f : Function) (s : Scope) → slice_get c.graph.functions u.function ≡ Some f → slice_get c.graph.scopes u.scope ≡ Some s → IsTrue (scope_fits_in (room_of c.graph f) s)
      sees f s is_f is_s =
          let f' : c.own ≡ f = same_Some c.own f (sym c.function ∙ ap (slice_get c.graph.functions) (sym w.function) ∙ is_f) in
          let s' : u.sees ≡ s = same_Some u.sees s (sym w.scope ∙ is_s) in
          subst (λ g. IsTrue (scope_fits_in (room_of c.graph g) s)) f' (subst (λ r. IsTrue (scope_fits_in r s)) c.room (subst (λ t. IsTrue (scope_fits_in c.names.room t)) s' w.sees))

      meets : NodeMeets c.graph (node_at u span)
      meets = record {
        fits = record { function = let h = in_functions in let e = w.function in omega arith; file = file; scope = slice_get_within c.graph.scopes u.scope u.sees w.scope };
        sees = sees;
      }

  -- ---- edges

  -- an operation along an edge from a node of the function to another
  pub record IsPlain (op : Operation) : Type 0 where
    pub numbers : NumbersFit c.graph op
    pub leaves : (f s : ℕ) → IsNodeOf c.graph f s → SourceFits c.graph f s op
    pub reaches : (f t : ℕ) → IsNodeOf c.graph f t → TargetFits c.graph f t op
    pub pair : (at f : ℕ) → PairFits c.graph at f op
    pub operands : IsTrue (operands_fit c.graph c.names.room op)

  pub operands_meet : (x : Edge) → x.function ≡ c.number → IsTrue (operands_fit c.graph c.names.room x.operation) → IsSomeAnd (slice_get c.graph.functions x.function) (λ f. IsTrue (operands_fit c.graph (room_of c.graph f) x.operation))
  operands_meet x f h =
      given (λ (g : Function). IsTrue (operands_fit c.graph (room_of c.graph g) x.operation)) (slice_get c.graph.functions x.function) c.own (ap (slice_get c.graph.functions) f ∙ c.function)
      (subst (λ r. IsTrue (operands_fit c.graph r x.operation)) c.room h)

  own_node : (x : Edge) (n : ℕ) → x.function ≡ c.number → AtNode c n → IsNodeOf c.graph x.function n
  own_node x n f h = subst (λ g. IsNodeOf c.graph g n) (sym f) h.there

  pub edge_fits : (x : Edge) (e : ℕ) → x.function ≡ c.number → x.span.file < length c.graph.files → AtNode c x.source → AtNode c x.target → IsPlain x.operation → EdgeFits c.graph e x
  edge_fits x e f file a z p = record {
    file = file;
    function = let h = in_functions in omega arith;
    source = node_within x.source a;
    target = node_within x.target z;
    numbers = p.numbers;
    leaves = p.leaves x.function x.source (own_node x x.source f a);
    reaches = p.reaches x.function x.target (own_node x x.target f z);
    operands = operands_meet x f p.operands;
    pair = p.pair e x.function;
  }

  pub edge_meets : {x : Edge} {e : ℕ} → x.function ≡ c.number → x.span.file < length c.graph.files → AtNode c x.source → AtNode c x.target → IsPlain x.operation → Meets c.graph (record { nodes = []; edges = x ∷ []; scopes = [] }) e
  edge_meets {x = x} {e = e} f file a z p = record { nodes = tt; edges = (edge_fits x e f file a z p, tt); scopes = tt }

  -- ---- operations

  pub plain_skip : IsPlain Skip
  plain_skip = record { numbers = tt; leaves = λ f s h. h; reaches = λ f t h. h; pair = λ at f. tt; operands = refl }

  pub plain_assign : (p : CellPlace) (v : Expr) → IsTrue (operands_fit c.graph c.names.room (Assign p v)) → IsPlain (Assign p v)
  plain_assign p v o = record { numbers = tt; leaves = λ f s h. h; reaches = λ f t h. h; pair = λ at f. tt; operands = o }

  pub plain_clear : (a : ArrayPlace) (length : ℕ) → IsTrue (operands_fit c.graph c.names.room (Clear a length)) → IsPlain (Clear a length)
  plain_clear a length o = record { numbers = tt; leaves = λ f s h. h; reaches = λ f t h. h; pair = λ at f. tt; operands = o }

  pub plain_guard : (test : Expr) (truth : Bool) → IsTrue (operands_fit c.graph c.names.room (Guard test truth)) → IsPlain (Guard test truth)
  plain_guard test truth o = record { numbers = tt; leaves = λ f s h. h; reaches = λ f t h. h; pair = λ at f. tt; operands = o }

  pub plain_assert : (test : Expr) → IsTrue (operands_fit c.graph c.names.room (Assert test)) → IsPlain (Assert test)
  plain_assert test o = record { numbers = tt; leaves = λ f s h. h; reaches = λ f t h. h; pair = λ at f. tt; operands = o }

  pub plain_assume : (test : Expr) → IsTrue (operands_fit c.graph c.names.room (Assume test)) → IsPlain (Assume test)
  plain_assume test o = record { numbers = tt; leaves = λ f s h. h; reaches = λ f t h. h; pair = λ at f. tt; operands = o }

  pub plain_answer : (input : ℕ) (dest : Option CellPlace) → input < length c.graph.inputs → IsTrue (operands_fit c.graph c.names.room (Answer input dest)) → IsPlain (Answer input dest)
  plain_answer input dest i o = record { numbers = i; leaves = λ f s h. h; reaches = λ f t h. h; pair = λ at f. tt; operands = o }

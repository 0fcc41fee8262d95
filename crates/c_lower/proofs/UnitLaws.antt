-- Functions, their ends and bodies, and the whole.
use Rattle.std.proofs.Common.{◌≡◌, ◌<◌, ◌≤◌, ℕ, ◌+◌, ◌-◌, List, [], ◌∷◌, ◌++◌, map, length, get_or, take, drop, Option, Some, None, refl, sym, ap, subst, ◌∙◌, append_assoc, append-nil, arith}
use Rattle.std.specs.Prelude.{filter_map}
use Rattle.std.specs.List.{flat_map}
use Rattle.std.proofs.lemmas.List.{drop_all, take_more, take_all, map-append, length-take, flat_map_more}
use Rattle.std.proofs.lemmas.List.Elements.{filter_map-append}
use Rattle.c_values.specs.declared.kinds.Kind.{Kind}
use Rattle.cfa.specs.declared.parts.Function.{Function}
use Rattle.cfa.specs.declared.parts.Node.{Node}
use Rattle.cfa.specs.declared.parts.Scope.{Scope}
use Rattle.cfa.specs.declared.parts.Variable.{Variable}
use Rattle.c_typed_trees.specs.declared.unit.Typed.{Typed}
use Rattle.c_typed_trees.specs.declared.unit.TypedFunction.{TypedFunction}
use Rattle.c_lower_rules.specs.declared.graph_of.parts.Parts.{Parts}
use Rattle.c_lower_rules.specs.graph_of.Builder.{in_order, after}
use Rattle.c_lower_rules.specs.graph_of.Edges.{entry_of, exit_of, node_at}
use Rattle.c_lower_rules.specs.graph_of.GraphOf.{graph_of, word_kind, function_of, functions_from, global_variables, global_cells, outermost, around_of, ends_from, ends, bodies_from, made}
use Rattle.c_lower_rules.specs.graph_of.Statements.{block_row}
use Rattle.c_lower_rules.specs.graph_of.Table.{piece}
use Rattle.c_lower_rules.proofs.graph_of.After.{after_nil}
use Rattle.c_lower.specs.Stopping.{IsStop, IsTold}
use Rattle.c_lower.specs.declared.stop.Stop.{Stop}
use Rattle.c_lower.specs.declared.stop.Stop.TheVariants as stops
use Rattle.c_lower.proofs.FlowLaws.{after_cons}
use Rattle.c_lower.proofs.Lists.{here_behind}
use Rattle.c_lower.proofs.Stops.{stop_grows}

-- ---- lists

-- the elements up to a place and the one there
up_to_here : {X : Type 0} (xs : List X) (i : ℕ) (x : X) → i < length xs → x ≡ get_or xs i x → take (i + 1) xs ≡ take i xs ++ x ∷ []
up_to_here xs i x within is = take_more xs i x within ∙ ap (λ y. take i xs ++ y ∷ []) (sym is)

-- a step of a loop down to the front
drop_back : {X : Type 0} (xs : List X) (i : ℕ) (x : X) → 0 < i → i ≤ length xs → x ≡ get_or xs (i - 1) x → drop (i - 1) xs ≡ x ∷ drop i xs
drop_back xs i x some within is = here_behind xs (i - 1) x (omega arith) is ∙ ap (λ k. x ∷ drop k xs) (let next : i - 1 + 1 ≡ i = omega arith in next)

pub one_before : {X : Type 0} (xs : List X) (i : ℕ) (x : X) (outer chain more : List X) → 0 < i → i ≤ length xs → x ≡ get_or xs (i - 1) x → more ≡ x ∷ chain → chain ≡ drop i xs ++ outer → more ≡ drop (i - 1) xs ++ outer
one_before xs i x outer chain more some within is e h = e ∙ ap (λ l. x ∷ l) h ∙ ap (λ l. l ++ outer) (sym (drop_back xs i x some within is))

pub mapped_before : {X Y : Type 0} (f : X → Y) (xs : List X) (i : ℕ) (x : X) (chain more : List Y) → 0 < i → i ≤ length xs → x ≡ get_or xs (i - 1) x → more ≡ f x ∷ chain → chain ≡ map f (drop i xs) → more ≡ map f (drop (i - 1) xs)
mapped_before f xs i x chain more some within is e h = e ∙ ap (λ l. f x ∷ l) h ∙ ap (map f) (sym (drop_back xs i x some within is))

-- ---- ends

module _ (globals : List Variable) where
  ends-append : (k : ℕ) (fs : List TypedFunction) (f : TypedFunction) → ends_from globals k (fs ++ f ∷ []) ≡ ends_from globals k fs ++ node_at (around_of globals (k + length fs) f) f.span ∷ node_at (around_of globals (k + length fs) f) f.close ∷ []
  ends-append k [] f = ap (λ n. node_at (around_of globals n f) f.span ∷ node_at (around_of globals n f) f.close ∷ []) (let e : k ≡ k + 0 = omega arith in e)
  ends-append k (g ∷ fs) f =
      ap (λ ns. node_at (around_of globals k g) g.span ∷ node_at (around_of globals k g) g.close ∷ ns)
      (ends-append (k + 1) fs f ∙ ap (λ n. ends_from globals (k + 1) fs ++ node_at (around_of globals n f) f.span ∷ node_at (around_of globals n f) f.close ∷ []) (let e : k + 1 + length fs ≡ k + length (g ∷ fs) = omega arith in e))

  pub ends_more : (fs : List TypedFunction) (i : ℕ) (f : TypedFunction) → i < length fs → f ≡ get_or fs i f
      → ends_from globals 0 (take (i + 1) fs) ≡ ends_from globals 0 (take i fs) ++ node_at (around_of globals i f) f.span ∷ node_at (around_of globals i f) f.close ∷ []
  ends_more fs i f within is =
      ap (ends_from globals 0) (up_to_here fs i f within is) ∙ ends-append 0 (take i fs) f
      ∙ ap (λ n. ends_from globals 0 (take i fs) ++ node_at (around_of globals n f) f.span ∷ node_at (around_of globals n f) f.close ∷ []) (let e : 0 + length (take i fs) ≡ i = omega (arith, length-take i fs) in e)

  pub scopes_more : (fs : List TypedFunction) (i : ℕ) (f : TypedFunction) → i < length fs → f ≡ get_or fs i f → map (outermost globals) (take (i + 1) fs) ≡ map (outermost globals) (take i fs) ++ outermost globals f ∷ []
  scopes_more fs i f within is = ap (map (outermost globals)) (up_to_here fs i f within is) ∙ map-append (outermost globals) (take i fs) (f ∷ [])

  abbrev ends_up_to : Parts → List TypedFunction → ℕ → Type 0
  ends_up_to m fs i = m ≡ record { nodes = ends_from globals 0 (take i fs); edges = []; scopes = map (outermost globals) (take i fs) }

  -- a turn over ends, from what its calls give
  pub ends_turn : (fs : List TypedFunction) (i : ℕ) (f : TypedFunction) (m : Parts) (first last : Node) (ns ms : List Node) (s : Scope) (ss : List Scope) → i < length fs → f ≡ get_or fs i f
      → m ≡ record { nodes = ends_from globals 0 (take i fs); edges = []; scopes = map (outermost globals) (take i fs) } → first ≡ node_at (around_of globals i f) f.span → last ≡ node_at (around_of globals i f) f.close
      → ns ≡ m.nodes ++ first ∷ [] → ms ≡ ns ++ last ∷ [] → s ≡ outermost globals f → ss ≡ m.scopes ++ s ∷ []
      → ends_up_to (record { nodes = ms; edges = m.edges; scopes = ss }) fs (i + 1)
  ends_turn fs i f m first last ns ms s ss within is e h1 h2 h3 h4 h5 h6 =
      let nodes : ms ≡ ends_from globals 0 (take (i + 1) fs) =
      h4 ∙ ap (λ l. l ++ last ∷ []) h3 ∙ append_assoc m.nodes (first ∷ []) (last ∷ []) ∙ (λ j. (e j).nodes ++ h1 j ∷ h2 j ∷ []) ∙ sym (ends_more fs i f within is) in
      let scopes : ss ≡ map (outermost globals) (take (i + 1) fs) = h6 ∙ (λ j. (e j).scopes ++ h5 j ∷ []) ∙ sym (scopes_more fs i f within is) in
      λ j. record { nodes = nodes j; edges = (e j).edges; scopes = scopes j }

  -- ---- bodies

  module _ (fs : List TypedFunction) (i : ℕ) (f : TypedFunction) (m : Parts) (within : i < length fs) (is : f ≡ get_or fs i f) where
    body_turn : after (in_order (bodies_from globals i (drop i fs))) m ≡ after (in_order (bodies_from globals (i + 1) (drop (i + 1) fs))) (after (block_row (map piece f.body) (around_of globals i f) (entry_of i) (exit_of i)) m)
    body_turn = ap (λ l. after (in_order (bodies_from globals i l)) m) (here_behind fs i f within is) ∙ after_cons (block_row (map piece f.body) (around_of globals i f) (entry_of i) (exit_of i)) (bodies_from globals (i + 1) (drop (i + 1) fs)) m

    pub bodies_go_on : (whole m2 : Parts) → m2 ≡ after (block_row (map piece f.body) (around_of globals i f) (entry_of i) (exit_of i)) m → whole ≡ after (in_order (bodies_from globals i (drop i fs))) m → whole ≡ after (in_order (bodies_from globals (i + 1) (drop (i + 1) fs))) m2
    bodies_go_on whole m2 e h = h ∙ body_turn ∙ ap (after (in_order (bodies_from globals (i + 1) (drop (i + 1) fs)))) (sym e)

    pub bodies_stop : (whole : Parts) (stop : Stop) → whole ≡ after (in_order (bodies_from globals i (drop i fs))) m → IsStop stop (after (block_row (map piece f.body) (around_of globals i f) (entry_of i) (exit_of i)) m) → IsStop stop whole
    bodies_stop whole stop e h = subst (λ p. IsStop stop p) (sym (e ∙ body_turn)) (stop_grows stop _ _ h)

  pub bodies_end : (fs : List TypedFunction) (i : ℕ) (m whole : Parts) → length fs ≤ i → whole ≡ after (in_order (bodies_from globals i (drop i fs))) m → m ≡ whole
  bodies_end fs i m whole end h = sym (h ∙ ap (λ l. after (in_order (bodies_from globals i l)) m) (drop_all i fs end) ∙ after_nil m)

  nothing : Parts
  nothing = record { nodes = []; edges = []; scopes = [] }

  -- the ends, and then the bodies
  pub whole_made : (fs : List TypedFunction) → after (in_order (bodies_from globals 0 fs)) (ends globals fs 0 0 0) ≡ made globals fs
  unfolding after nothing
  whole_made fs = sym (after_cons (ends globals fs) (bodies_from globals 0 fs) nothing)

-- ---- functions

functions-append : (k : ℕ) (fs : List TypedFunction) (f : TypedFunction) → functions_from k (fs ++ f ∷ []) ≡ functions_from k fs ++ function_of (k + length fs) f ∷ []
functions-append k [] f = ap (λ n. function_of n f ∷ []) (let e : k ≡ k + 0 = omega arith in e)
functions-append k (g ∷ fs) f = ap (λ l. function_of k g ∷ l) (functions-append (k + 1) fs f ∙ ap (λ n. functions_from (k + 1) fs ++ function_of n f ∷ []) (let e : k + 1 + length fs ≡ k + length (g ∷ fs) = omega arith in e))

pub functions_more : (fs : List TypedFunction) (i : ℕ) (f : TypedFunction) (y : Function) (all more : List Function) → i < length fs → f ≡ get_or fs i f → y ≡ function_of i f → more ≡ all ++ y ∷ [] → all ≡ functions_from 0 (take i fs) → more ≡ functions_from 0 (take (i + 1) fs)
functions_more fs i f y all more within is own e h =
    e ∙ ap (λ x. all ++ x ∷ []) own ∙ ap (λ l. l ++ function_of i f ∷ []) h
    ∙ sym (ap (functions_from 0) (up_to_here fs i f within is) ∙ functions-append 0 (take i fs) f ∙ ap (λ n. functions_from 0 (take i fs) ++ function_of n f ∷ []) (let e : 0 + length (take i fs) ≡ i = omega (arith, length-take i fs) in e))

pub functions_end : (fs : List TypedFunction) (i : ℕ) (all : List Function) → length fs ≤ i → all ≡ functions_from 0 (take i fs) → all ≡ functions_from 0 fs
functions_end fs i all end h = h ∙ ap (functions_from 0) (take_all i fs end)

filtered : {Y : Type 0} (h : Variable → Option Y) (vs : List Variable) (i : ℕ) (v : Variable) → i < length vs → v ≡ get_or vs i v → filter_map h (take (i + 1) vs) ≡ filter_map h (take i vs) ++ filter_map h (v ∷ [])
filtered h vs i v within is = ap (filter_map h) (up_to_here vs i v within is) ∙ filter_map-append h (take i vs) (v ∷ [])

module _ {Y : Type 0} (h : Variable → Option Y) (vs : List Variable) (i : ℕ) (v : Variable) (all : List Y) (within : i < length vs) (is : v ≡ get_or vs i v) (left : all ≡ filter_map h (take i vs)) where
  pub none_more : h v ≡ None → all ≡ filter_map h (take (i + 1) vs)
  none_more e = left ∙ sym (append-nil (filter_map h (take i vs))) ∙ ap (λ l. filter_map h (take i vs) ++ l) (sym kept) ∙ sym (filtered h vs i v within is)
    where
      kept : filter_map h (v ∷ []) ≡ []
      kept = rw e refl

  pub one_more : (y : Y) (more : List Y) → h v ≡ Some y → more ≡ all ++ y ∷ [] → more ≡ filter_map h (take (i + 1) vs)
  one_more y more e k = k ∙ ap (λ l. l ++ y ∷ []) left ∙ ap (λ l. filter_map h (take i vs) ++ l) (sym kept) ∙ sym (filtered h vs i v within is)
    where
      kept : filter_map h (v ∷ []) ≡ y ∷ []
      kept = rw e refl

pub word_at : (v : Variable) → v.length ≡ None → word_kind v ≡ Some v.kind
word_at v e = ap (λ (o : Option ℕ). elim o as (λ _. Option Kind) [ None ↦ Some v.kind | Some length ↦ None ]) e

pub no_word : (v : Variable) (n : ℕ) → v.length ≡ Some n → word_kind v ≡ None
no_word v n e = ap (λ (o : Option ℕ). elim o as (λ _. Option Kind) [ None ↦ Some v.kind | Some length ↦ None ]) e

-- ---- globals

pub cells_more : {X Y : Type 0} (f : X → List Y) (xs : List X) (i : ℕ) (x : X) (cells more : List Y) → i < length xs → x ≡ get_or xs i x → cells ≡ flat_map f (take i xs) → more ≡ cells ++ f x → more ≡ flat_map f (take (i + 1) xs)
cells_more f xs i x cells more within is h e = e ∙ ap (λ l. l ++ f x) h ∙ flat_map_more f [] (take i xs) x ∙ ap (flat_map f) (sym (up_to_here xs i x within is))

-- ---- the whole

pub graph_is : (t : Typed) (files : List (List ℕ)) (p : Parts) → p ≡ made (global_variables t) t.functions
    → graph_of t files ≡ record { files = files; nodes = p.nodes; edges = p.edges; functions = functions_from 0 t.functions; declared = t.declared; inputs = t.inputs; scopes = p.scopes; globals = global_cells t }
unfolding graph_of
graph_is t files p e = λ i. record {
  files = files;
  nodes = (sym e i).nodes;
  edges = (sym e i).edges;
  functions = functions_from 0 t.functions;
  declared = t.declared;
  inputs = t.inputs;
  scopes = (sym e i).scopes;
  globals = global_cells t;
}

pub graph_stops : (t : Typed) (files : List (List ℕ)) (stop : Stop) → IsStop stop (made (global_variables t) t.functions) → IsTold stop (graph_of t files)
unfolding graph_of
graph_stops t files stops.TooManyEdges h = h
graph_stops t files stops.Memory h = tt

module _ (globals chain : List Variable) (fs : List TypedFunction) (p : Parts) (own : chain ≡ globals) (begun : p ≡ ends chain fs 0 0 0) where
  unit_is : after (in_order (bodies_from chain 0 fs)) p ≡ made globals fs
  unit_is = ap (after (in_order (bodies_from chain 0 fs))) begun ∙ whole_made chain fs ∙ ap (λ vs. made vs fs) own

  pub unit_made : (q : Parts) → q ≡ after (in_order (bodies_from chain 0 fs)) p → q ≡ made globals fs
  unit_made q e = e ∙ unit_is

  pub unit_stops : (stop : Stop) → IsStop stop (after (in_order (bodies_from chain 0 fs)) p) → IsStop stop (made globals fs)
  unit_stops stop h = subst (λ m. IsStop stop m) unit_is h

pub unit_over : (m q : Parts) → q ≡ m → 40000 < length q.edges → IsStop stops.TooManyEdges m
unit_over m q e h = subst (λ (p : Parts). 40000 < length p.edges) e h

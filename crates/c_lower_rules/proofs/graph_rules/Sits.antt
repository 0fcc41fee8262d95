-- Where what is made sits in a graph, and that it meets the graph's rules, piece by piece.
use Rattle.std.proofs.Common.{◌≡◌, ℕ, ◌+◌, List, [], ◌∷◌, ◌++◌, length, Some, refl, subst, arith, append_assoc, length-append}
use Rattle.std.specs.Prelude.{slice_get, IsTrue}
use Rattle.std.specs.List.{AllByRecursion}
use Rattle.cfa.specs.declared.parts.Edge.{Edge}
use Rattle.cfa.specs.declared.parts.GraphParts.{GraphParts}
use Rattle.cfa.specs.declared.parts.Node.{Node}
use Rattle.cfa.specs.declared.parts.Scope.{Scope}
use Rattle.cfa.specs.Graph.{EdgeFits, NodeFits, SeesFit, scope_fits}
use Rattle.c_lower_rules.specs.declared.graph_of.parts.Parts.{Parts}
use Rattle.c_lower_rules.specs.graph_of.Builder.{Builder, in_order}

-- ---- where things sit

-- from a place on a list goes on with another
abbrev pub Holds : {A : Type 0} → List A → ℕ → List A → Type 0
Holds xs n [] = Unit {0}
Holds xs n (y ∷ ys) = (slice_get xs n ≡ Some y) × Holds xs (n + 1) ys

module _ {A : Type 0} (all : List A) where
  holds_front : (n : ℕ) (xs ys : List A) → Holds all n (xs ++ ys) → Holds all n xs
  holds_front n [] ys h = tt
  holds_front n (x ∷ xs) ys h = (h.0, holds_front (n + 1) xs ys h.1)

  holds_back : (n : ℕ) (xs ys : List A) → Holds all n (xs ++ ys) → Holds all (n + length xs) ys
  holds_back n [] ys h = let e : n ≡ n + 0 = omega arith in subst (λ m. Holds all m ys) e h
  holds_back n (x ∷ xs) ys h =
      let e : n + 1 + length xs ≡ n + length (x ∷ xs) = omega arith in
      subst (λ m. Holds all m ys) e (holds_back (n + 1) xs ys h.1)

at_place : {A : Type 0} (front : List A) (x : A) (rest : List A) → slice_get (front ++ x ∷ rest) (length front) ≡ Some x
at_place [] x rest = refl
at_place (y ∷ front) x rest = at_place front x rest

-- a list holds itself
pub holds_itself : {A : Type 0} (front xs : List A) → Holds (front ++ xs) (length front) xs
holds_itself front [] = tt
holds_itself {A} front (x ∷ xs) =
    let whole : (front ++ x ∷ []) ++ xs ≡ front ++ x ∷ xs = append_assoc front (x ∷ []) xs in
    let long : length (front ++ x ∷ []) ≡ length front + 1 = length-append front (x ∷ []) in
    let rest : Holds (front ++ x ∷ xs) (length (front ++ x ∷ [])) xs = subst (λ zs. Holds zs (length (front ++ x ∷ [])) xs) whole (holds_itself (front ++ x ∷ []) xs) in
    (at_place front x xs, subst (λ n. Holds (front ++ x ∷ xs) n xs) long rest)

-- what is made sits in a graph at these numbers
pub record Sits (graph : GraphParts) (m : Parts) (n e k : ℕ) : Type 0 where
  pub nodes : Holds graph.nodes n m.nodes
  pub edges : Holds graph.edges e m.edges
  pub scopes : Holds graph.scopes k m.scopes

abbrev pub AllSit : GraphParts → List Builder → ℕ → ℕ → ℕ → Type 0
AllSit graph [] n e k = Unit {0}
AllSit graph (b ∷ bs) n e k = Sits graph (b n e k) n e k × AllSit graph bs (n + length (b n e k).nodes) (e + length (b n e k).edges) (k + length (b n e k).scopes)

pub sit_first : (graph : GraphParts) (b : Builder) (bs : List Builder) (n e k : ℕ) → Sits graph (in_order (b ∷ bs) n e k) n e k → Sits graph (b n e k) n e k
unfolding in_order
sit_first graph b bs n e k h = record { nodes = holds_front graph.nodes n (b n e k).nodes _ h.nodes; edges = holds_front graph.edges e (b n e k).edges _ h.edges; scopes = holds_front graph.scopes k (b n e k).scopes _ h.scopes }

pub sit_rest : (graph : GraphParts) (b : Builder) (bs : List Builder) (n e k : ℕ) → Sits graph (in_order (b ∷ bs) n e k) n e k
    → Sits graph (in_order bs (n + length (b n e k).nodes) (e + length (b n e k).edges) (k + length (b n e k).scopes)) (n + length (b n e k).nodes) (e + length (b n e k).edges) (k + length (b n e k).scopes)
unfolding in_order
sit_rest graph b bs n e k h = record { nodes = holds_back graph.nodes n (b n e k).nodes _ h.nodes; edges = holds_back graph.edges e (b n e k).edges _ h.edges; scopes = holds_back graph.scopes k (b n e k).scopes _ h.scopes }

pub all_sit : (graph : GraphParts) (bs : List Builder) (n e k : ℕ) → Sits graph (in_order bs n e k) n e k → AllSit graph bs n e k
all_sit graph [] n e k h = tt
all_sit graph (b ∷ bs) n e k h = (sit_first graph b bs n e k h, all_sit graph bs _ _ _ (sit_rest graph b bs n e k h))

-- ---- what meets the rules

pub record NodeMeets (graph : GraphParts) (n : Node) : Type 0 where
  pub fits : NodeFits graph n
  pub sees : SeesFit graph n.function n.scope

pub record ScopeMeets (graph : GraphParts) (s : Scope) : Type 0 where
  pub fits : IsTrue (scope_fits (length graph.globals) s)

-- edges that are numbered from a number on
abbrev pub EdgesMeet : GraphParts → ℕ → List Edge → Type 0
EdgesMeet graph e [] = Unit {0}
EdgesMeet graph e (x ∷ xs) = EdgeFits graph e x × EdgesMeet graph (e + 1) xs

pub record Meets (graph : GraphParts) (m : Parts) (e : ℕ) : Type 0 where
  pub nodes : AllByRecursion (NodeMeets graph) m.nodes
  pub edges : EdgesMeet graph e m.edges
  pub scopes : AllByRecursion (ScopeMeets graph) m.scopes

all_append : {A : Type 0} (P : A → Type 0) (xs ys : List A) → AllByRecursion P xs → AllByRecursion P ys → AllByRecursion P (xs ++ ys)
all_append P [] ys h k = k
all_append P (x ∷ xs) ys h k = (h.0, all_append P xs ys h.1 k)

edges_append : (graph : GraphParts) (e : ℕ) (xs ys : List Edge) → EdgesMeet graph e xs → EdgesMeet graph (e + length xs) ys → EdgesMeet graph e (xs ++ ys)
edges_append graph e [] ys h k = let same : e + 0 ≡ e = omega arith in subst (λ m. EdgesMeet graph m ys) same k
edges_append graph e (x ∷ xs) ys h k =
    let same : e + length (x ∷ xs) ≡ e + 1 + length xs = omega arith in
    (h.0, edges_append graph (e + 1) xs ys h.1 (subst (λ m. EdgesMeet graph m ys) same k))

abbrev pub AllMeet : GraphParts → List Builder → ℕ → ℕ → ℕ → Type 0
AllMeet graph [] n e k = Unit {0}
AllMeet graph (b ∷ bs) n e k = Meets graph (b n e k) e × AllMeet graph bs (n + length (b n e k).nodes) (e + length (b n e k).edges) (k + length (b n e k).scopes)

pub meet_nil : (graph : GraphParts) (n e k : ℕ) → Meets graph (in_order [] n e k) e
unfolding in_order
meet_nil graph n e k = record { nodes = tt; edges = tt; scopes = tt }

pub meet_cons : (graph : GraphParts) (b : Builder) (bs : List Builder) (n e k : ℕ) → Meets graph (b n e k) e
    → Meets graph (in_order bs (n + length (b n e k).nodes) (e + length (b n e k).edges) (k + length (b n e k).scopes)) (e + length (b n e k).edges)
    → Meets graph (in_order (b ∷ bs) n e k) e
unfolding in_order
meet_cons graph b bs n e k h r = record {
  nodes = all_append (NodeMeets graph) (b n e k).nodes _ h.nodes r.nodes;
  edges = edges_append graph e (b n e k).edges _ h.edges r.edges;
  scopes = all_append (ScopeMeets graph) (b n e k).scopes _ h.scopes r.scopes;
}

pub all_meet : (graph : GraphParts) (bs : List Builder) (n e k : ℕ) → AllMeet graph bs n e k → Meets graph (in_order bs n e k) e
all_meet graph [] n e k h = meet_nil graph n e k
all_meet graph (b ∷ bs) n e k h = meet_cons graph b bs n e k h.0 (all_meet graph bs _ _ _ h.1)

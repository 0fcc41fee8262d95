-- What is made one after another sits one behind another.
use Rattle.std.proofs.Common.{◌≡◌, ℕ, ◌+◌, List, [], ◌∷◌, ◌++◌, length, Some, refl, subst, arith, append_assoc, length-append}
use Rattle.std.specs.Prelude.{slice_get}
use Rattle.cfa.specs.declared.parts.GraphParts.{GraphParts}
use Rattle.c_lower_rules.specs.graph_of.Builder.{Builder, in_order}
use Rattle.tree_meaning_laws.specs.expression_laws.Sits.{Holds, Sits}

module _ {A : Type 0} (all : List A) where
  holds_front : (n : ℕ) (xs ys : List A) → Holds all n (xs ++ ys) → Holds all n xs
  holds_front n [] ys h = tt
  holds_front n (x ∷ xs) ys h = (h.0, holds_front (n + 1) xs ys h.1)

  holds_back : (n : ℕ) (xs ys : List A) → Holds all n (xs ++ ys) → Holds all (n + length xs) ys
  holds_back n [] ys h = let e : n ≡ n + 0 = omega arith in subst (λ m. Holds all m ys) e h
  holds_back n (x ∷ xs) ys h =
      let e : n + 1 + length xs ≡ n + length (x ∷ xs) = omega arith in
      subst (λ m. Holds all m ys) e (holds_back (n + 1) xs ys h.1)

at_place : {A : Type 0} (front : List A) (x : A) (rest : List A) → slice_get (front ++ x ∷ rest) (length front) ≡ Some x
at_place [] x rest = refl
at_place (y ∷ front) x rest = at_place front x rest

-- a list holds itself
pub holds_itself : {A : Type 0} (front xs : List A) → Holds (front ++ xs) (length front) xs
holds_itself front [] = tt
holds_itself {A} front (x ∷ xs) =
    let whole : (front ++ x ∷ []) ++ xs ≡ front ++ x ∷ xs = append_assoc front (x ∷ []) xs in
    let long : length (front ++ x ∷ []) ≡ length front + 1 = length-append front (x ∷ []) in
    let rest : Holds (front ++ x ∷ xs) (length (front ++ x ∷ [])) xs = subst (λ zs. Holds zs (length (front ++ x ∷ [])) xs) whole (holds_itself (front ++ x ∷ []) xs) in
    (at_place front x xs, subst (λ n. Holds (front ++ x ∷ xs) n xs) long rest)

-- several things, one behind another
abbrev pub AllSit : GraphParts → List Builder → ℕ → ℕ → ℕ → Type 0
AllSit graph [] n e k = Unit {0}
AllSit graph (b ∷ bs) n e k = Sits graph (b n e k) n e k × AllSit graph bs (n + length (b n e k).nodes) (e + length (b n e k).edges) (k + length (b n e k).scopes)

pub sit_first : (graph : GraphParts) (b : Builder) (bs : List Builder) (n e k : ℕ) → Sits graph (in_order (b ∷ bs) n e k) n e k → Sits graph (b n e k) n e k
unfolding in_order
sit_first graph b bs n e k h = record { nodes = holds_front graph.nodes n (b n e k).nodes _ h.nodes; edges = holds_front graph.edges e (b n e k).edges _ h.edges; scopes = holds_front graph.scopes k (b n e k).scopes _ h.scopes }

pub sit_rest : (graph : GraphParts) (b : Builder) (bs : List Builder) (n e k : ℕ) → Sits graph (in_order (b ∷ bs) n e k) n e k
    → Sits graph (in_order bs (n + length (b n e k).nodes) (e + length (b n e k).edges) (k + length (b n e k).scopes)) (n + length (b n e k).nodes) (e + length (b n e k).edges) (k + length (b n e k).scopes)
unfolding in_order
sit_rest graph b bs n e k h = record { nodes = holds_back graph.nodes n (b n e k).nodes _ h.nodes; edges = holds_back graph.edges e (b n e k).edges _ h.edges; scopes = holds_back graph.scopes k (b n e k).scopes _ h.scopes }

pub all_sit : (graph : GraphParts) (bs : List Builder) (n e k : ℕ) → Sits graph (in_order bs n e k) n e k → AllSit graph bs n e k
all_sit graph [] n e k h = tt
all_sit graph (b ∷ bs) n e k h = (sit_first graph b bs n e k h, all_sit graph bs _ _ _ (sit_rest graph b bs n e k h))

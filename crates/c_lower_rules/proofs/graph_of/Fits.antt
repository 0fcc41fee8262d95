-- What is made stands in an order, piece by piece.
use Rattle.std.proofs.Common.{◌≡◌, ℕ, suc, ◌+◌, ◌≤◌, List, [], ◌∷◌, ◌++◌, length, refl, sym, ap, subst, arith}
use Rattle.std.specs.List.{All, AllZip}
use Rattle.cfa.specs.declared.parts.Edge.{Edge}
use Rattle.cfa.specs.declared.parts.Node.{Node}
use Rattle.cfa.specs.declared.parts.Operation.{Operation}
use Rattle.cfa.specs.declared.parts.Operation.TheVariants.{Call}
use Rattle.cfa.specs.declared.parts.Scope.{Scope}
use Rattle.c_lower_rules.specs.cfa_order.Order.{Standing, ComesHome, IsInOrder, AreInOrder}
use Rattle.c_lower_rules.specs.declared.graph_of.parts.Parts.{Parts}
use Rattle.c_lower_rules.specs.graph_of.Builder.{Builder, in_order}

infixr 20 ◌&◌
-- a pair, so that a row of facts is one line
abbrev pub ◌&◌ : {A B : Type 0} → A → B → A × B
a & b = (a, b)

-- f gives these from n on
abbrev pub Agrees : (ℕ → Standing) → ℕ → List Standing → Type 0
Agrees f n [] = Unit {0}
Agrees f n (x ∷ xs) = (f n ≡ x) × Agrees f (n + 1) xs

pub agrees_front : (f : ℕ → Standing) (n : ℕ) (xs ys : List Standing) → Agrees f n (xs ++ ys) → Agrees f n xs
agrees_front f n [] ys h = tt
agrees_front f n (x ∷ xs) ys h = (h.0, agrees_front f (n + 1) xs ys h.1)

pub agrees_back : (f : ℕ → Standing) (n : ℕ) (xs ys : List Standing) → Agrees f n (xs ++ ys) → Agrees f (n + length xs) ys
agrees_back f n [] ys h = let e : n ≡ n + 0 = omega arith in subst (λ m. Agrees f m ys) e h
agrees_back f n (x ∷ xs) ys h =
    let e : n + 1 + length xs ≡ n + length (x ∷ xs) = omega arith in
    subst (λ m. Agrees f m ys) e (agrees_back f (n + 1) xs ys h.1)

-- a node has a loop for each level of its depth, and none of their heads is above it
pub record NodeStands (n : Node) (s : Standing) : Type 0 where
  pub deep : n.depth ≡ length s.loops
  pub heads : All (λ h. h ≤ s.rank) s.loops

zip_append : (xs us : List Node) (ys vs : List Standing) → AllZip NodeStands xs ys → AllZip NodeStands us vs → AllZip NodeStands (xs ++ us) (ys ++ vs)
zip_append [] us [] vs h k = k
zip_append [] us (y ∷ ys) vs h k = absurd h
zip_append (x ∷ xs) us [] vs h k = absurd h
zip_append (x ∷ xs) us (y ∷ ys) vs h k = (h.0, zip_append xs us ys vs h.1 k)

zip_length : (xs : List Node) (ys : List Standing) → AllZip NodeStands xs ys → length xs ≡ length ys
zip_length [] [] h = refl
zip_length [] (y ∷ ys) h = absurd h
zip_length (x ∷ xs) [] h = absurd h
zip_length (x ∷ xs) (y ∷ ys) h = ap suc (zip_length xs ys h.1)

-- more edges behind those that are in order
home_more : (at : ℕ → Standing) (source : ℕ) (rest more : List Edge) → ComesHome at source rest → ComesHome at source (rest ++ more)
home_more at source [] more h = absurd h
home_more at source (next ∷ rest) more h = h

order_more : (at : ℕ → Standing) (e : Edge) (rest more : List Edge) (op : Operation) → IsInOrder at e rest op → IsInOrder at e (rest ++ more) op
order_more at e rest more (Call callee words arrays) h = (h.0, home_more at e.source rest more h.1)
order_more at e rest more _ h = h

order_append : (at : ℕ → Standing) (xs ys : List Edge) → AreInOrder at xs → AreInOrder at ys → AreInOrder at (xs ++ ys)
order_append at [] ys h k = k
order_append at (x ∷ xs) ys h k = (order_more at x xs ys x.operation h.0, order_append at xs ys h.1 k)

-- These parts, whose nodes have the numbers from n on and these standings, are in order wherever what is given holds.
pub record Fits (m : Parts) (n : ℕ) (ss : List Standing) (Given : (ℕ → Standing) → Type 0) : Type 0 where
  pub nodes : AllZip NodeStands m.nodes ss
  pub edges : (at : ℕ → Standing) → Agrees at n ss → Given at → AreInOrder at m.edges

pub fits_given : {m : Parts} {n : ℕ} {ss : List Standing} {G : (ℕ → Standing) → Type 0} (H : (ℕ → Standing) → Type 0) → Fits m n ss G → ((at : ℕ → Standing) → Agrees at n ss → H at → G at) → Fits m n ss H
fits_given H f g = record { nodes = f.nodes; edges = λ at a h. f.edges at a (g at a h) }

pub fits_node : {x : Node} {s : Standing} {n : ℕ} → NodeStands x s → Fits (record { nodes = x ∷ []; edges = []; scopes = [] }) n (s ∷ []) (λ at. Unit {0})
fits_node h = record { nodes = (h, tt); edges = λ at a g. tt }

pub fits_edge : {x : Edge} {n : ℕ} → Fits (record { nodes = []; edges = x ∷ []; scopes = [] }) n [] (λ at. IsInOrder at x [] x.operation)
fits_edge = record { nodes = tt; edges = λ at a g. (g, tt) }

pub fits_scope : {x : Scope} {n : ℕ} → Fits (record { nodes = []; edges = []; scopes = x ∷ [] }) n [] (λ at. Unit {0})
fits_scope = record { nodes = tt; edges = λ at a g. tt }

pub fits_nil : (n e k : ℕ) → Fits (in_order [] n e k) n [] (λ at. Unit {0})
unfolding in_order
fits_nil n e k = record { nodes = tt; edges = λ at a g. tt }

pub fits_cons : (b : Builder) (bs : List Builder) (n e k : ℕ) {ss ts : List Standing} {G H : (ℕ → Standing) → Type 0}
    → Fits (b n e k) n ss G
    → Fits (in_order bs (n + length (b n e k).nodes) (e + length (b n e k).edges) (k + length (b n e k).scopes)) (n + length (b n e k).nodes) ts H
    → Fits (in_order (b ∷ bs) n e k) n (ss ++ ts) (λ at. G at × H at)
unfolding in_order
fits_cons b bs n e k {ss = ss} {ts = ts} f g =
    let long : length ss ≡ length (b n e k).nodes = sym (zip_length (b n e k).nodes ss f.nodes) in
    record {
      nodes = zip_append (b n e k).nodes _ ss ts f.nodes g.nodes;
      edges = λ at a h. order_append at (b n e k).edges _
          (f.edges at (agrees_front at n ss ts a) h.0)
          (g.edges at (subst (λ k. Agrees at (n + k) ts) long (agrees_back at n ss ts a)) h.1);
    }

-- what is made behind these parts
pub fits_after : {m : Parts} {n : ℕ} {ss : List Standing} {G : (ℕ → Standing) → Type 0} → Fits m n ss G → (at : ℕ → Standing) (ts : List Standing) → Agrees at n (ss ++ ts) → Agrees at (n + length m.nodes) ts
fits_after {m = m} {n = n} {ss = ss} f at ts ag =
    let long : length ss ≡ length m.nodes = sym (zip_length m.nodes ss f.nodes) in
    subst (λ k. Agrees at (n + k) ts) long (agrees_back at n ss ts ag)

-- A flow and what goes on with it, as one addition to the parts after another.
use Rattle.std.proofs.Common.{◌≡◌, ℕ, ◌+◌, List, [], ◌∷◌, length, refl, sym, ◌∙◌, length-append}
use Rattle.c_lower_rules.specs.declared.graph_of.parts.Parts.{Parts}
use Rattle.c_lower_rules.specs.graph_of.Builder.{Builder, Flow, in_order, after, made_by, give, ◌then◌, ending}
use Rattle.c_lower_rules.proofs.graph_of.After.{after_at, after_in_order, then_made}
use Rattle.c_lower.specs.Flows.{end_of, gives_of}

module _ {A : Type 0} (v : A) (a : ℕ) (m : Parts) where
  pub give_made : after (made_by (give v) a) m ≡ m
  give_made = after_at (made_by (give v) a) m [] refl

  pub give_end : end_of (give v) a m ≡ a
  unfolding end_of
  give_end = refl

  pub give_gives : gives_of (give v) a m ≡ v
  unfolding gives_of
  give_gives = refl

pub after_cons : (b : Builder) (bs : List Builder) (m : Parts) → after (in_order (b ∷ bs)) m ≡ after (in_order bs) (after b m)
after_cons b bs m = after_in_order (b ∷ bs) m ∙ sym (after_in_order bs (after b m))

nodes_of : (b : Builder) (m : Parts) → length m.nodes + length (b (length m.nodes) (length m.edges) (length m.scopes)).nodes ≡ length (after b m).nodes
unfolding after
nodes_of b m = sym (length-append m.nodes _)

edges_of : (b : Builder) (m : Parts) → length m.edges + length (b (length m.nodes) (length m.edges) (length m.scopes)).edges ≡ length (after b m).edges
unfolding after
edges_of b m = sym (length-append m.edges _)

scopes_of : (b : Builder) (m : Parts) → length m.scopes + length (b (length m.nodes) (length m.edges) (length m.scopes)).scopes ≡ length (after b m).scopes
unfolding after
scopes_of b m = sym (length-append m.scopes _)

module _ {A B : Type 0} (x : Flow A) (f : A → Flow B) (a : ℕ) (m : Parts) where
  pub made_then : after (made_by (x then f) a) m ≡ after (made_by (f (gives_of x a m)) (end_of x a m)) (after (made_by x a) m)
  unfolding gives_of end_of
  made_then = then_made x f a m

  pub end_then : end_of (x then f) a m ≡ end_of (f (gives_of x a m)) (end_of x a m) (after (made_by x a) m)
  unfolding gives_of end_of
  end_then = let d = x a (length m.nodes) (length m.edges) (length m.scopes) in
      λ i. (f d.gives d.end (nodes_of (made_by x a) m i) (edges_of (made_by x a) m i) (scopes_of (made_by x a) m i)).end

  pub gives_then : gives_of (x then f) a m ≡ gives_of (f (gives_of x a m)) (end_of x a m) (after (made_by x a) m)
  unfolding gives_of end_of
  gives_then = let d = x a (length m.nodes) (length m.edges) (length m.scopes) in
      λ i. (f d.gives d.end (nodes_of (made_by x a) m i) (edges_of (made_by x a) m i) (scopes_of (made_by x a) m i)).gives

-- a flow that goes on with what it makes of what is known
module _ {A B : Type 0} (x : Flow A) (g : A → B) (a : ℕ) (m : Parts) where
  pub made_gives : after (made_by (x then λ v. give (g v)) a) m ≡ after (made_by x a) m
  made_gives = made_then x (λ v. give (g v)) a m ∙ give_made (g (gives_of x a m)) (end_of x a m) _

  pub end_gives : end_of (x then λ v. give (g v)) a m ≡ end_of x a m
  end_gives = end_then x (λ v. give (g v)) a m ∙ give_end (g (gives_of x a m)) (end_of x a m) _

  pub gives_gives : gives_of (x then λ v. give (g v)) a m ≡ g (gives_of x a m)
  gives_gives = gives_then x (λ v. give (g v)) a m ∙ give_gives (g (gives_of x a m)) (end_of x a m) _

pub made_ending : {A : Type 0} (x : Flow A) (f : A → ℕ → Builder) (a : ℕ) (m : Parts) → after (ending x f a) m ≡ after (f (gives_of x a m) (end_of x a m)) (after (made_by x a) m)
unfolding gives_of end_of
made_ending x f a m = let d = x a (length m.nodes) (length m.edges) (length m.scopes) in after_at (ending x f a) m (made_by x a ∷ f d.gives d.end ∷ []) refl

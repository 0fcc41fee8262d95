-- Lists of nodes, edges and scopes that are made one after another.
use Rattle.std.specs.Prelude.{ℕ, ◌+◌, List, [], ◌∷◌, ◌++◌, length}
use Rattle.cfa.specs.declared.parts.Edge.{Edge}
use Rattle.cfa.specs.declared.parts.Node.{Node}
use Rattle.cfa.specs.declared.parts.Scope.{Scope}
use Rattle.c_lower_rules.specs.declared.graph_of.parts.Parts.{Parts}

infixr 20 ◌then◌
-- what is made, by the numbers of the next node, the next edge and the next scope
abbrev pub Builder : Type 0
Builder = ℕ → ℕ → ℕ → Parts

abbrev pub node : Node → Builder
node x n e k = record { nodes = x ∷ []; edges = []; scopes = [] }

abbrev pub edge : Edge → Builder
edge x n e k = record { nodes = []; edges = x ∷ []; scopes = [] }

abbrev pub scope : Scope → Builder
scope x n e k = record { nodes = []; edges = []; scopes = x ∷ [] }

-- one after another
unfoldable pub in_order : List Builder → Builder
in_order [] n e k = record { nodes = []; edges = []; scopes = [] }
in_order (b ∷ bs) n e k =
    let first = b n e k in
    let rest = in_order bs (n + length first.nodes) (e + length first.edges) (k + length first.scopes) in
    record { nodes = first.nodes ++ rest.nodes; edges = first.edges ++ rest.edges; scopes = first.scopes ++ rest.scopes }

-- one after another, where the numbers of the first node, edge and scope are used
abbrev pub numbered : (ℕ → ℕ → ℕ → List Builder) → Builder
numbered parts n e k = in_order (parts n e k) n e k

-- the parts that are there, and then what is made
unfoldable pub after : Builder → Parts → Parts
after b m =
    let more = b (length m.nodes) (length m.edges) (length m.scopes) in
    record { nodes = m.nodes ++ more.nodes; edges = m.edges ++ more.edges; scopes = m.scopes ++ more.scopes }

-- ---- what is computed on the way

-- what is made from a node on, the node where control is then, and what is known there
pub record Flowed (A : Type 0) : Type 0 where
  pub made : Parts
  pub end : ℕ
  pub gives : A

-- from a node, by the numbers of the next node, edge and scope
abbrev pub Flow : Type 0 → Type 0
Flow A = ℕ → ℕ → ℕ → ℕ → Flowed A

abbrev pub made_by : {A : Type 0} → Flow A → ℕ → Builder
made_by x a n e k = (x a n e k).made

-- nothing is made
abbrev pub give : {A : Type 0} → A → Flow A
give v a n e k = record { made = in_order [] n e k; end = a; gives = v }

-- one, and then another where it ends
abbrev pub ◌then◌ : {A B : Type 0} → Flow A → (A → Flow B) → Flow B
(x then f) a n e k =
    let v = x a n e k in
    let w = f v.gives v.end (n + length v.made.nodes) (e + length v.made.edges) (k + length v.made.scopes) in
    record { made = in_order (made_by x a ∷ made_by (f v.gives) v.end ∷ []) n e k; end = w.end; gives = w.gives }

-- a flow, and then what is made of what it gives from where it ends
abbrev pub ending : {A : Type 0} → Flow A → (A → ℕ → Builder) → ℕ → Builder
ending x f a n e k = let v = x a n e k in in_order (made_by x a ∷ f v.gives v.end ∷ []) n e k

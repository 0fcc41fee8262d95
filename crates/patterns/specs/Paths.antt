-- A recorded path, and what is known of each letter at its places.
use Rattle.std.specs.Prelude.{◌≡◌, ℕ, ◌+◌, ◌-◌, ◌==◌, Bool, false, not, length, slice_index}
use Rattle.std.specs.List.{list_any}
use Rattle.std.specs.Int.{bit_at}
use Rattle.patterns.specs.Match.{Step}
use Rattle.patterns.specs.declared.letter.Letter.{Letter}
use Rattle.patterns.specs.declared.letter.Letter.TheVariants.{Nodes, Edges, Predicate, Absent}
use Rattle.patterns.specs.declared.path_view.PathView.{PathView}

-- an edge letter has the edges of its list
abbrev pub edge_in : ℕ → Letter → Bool
edge_in e (Nodes nodes) = false
edge_in e (Edges edges) = list_any (λ member. member == e) edges
edge_in e (Predicate number) = false
edge_in e (Absent number) = false

-- a node letter has the nodes of its list, a predicate the states whose mask has its bit, and an absent one all others
abbrev pub state_in : ℕ → ℕ → Letter → Bool
state_in n mask (Nodes nodes) = list_any (λ member. member == n) nodes
state_in n mask (Edges edges) = false
state_in n mask (Predicate number) = bit_at mask number == 1
state_in n mask (Absent number) = not (bit_at mask number == 1)

-- there is one more node and mask than there are edges
pub record IsPath (path : PathView) : Type 0 where
  pub nodes_fit : length path.nodes ≡ length path.edges + 1
  pub masks_fit : length path.masks ≡ length path.edges + 1

-- what is known at state k: its node, its mask, and the edge into it, which is edge k - 1
abbrev pub step_of : PathView → ℕ → Step Letter
step_of path k = record {
  edge = λ l. edge_in (slice_index path.edges (k - 1)) l;
  state = λ l. state_in (slice_index path.nodes k) (slice_index path.masks k) l;
}

-- A recorded path beside the sets of edges that gaps go over.
use Rattle.std.specs.Prelude.{ℕ, List}
use Rattle.patterns.specs.declared.path_view.PathView.{PathView}

pub record Placed : Type 0 where
  pub nodes : List ℕ
  pub edges : List ℕ
  pub masks : List ℕ
  pub sets : List (List ℕ)

abbrev pub path_of : Placed → PathView
path_of path = record { nodes = path.nodes; edges = path.edges; masks = path.masks }

abbrev pub with_sets : List (List ℕ) → PathView → Placed
with_sets sets path = record { nodes = path.nodes; edges = path.edges; masks = path.masks; sets = sets }

-- The path from one of its states on.
use Rattle.std.specs.Prelude.{ℕ, drop}
use Rattle.patterns.specs.declared.path_view.PathView.{PathView}

abbrev pub path_from : ℕ → PathView → PathView
path_from start path = record { nodes = drop start path.nodes; edges = drop start path.edges; masks = drop start path.masks }

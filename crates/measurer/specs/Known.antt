-- Paths whose hits are known.
use Rattle.std.specs.Prelude.{◌≡◌, ℕ, List, IsTrue, All}
use Rattle.c_meaning.specs.declared.ends.Ends.{Ends}
use Rattle.path_runner.specs.Counted.{counts_end}
use Rattle.path_runner.specs.declared.path.PathRecord.{PathRecord}
use Rattle.patterns.specs.declared.path_view.PathView.{PathView}
use Rattle.goals.specs.declared.plan.Plan.{Plan}
use Rattle.measurer_hits.specs.hits.Hits.{AreHits, path_in}
use Rattle.measurer.specs.declared.known.KnownPath.{KnownPath}

abbrev pub view_of : KnownPath → PathView
view_of known = record { nodes = known.nodes.items; edges = known.edges.items; masks = known.masks.items }

-- each run along the path hits these goals, if its end is counted
abbrev pub HasHits : Plan → PathView → List ℕ → Type 0
HasHits plan path hits = (ends : Ends) (run : PathRecord) → path_in run ≡ path → IsTrue (counts_end ends run.end) → AreHits plan ends run hits

abbrev pub AreKnown : Plan → List KnownPath → Type 0
AreKnown plan paths = All (λ known. HasHits plan (view_of known) known.hits.items) paths

-- How often edges may still be taken.
use Rattle.std.specs.Prelude.{◌≡◌, ℕ, ◌+◌, ◌<◌, Bool, true, ◌&&◌, List, Some, length, slice_get, slice_index, if◌then◌else◌}
use Rattle.cfa.specs.declared.parts.Edge.{Edge}
use Rattle.cfa.specs.declared.parts.GraphParts.{GraphParts}
use Rattle.filters.specs.Parts.{Part, is_marked}
use Rattle.filters_paths.specs.Paths.{occurrences}

-- Each end is marked, and each node from which an edge of the part leads to a node that is marked. So a way to an end has
-- marked nodes alone.
pub record AreLiving (parts : GraphParts) (a : Part) (ends living : List Bool) : Type 0 where
  pub at_end : (n : ℕ) → is_marked ends n ≡ true → is_marked living n ≡ true
  pub back : (k : ℕ) (e : Edge) → slice_get parts.edges k ≡ Some e → a.edge k ≡ true → is_marked living e.target ≡ true → is_marked living e.source ≡ true

-- how often each edge may be taken in all: so many times where it is an edge of the part that leads to a marked node
pub record AreUses (parts : GraphParts) (a : Part) (living : List Bool) (most : ℕ) (uses : List ℕ) : Type 0 where
  pub size : length uses ≡ length parts.edges
  pub each : (k : ℕ) (e : Edge) → slice_get parts.edges k ≡ Some e → slice_index uses k ≡ (if a.edge k && is_marked living e.target then most else 0)

-- how often each may still be taken after a prefix
pub record AreLeft (parts : GraphParts) (uses left p : List ℕ) : Type 0 where
  pub size : length left ≡ length parts.edges
  pub each : (k : ℕ) → k < length parts.edges → slice_index left k + occurrences k p ≡ slice_index uses k

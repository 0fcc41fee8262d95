-- A list of paths that grows.
use Rattle.std.specs.Prelude.{◌≡◌, ℕ, ◌+◌, ◌-◌, ◌<◌, nat_le, List, [], ◌∷◌, ◌++◌, Option, None, Some, Result, Ok, Err, length, if◌then◌else◌}
use Rattle.filters_paths.specs.declared.fault.PathFault.{PathFault}
use Rattle.filters_paths.specs.declared.fault.PathFault.TheVariants.{TooManyEdges}
use Rattle.filters_paths.specs.declared.ground.Ground.{Ground}
use Rattle.filters_paths.specs.declared.listing.Listing.{Listing}
use Rattle.filters_paths.specs.declared.walk.Walk.{Walk}
use Rattle.filters_paths.specs.Outcome.{edge_count}
use Rattle.filters_paths.specs.Walking.{IsWalk, ahead}

-- what is listed, and how many edges more there may be, after one more path
abbrev pub paths_with : Option ℕ → List (List ℕ) → List ℕ → List (List ℕ)
paths_with None paths path = paths
paths_with (Some room) paths path = if nat_le (length path) room then paths ++ path ∷ [] else paths

abbrev pub room_with : Option ℕ → List ℕ → Option ℕ
room_with None path = None
room_with (Some room) path = if nat_le (length path) room then Some (room - length path) else None

-- these paths are listed, or have more edges than the limit
abbrev pub AreListed : ℕ → List (List ℕ) → Option ℕ → List (List ℕ) → Type 0
AreListed edge_limit done (Some room) paths = (paths ≡ done) × (edge_count done + room ≡ edge_limit)
AreListed edge_limit done None paths = edge_limit < edge_count done

-- what a listing makes of them
abbrev pub listed : Option ℕ → List (List ℕ) → Result (List (List ℕ)) PathFault
listed (Some room) paths = Ok paths
listed None paths = Err TooManyEdges

-- so many paths are done, and the walk has the others ahead
pub record IsUnderWay (g : Ground) (all : List (List ℕ)) (edge_limit count : ℕ) (w : Walk) (l : Listing) : Type 0 where
  pub walk : IsWalk g w
  pub done : List (List ℕ)
  pub whole : done ++ ahead g w ≡ all
  pub size : length done ≡ count
  pub kept : AreListed edge_limit done l.room l.paths

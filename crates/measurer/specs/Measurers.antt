-- What contracts see of a measurer.
use Rattle.std.specs.Prelude.{ℕ, List}
use Rattle.goals.specs.declared.plan.Plan.{Plan}
use Rattle.measurer.specs.Known.{AreKnown}
use Rattle.measurer.specs.Measured.{IsFor}
use Rattle.measurer.specs.declared.measurer.Measurer.{Measurer}

-- it was made for this plan, and the paths that it keeps have the hits that it keeps with them
pub record IsMadeFor (plan : Plan) (measurer : Measurer) : Type 0 where
  pub tables : IsFor plan measurer.tables
  pub known : AreKnown plan measurer.known.paths.items

-- the hits of each run that was added, in order
abbrev pub hits_of : Measurer → List (List ℕ)
hits_of measurer = measurer.hits

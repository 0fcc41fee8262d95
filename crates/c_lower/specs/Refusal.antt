-- Why a unit has no automaton.
use Rattle.std.specs.Prelude.{◌≡◌, ◌<◌, length}
use Rattle.fq_core.specs.declared.refusal.Fault.{Fault}
use Rattle.fq_core.specs.declared.refusal.Fault.TheVariants.{Refused, Memory}
use Rattle.fq_core.specs.declared.refusal.Place.TheVariants as place
use Rattle.cfa.specs.declared.parts.GraphParts.{GraphParts}

-- what an automaton is refused for: it has more than 40,000 edges
abbrev pub IsRefusalOf : GraphParts → Fault → Type 0
IsRefusalOf parts (Refused r) = (r ≡ record { code = 41; place = place.Limit 40000 }) × (40000 < length parts.edges)
IsRefusalOf parts Memory = Unit {0}

use Rattle.filters_paths.specs.Listing.{IsUnderWay}
use Rattle.filters_paths.specs.Paths.{paths_of}
use Rattle.filters_paths.proofs.listing.paths.Given as goal

abbrev pub invariant-loop : goal.invariant-loop
invariant-loop l = IsUnderWay l.ground (paths_of l.graph l.target l.k) l.edge_limit l.counter l.walk l.listing

use Rattle.std.proofs.Common.{◌≡◌}
use Rattle.filters_paths.specs.Walking.{IsWalk, ahead}
use Rattle.filters_paths.proofs.walk.Walk.advance.Given as goal

abbrev pub invariant-loop : goal.invariant-loop
invariant-loop l = record { walk : IsWalk l.ground l.self; next : ahead l.ground l.initial.self ≡ ahead l.ground l.self }

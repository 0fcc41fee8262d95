use Rattle.std.proofs.Common.{◌≡◌, take}
use Rattle.patterns.specs.Places.{union}
use Rattle.patterns.proofs.places.either_places.Given as goal

abbrev pub invariant-loop-i : goal.invariant-loop-i
invariant-loop-i l = l.places.items ≡ union (take l.i l.a) (take l.i l.b)

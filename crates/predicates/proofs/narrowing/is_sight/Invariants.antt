use Rattle.std.proofs.Common.{◌≡◌, take}
use Rattle.predicates.specs.Narrowing.{sight}
use Rattle.predicates.proofs.narrowing.is_sight.Given as goal

abbrev pub invariant-loop-k : goal.invariant-loop-k
invariant-loop-k l = sight (take l.k l.names) l.scope ≡ take l.k l.row

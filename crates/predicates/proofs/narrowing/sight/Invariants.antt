use Rattle.std.proofs.Common.{◌≡◌, take}
use Rattle.predicates.specs.Narrowing.{sight}
use Rattle.predicates.proofs.narrowing.sight.Given as goal

abbrev pub invariant-loop-name : goal.invariant-loop-name
invariant-loop-name l = l.row ≡ sight (take l.name-index l.names) l.scope

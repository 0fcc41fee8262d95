use Rattle.std.proofs.Common.{◌≡◌, length, map, take}
use Rattle.goals.specs.Counts.{greatest}
use Rattle.goals.proofs.counts.longest_path.Given as goal

abbrev pub invariant-loop-path : goal.invariant-loop-path
invariant-loop-path l = l.most ≡ greatest (map length (take l.path-index l.paths))

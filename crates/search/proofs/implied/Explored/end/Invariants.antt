use Rattle.std.proofs.Common.{length}
use Rattle.search.proofs.implied.Explored.end.Given as goal

abbrev pub decreases-loop-visited : goal.decreases-loop-visited
decreases-loop-visited l = length l.self.path.items

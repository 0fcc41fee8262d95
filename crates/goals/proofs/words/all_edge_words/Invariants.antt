use Rattle.std.proofs.Common.{◌≡◌, take}
use Rattle.std.specs.List.{flat_map}
use Rattle.goals.specs.Words.{edge_words}
use Rattle.goals.proofs.words.all_edge_words.Given as goal

abbrev pub invariant-loop-edge : goal.invariant-loop-edge
invariant-loop-edge l = l.words ≡ flat_map (edge_words l.truths) (take l.edge-index l.edges)

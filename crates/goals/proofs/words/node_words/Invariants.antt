use Rattle.std.proofs.Common.{◌≡◌, ◌∷◌, map, take}
use Rattle.std.specs.List.{flat_map}
use Rattle.goals.specs.declared.goal_letter.GoalLetter.TheVariants.{Node}
use Rattle.goals.proofs.words.node_words.Given as goal

abbrev pub invariant-loop-node : goal.invariant-loop-node
invariant-loop-node l = l.words ≡ flat_map (λ n. map (λ t. Node n ∷ t) l.truths) (take l.node-index l.nodes)

use Rattle.std.proofs.Common.{◌≡◌, map, take}
use Rattle.goals.specs.declared.goal_letter.GoalLetter.TheVariants.{Edge}
use Rattle.goals.proofs.words.path_word.Given as goal

abbrev pub invariant-loop-edge : goal.invariant-loop-edge
invariant-loop-edge l = l.word ≡ map Edge (take l.edge-index l.path)

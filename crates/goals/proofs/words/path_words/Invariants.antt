use Rattle.std.proofs.Common.{◌≡◌, map, take}
use Rattle.goals.specs.declared.goal_letter.GoalLetter.TheVariants.{Edge}
use Rattle.goals.proofs.words.path_words.Given as goal

abbrev pub invariant-loop-path : goal.invariant-loop-path
invariant-loop-path l = l.words ≡ map (λ path. map Edge path) (take l.path-index l.paths)

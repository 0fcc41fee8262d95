use Rattle.std.proofs.Common.{◌≡◌, fold, map, take}
use Rattle.patterns.specs.declared.pattern.Pattern.TheVariants.{Either}
use Rattle.goals.specs.Forms.{path_pattern}
use Rattle.goals.proofs.forms.paths_pattern.Given as goal

abbrev pub invariant-loop-path : goal.invariant-loop-path
invariant-loop-path l = l.pattern ≡ fold Either l.initial.pattern (map path_pattern (take l.path-index l.others))

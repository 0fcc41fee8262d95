use Rattle.std.proofs.Common.{◌≡◌, fold, map, take}
use Rattle.patterns.specs.declared.pattern.Pattern.TheVariants.{Dot}
use Rattle.goals.specs.Forms.{edge_pattern}
use Rattle.goals.proofs.forms.path_pattern.Given as goal

abbrev pub invariant-loop-edge : goal.invariant-loop-edge
invariant-loop-edge l = l.pattern ≡ fold Dot l.initial.pattern (map edge_pattern (take l.edge-index l.others))

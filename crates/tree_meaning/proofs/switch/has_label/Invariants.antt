use Rattle.std.proofs.Common.{◌≡◌, drop}
use Rattle.tree_meaning.specs.Switch.{has_label}
use Rattle.tree_meaning.proofs.switch.has_label.Given as goal

abbrev pub invariant-loop-own : goal.invariant-loop-own
invariant-loop-own l = has_label l.label l.labels ≡ has_label l.label (drop l.own-index l.labels)

use Rattle.std.proofs.Common.{◌≡◌, drop}
use Rattle.c_lower_rules.specs.graph_of.Switch.{has_default}
use Rattle.c_lower.proofs.labels.has_default.Given as goal

abbrev pub invariant-loop-label : goal.invariant-loop-label
invariant-loop-label l = has_default l.labels ≡ has_default (drop l.label-index l.labels)

use Rattle.std.proofs.Common.{◌≡◌, ◌++◌, map, drop}
use Rattle.c_lower_rules.specs.graph_of.Switch.{cases_in}
use Rattle.c_lower.specs.Cases.{case_of}
use Rattle.c_lower.proofs.labels.cases_in.Given as goal

abbrev pub invariant-loop-label : goal.invariant-loop-label
invariant-loop-label l = map case_of l.initial.cases ++ cases_in l.g l.labels ≡ map case_of l.cases ++ cases_in l.g (drop l.label-index l.labels)

use Rattle.std.proofs.Common.{◌≡◌, map, drop}
use Rattle.c_lower_rules.specs.graph_of.Builder.{after}
use Rattle.c_lower_rules.specs.graph_of.Switch.{cases_row}
use Rattle.c_lower.specs.Cases.{case_of}
use Rattle.c_lower.proofs.LabelLaws.{labels_left}
use Rattle.c_lower.proofs.labels.cases_row.Given as goal

abbrev pub invariant-loop-i : goal.invariant-loop-i
invariant-loop-i l = after (cases_row l.around l.cell l.kind (map case_of l.cases) l.other l.initial.here) l.initial.parts ≡ labels_left l.around l.cell l.kind (map case_of (drop l.i l.cases)) l.other l.here l.parts

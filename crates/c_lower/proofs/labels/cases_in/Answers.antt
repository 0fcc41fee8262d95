use Rattle.std.proofs.Common.{◌++◌, map}
use Rattle.c_lower_rules.specs.graph_of.Switch.{cases_in}
use Rattle.c_lower.specs.Cases.{case_of}
use Rattle.c_lower.proofs.LabelLaws.{cases_end}
use Rattle.c_lower.proofs.labels.cases_in.Goals as goal

pub returns : goal.returns
returns c = cases_end (map case_of c.args.cases.now ++ cases_in c.args.g c.args.labels.now) c.args.labels.now c.loop-label.label-index c.args.g c.loop-label.cases c.loop-label-test.false c.loop-label.invariant

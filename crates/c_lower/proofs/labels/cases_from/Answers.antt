use Rattle.std.proofs.Common.{◌+◌, ◌++◌, ◌∙◌, ap, map}
use Rattle.c_lower_rules.specs.graph_of.Switch.{cases_in, cases_from}
use Rattle.c_lower_rules.specs.graph_of.Table.{group_of}
use Rattle.c_lower.specs.Cases.{case_of}
use Rattle.c_lower.proofs.LabelLaws.{group_cases_turn, group_cases_end}
use Rattle.c_lower.proofs.labels.cases_from.Goals as goal

pub loop-i-preserved : goal.loop-i-preserved
loop-i-preserved c =
    group_cases_turn (cases_from c.args.g (map group_of c.args.groups.now)) c.args.groups.now c.loop-i.i c.index-groups-i.result c.args.g c.loop-i.cases c.cases_in.new.cases c.loop-i-test.true c.index-groups-i.is (c.in_ok-cases_in.ensures ∙ ap (λ ls. map case_of c.loop-i.cases ++ cases_in (c.args.g + c.loop-i.i) ls) c.deref.ensures) c.loop-i.invariant

pub returns : goal.returns
returns c = group_cases_end (cases_from c.args.g (map group_of c.args.groups.now)) c.args.groups.now c.loop-i.i c.args.g c.loop-i.cases c.loop-i-test.false c.loop-i.invariant

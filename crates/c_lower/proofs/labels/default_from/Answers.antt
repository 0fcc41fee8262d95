use Rattle.std.proofs.Common.{◌∙◌, ap}
use Rattle.c_lower_rules.specs.graph_of.Switch.{has_default}
use Rattle.c_lower.proofs.LabelLaws.{group_default, other_group}
use Rattle.c_lower.proofs.labels.default_from.Goals as goal

pub returns-then-has_default : goal.returns-then-has_default
returns-then-has_default c =
    group_default c.args.groups.now c.loop-i.i c.index-groups-i.result c.args.g c.args.z _ c.loop-i-test.true c.index-groups-i.is c.loop-i.invariant (c.if-has_default.ensures ∙ ap has_default c.deref.ensures)

pub loop-i-preserved : goal.loop-i-preserved
loop-i-preserved c =
    other_group c.args.groups.now c.loop-i.i c.index-groups-i.result c.args.g c.args.z _ c.loop-i-test.true c.index-groups-i.is c.loop-i.invariant (c.if-has_default.ensures ∙ ap has_default c.deref.ensures)

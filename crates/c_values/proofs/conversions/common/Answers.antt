use Rattle.std.proofs.Common.{◌∙◌, true, false}
use Rattle.c_values.proofs.Ranks.{common-left, common-right, common-from, alike, unlike_true, unlike_false}
use Rattle.c_values.proofs.conversions.common.Goals as goal

pub returns-then-b-a-clause-value : goal.returns-then-b-a-clause-value
returns-then-b-a-clause-value c =
    common-left c.args.a c.args.b c.promoted-a.result c.promoted-b.result c.promoted-a.ensures.value c.promoted-b.ensures.value
    (alike c.promoted-a.result.signed c.promoted-b.result.signed c.if-a-b.true) c.if-b-a.true

pub returns-else-b-a-clause-value : goal.returns-else-b-a-clause-value
returns-else-b-a-clause-value c =
    common-right c.args.a c.args.b c.promoted-a.result c.promoted-b.result c.promoted-a.ensures.value c.promoted-b.ensures.value
    (alike c.promoted-a.result.signed c.promoted-b.result.signed c.if-a-b.true) c.if-b-a.false

pub returns-then-a-clause-value : goal.returns-then-a-clause-value
returns-then-a-clause-value c =
    c.mixed.ensures ∙ common-from c.args.a c.args.b c.promoted-a.result c.promoted-b.result true false
    c.promoted-a.ensures.value c.promoted-b.ensures.value c.if-a.true
    (unlike_true c.promoted-a.result.signed c.promoted-b.result.signed c.if-a-b.false c.if-a.true)

pub returns-else-a-clause-value : goal.returns-else-a-clause-value
returns-else-a-clause-value c =
    c.mixed-else-a.ensures ∙ common-from c.args.a c.args.b c.promoted-a.result c.promoted-b.result false true
    c.promoted-a.ensures.value c.promoted-b.ensures.value c.if-a.false
    (unlike_false c.promoted-a.result.signed c.promoted-b.result.signed c.if-a-b.false c.if-a.false)

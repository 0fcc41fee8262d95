use Rattle.c_values.proofs.Ranks.{promoted-narrow, promoted-wide}
use Rattle.c_values.proofs.conversions.promoted.Goals as goal

pub returns-then-kind-lt32-clause-value : goal.returns-then-kind-lt32-clause-value
returns-then-kind-lt32-clause-value c = promoted-narrow c.args.kind c.requires c.if-kind-lt32.true

pub returns-else-kind-lt32-clause-value : goal.returns-else-kind-lt32-clause-value
returns-else-kind-lt32-clause-value c = promoted-wide c.args.kind c.requires c.if-kind-lt32.false

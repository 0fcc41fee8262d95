use Rattle.std.proofs.Common.{◌∙◌, ap, sym}
use Rattle.std.specs.Prelude.{◌==◌}
use Rattle.c_values.proofs.Sums.{is_value-machine, not_value}
use Rattle.c_values.proofs.conversions.is_value.Goals as goal

pub returns-then-is_kind : goal.returns-then-is_kind
returns-then-is_kind c =
    ap (λ x. x == c.args.value) c.fit.ensures
    ∙ is_value-machine c.args.kind c.args.value (sym c.if-is_kind.ensures) c.ranges.value.fits

pub returns-else-is_kind : goal.returns-else-is_kind
returns-else-is_kind c = c.if-is_kind.false ∙ not_value c.args.kind c.args.value (sym c.if-is_kind.ensures)

use Rattle.std.proofs.Common.{None, sym, append-nil, arith}
use Rattle.std.specs.Prelude.{Some}
use Rattle.least_input.proofs.Rows.{row_step}
use Rattle.least_input.proofs.order.add_row.Goals as goal

pub loop-place-preserved-in-Continue-1 : goal.loop-place-preserved-in-Continue-1
loop-place-preserved-in-Continue-1 c =
    row_step c.args.variables.now.items c.loop-place.variables.items c.push.new.self.items c.args.row.now c.loop-place.place _ (Some c.in-Some.number)
    (omega (arith, c.loop-place-test.true)) (omega (arith, c.loop-place.auto.place)) c.in-Some.is c.loop-place.invariant c.in_ok-push.ensures.items

pub loop-place-preserved : goal.loop-place-preserved
loop-place-preserved c =
    row_step c.args.variables.now.items c.loop-place.variables.items c.loop-place.variables.items c.args.row.now c.loop-place.place _ None
    (omega (arith, c.loop-place-test.true)) (omega (arith, c.loop-place.auto.place)) c.in_default.is c.loop-place.invariant (sym (append-nil c.loop-place.variables.items))

use Rattle.std.proofs.Common.{arith}
use Rattle.goal_formula.specs.Bits.{assignment}
use Rattle.goal_formula.proofs.Models.{number_below}
use Rattle.goal_formula.proofs.model.number_of.Goals as goal

pub overflow_mul-number : goal.overflow_mul-number
overflow_mul-number c =
    let small = number_below (assignment c.args.model.now) c.args.row.now c.loop-place.place c.requires (omega (arith, c.loop-place-test.true)) in
    omega (arith, small, c.loop-place.invariant)

pub overflow_add-number : goal.overflow_add-number
overflow_add-number c =
    let small = number_below (assignment c.args.model.now) c.args.row.now c.loop-place.place c.requires (omega (arith, c.loop-place-test.true)) in
    omega (arith, small, c.loop-place.invariant)

use Rattle.std.proofs.Common.{◌+◌, arith}
use Rattle.step_automata.proofs.patterns_of.any.Goals as goal

pub new-requires : goal.new-requires
new-requires c = λ k lt.
    let a = c.loop-number.invariant.each k (omega (arith, c.loop-number.invariant.count)) in
    let b = c.loop-number.invariant.each (k + 1) (omega (arith, c.loop-number.invariant.count)) in omega arith

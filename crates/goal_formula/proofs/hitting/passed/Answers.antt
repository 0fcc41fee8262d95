use Rattle.std.proofs.Common.{sym, subst}
use Rattle.circuit.specs.Sharing.{yes_lit}
use Rattle.goal_formula.specs.Parts.{IsPassingBit}
use Rattle.goal_formula.proofs.HitBits.{always_met}
use Rattle.goal_formula.proofs.hitting.passed.Goals as goal

pub returns-in-None-clause-bit : goal.returns-in-None-clause-bit
returns-in-None-clause-bit c = subst (λ p. IsPassingBit c.args.circuit.now c.args.circuit.now c.args.entries.now p yes_lit) (sym c.in-None.is) (always_met c.args.circuit.now c.args.entries.now)

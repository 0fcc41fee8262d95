use Rattle.std.proofs.Common.{◌≡◌, None, subst}
use Rattle.circuit.specs.declared.lit.Lit.{Lit}
use Rattle.circuit.specs.Sharing.{inverse, known_and}
use Rattle.circuit.proofs.Conjunctions.{on_err}
use Rattle.circuit.proofs.and_inverter.CircuitTruth.or.Goals as goal

pub returns-in_err-neither-clause-refused : goal.returns-in_err-neither-clause-refused
returns-in_err-neither-clause-refused c =
    let at = λ (a : Lit) (b : Lit). known_and c.args.self.now a b ≡ None in
    on_err c.from_residual.result (subst (λ a. at a (inverse c.args.b)) c.inverse.ensures (subst (at c.inverse.result) c.inverse-2.ensures c.in_err-neither.ensures.refused))

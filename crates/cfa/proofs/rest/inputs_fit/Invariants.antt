use Rattle.std.specs.Prelude.{IsTrue}
use Rattle.c_values.specs.Kind.{is_kind}
use Rattle.cfa.specs.declared.parts.InputFunction.{InputFunction}
use Rattle.cfa.proofs.Eaches.{EachBelow}
use Rattle.cfa.proofs.rest.inputs_fit.Given as goal

abbrev pub invariant-loop-input : goal.invariant-loop-input
invariant-loop-input l = EachBelow l.parts.inputs l.input-index (λ i (input : InputFunction). IsTrue (is_kind input.result))

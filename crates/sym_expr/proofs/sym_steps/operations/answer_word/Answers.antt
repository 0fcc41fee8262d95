use Rattle.std.proofs.Common.{subst, sym, List, [], arith}
use Rattle.std.specs.Prelude.{All}
use Rattle.circuit.specs.Wires.{IsWire}
use Rattle.circuit.specs.declared.lit.Lit.{Lit}
use Rattle.sym_expr.proofs.sym_steps.operations.answer_word.Goals as goal
use Rattle.sym_expr.proofs.sym_steps.operations.answer_word.Goals.{in-Ok+then-number-answers, in-Ok+else-number-answers, in_default}

pub returns-clause-wires : goal.returns-clause-wires
returns-clause-wires c = λ gates h.
    let P : List Lit → Type 0 = All (IsWire gates) in
    let word : P c.match-try_from.word = elim c.match-try_from.branch [
      | in-Ok+then-number-answers v ↦ subst P (sym v.word-is) (h _ [] (omega arith))
      | in-Ok+else-number-answers v ↦ subst P (sym v.word-is) (c.constant-word.ensures.wires gates)
      | in_default v ↦ subst P (sym v.word-is) (c.constant-word.ensures.wires gates)
    ] in
    (c.extended.ensures.word gates word).wires

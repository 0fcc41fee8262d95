use Rattle.std.proofs.Common.{◌+◌, ◌++◌, ap, ◌∙◌, sym, refl}
use Rattle.clause_form.specs.Encoding.{wire_clauses}
use Rattle.clause_form.proofs.NumberLaws.{flat_map_more}
use Rattle.clause_form.proofs.clauses.clauses_of_gates.Goals as goal

pub loop-place-preserved : goal.loop-place-preserved
loop-place-preserved c =
    c.in_ok-push_wire.ensures
    ∙ ap (λ xs. xs ++ wire_clauses c.args.circuit.now c.args.variable.now (c.loop-place.place + 1)) c.loop-place.invariant
    ∙ sym (flat_map_more (wire_clauses c.args.circuit.now c.args.variable.now) c.loop-place.place (c.loop-place.place + 1) refl)

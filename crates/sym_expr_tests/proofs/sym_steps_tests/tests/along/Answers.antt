use Rattle.std.proofs.Common.{◌≡◌, Some, sym, ap, subst, refl, ◌∙◌}
use Rattle.std.specs.Prelude.{slice_get}
use Rattle.std.specs.Option.{option_copied}
use Rattle.std.proofs.lemmas.Option.{get_or_from_slice_get}
use Rattle.circuit.specs.Truth.{World}
use Rattle.cfa.proofs.Exits.{taken}
use Rattle.cfa.specs.declared.parts.Edge.{Edge}
use Rattle.cfa.specs.States.{IsState}
use Rattle.sym_expr.specs.sym_steps.Steps.{state_after}
use Rattle.sym_expr_tests.proofs.sym_steps_tests.tests.along.Goals as goal

pub returns : goal.returns
returns c =
    let parts = c.args.graph.now in
    let way = c.in_ok-way.way.now in
    let edge = c.in_ok-edge.edge.now in
    let Kept = λ (e : Edge). (w : World) → IsState parts (state_after c.args.circuit.now c.args.step e.target w) in
    let there : slice_get c.args.step.ways c.args.at ≡ Some way = sym c.get.ensures ∙ ap option_copied c.in_ok-way.was in
    let kept = taken Kept (slice_get parts.edges way.edge) (c.requires.keeps c.args.at way there) in
    let found = rw c.edges.ensures at c.in_ok-edge.ensures.lookup in
    let same : kept.0 ≡ edge = sym (get_or_from_slice_get parts.edges way.edge kept.0 edge kept.1) ∙ sym found.1 in
    (subst Kept same kept.2, refl)

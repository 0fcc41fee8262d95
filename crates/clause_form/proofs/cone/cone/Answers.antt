use Rattle.std.proofs.Common.{◌≡◌, ◌+◌, ◌-◌, ◌<◌, suc, length, sym, ◌∙◌, subst, arith}
use Rattle.std.proofs.Math.Seq.{take-append_seam}
use Rattle.clause_form.specs.Parts.{IsMarkedFrom}
use Rattle.clause_form.proofs.ConeLaws.{first_marked, visit_more}
use Rattle.clause_form.proofs.cone.cone.Goals as goal

pub loop-place-init : goal.loop-place-init
loop-place-init c =
    first_marked c.args.circuit.now c.args.root c.in_ok-marks.marks.items _ c.wire.result c.wire-place.result (c.in_ok-marks.ensures.items_if_clones_equal (λ y same. same))
    (omega (arith, c.wires.ensures)) c.wire.ensures c.wire-place.ensures c.requires

pub loop-place-preserved : goal.loop-place-preserved
loop-place-preserved c =
    let above = c.loop-place-test.true in
    let within : c.loop-place.place - 1 < length c.args.circuit.now = omega (arith, c.loop-place.auto.place, c.wire-place.ensures, c.requires) in
    let next : c.loop-place.place ≡ suc (c.loop-place.place - 1) = omega arith in
    let long : c.loop-place.marks.len ≡ length c.visit.new.marks = sym c.deref_mut.ensures.len ∙ sym c.visit.auto.marks in
    let before : IsMarkedFrom c.args.circuit.now c.args.root (suc (c.loop-place.place - 1)) c.deref_mut.result.now =
    subst (λ p. IsMarkedFrom c.args.circuit.now c.args.root p c.deref_mut.result.now) next
    (subst (IsMarkedFrom c.args.circuit.now c.args.root c.loop-place.place) (sym c.deref_mut.ensures.value) c.loop-place.invariant) in
    rw (long, take-append_seam)
    (visit_more c.args.circuit.now c.args.root (c.loop-place.place - 1) (c.loop-place.place - 1 + 1) (c.loop-place.place - 1 + 1 - 1) c.deref_mut.result.now c.visit.new.marks (omega arith) (omega arith) within before c.visit.auto.marks
    c.visit.ensures.marks c.visit.ensures.gate)

pub returns : goal.returns
returns c =
    let end : c.loop-place.place ≡ 0 = omega (arith, c.loop-place-test.false) in
    subst (λ p. IsMarkedFrom c.args.circuit.now c.args.root p c.loop-place.marks.items) end c.loop-place.invariant

use Rattle.std.proofs.Common.{◌≡◌, ◌+◌, ◌-◌, ℕ, List, take, sym, ap, subst, ◌∙◌, refl, arith}
use Rattle.std.specs.Prelude.{slice_get}
use Rattle.circuit.specs.Wires.{HasNumber, IsReduced, PartsUpTo, input_count}
use Rattle.circuit.specs.declared.lit.Gate.{Gate}
use Rattle.circuit.specs.declared.lit.Gate.TheVariants.{Input, And}
use Rattle.clause_form.specs.Parts.{IsGateAt}
use Rattle.goal_formula.specs.Parts.{AreInputVariables}
use Rattle.goal_formula.proofs.InputBits.{inputs_more, inputs_other}
use Rattle.goal_formula.proofs.encoding.input_variables.Goals as goal
use Rattle.goal_formula.proofs.encoding.input_variables.Goals.{in-Input+in_ok-push, in_default}

before : (place : ℕ) → place + 1 - 1 ≡ place
before place = omega arith

gate_there : (gates : List Gate) (place read : ℕ) (g : Gate) → read ≡ place → PartsUpTo read g → HasNumber (input_count (take read gates)) g → IsReduced g → IsGateAt gates place g
gate_there gates place read g e parts number reduced = record {
  parts = subst (λ n. PartsUpTo n g) e parts;
  number = subst (λ n. HasNumber (input_count (take n gates)) g) e number;
  reduced = reduced;
}

pub loop-place-preserved : goal.loop-place-preserved
loop-place-preserved c =
    let gates = c.args.circuit.now in
    let variable = c.args.variable.now in
    let at : c.loop-place.place + 1 - 1 ≡ c.loop-place.place = before c.loop-place.place in
    elim c.match-gate.branch [
      | in-Input+in_ok-push w ↦
          (let there = ap (slice_get gates) (sym at) ∙ w.in-Input.ensures.value in
          let own = gate_there gates c.loop-place.place (c.loop-place.place + 1 - 1) (Input w.in-Input.number) at w.in-Input.ensures.parts w.in-Input.ensures.number w.in-Input.ensures.reduced in
          subst (λ items. AreInputVariables gates variable (c.loop-place.place + 1) items) (sym (ap (λ v. v.items) w.bits-is ∙ w.in_ok-push.ensures.items))
          (inputs_more gates variable c.loop-place.place c.loop-place.bits.items c.requires c.loop-place.invariant w.in-Input.number _ there own refl))
      | in_default w ↦
          (let there = ap (slice_get gates) (sym at) ∙ w.in_default.ensures.value in
          let own = gate_there gates c.loop-place.place (c.loop-place.place + 1 - 1) (And w.in_default.field-0 w.in_default.field-1) at w.in_default.ensures.parts w.in_default.ensures.number w.in_default.ensures.reduced in
          subst (λ items. AreInputVariables gates variable (c.loop-place.place + 1) items) (sym (ap (λ v. v.items) w.bits-is))
          (inputs_other gates variable c.loop-place.place c.loop-place.bits.items c.requires c.loop-place.invariant w.in_default.field-0 w.in_default.field-1 there own))
    ]

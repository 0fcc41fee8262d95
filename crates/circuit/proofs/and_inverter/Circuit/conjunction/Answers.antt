use Rattle.std.proofs.Common.{◌≡◌, ◌+◌, ◌<◌, ◌^◌, List, None, false, length, sym, subst, ap, ◌∙◌}
use Rattle.std.specs.List.{list_any, position_or_len}
use Rattle.indexmap.specs.IndexSet.{insert_key}
use Rattle.circuit.specs.declared.lit.Gate.{Gate}
use Rattle.circuit.specs.Wires.{IsWire}
use Rattle.circuit.specs.Sharing.{known_and, lit_of}
use Rattle.circuit.proofs.GateEquality.{gate_eq}
use Rattle.circuit.proofs.Conjunctions.{IsConjunction, IsInserted, on_err, folded_is, inserted, refused}
use Rattle.circuit.proofs.and_inverter.Circuit.conjunction.Goals as goal

known : (c : goal.In-Some) → IsConjunction c.args.self.now c.args.a c.args.b c.args.self.now c.in-Some.known
known c = folded_is c.args.self.now c.args.a c.args.b c.in-Some.known (sym c.folded.ensures ∙ c.in-Some.is) c.requires.left c.requires.right

pub returns-in-Some : goal.returns-in-Some
returns-in-Some c =
    let h = known c in
    record { literal = h.literal; gates = h.gates; grown = h.grown; older = h.older; used = h.used; bit = h.bit; value = h.value; inputs = h.inputs; kept = tt; refused = tt }

after : (c : goal.After-positive) → IsInserted c.self.inside.gates.keys c.args.a c.args.b c.insert_full.new.self.keys c.in_ok-place.place
after c =
    let old : List Gate = c.self.inside.gates.keys in
    let now : c.args.self.now ≡ old = sym c.self.view_is in
    let room : length old < 2 ^ 30 = subst (λ gates. length gates < 2 ^ 30) now c.requires.room in
    let gate = c.and_gate.ensures in
    inserted old c.args.a c.args.b c.self.invariant.1 room
    (subst (λ gates. IsWire gates c.args.a) now c.requires.left) (subst (λ gates. IsWire gates c.args.b) now c.requires.right) (sym c.in_default.ensures)
    c.insert_full.new.self.keys c.in_ok-place.place
    (c.in_ok-place.ensures.keys ∙ ap (insert_key gate_eq old) gate) (c.in_ok-place.ensures.index ∙ ap (λ g. position_or_len (gate_eq g) old) gate)

there : (c : goal.After-positive) → IsConjunction c.args.self.now c.args.a c.args.b c.insert_full.new.self.keys c.positive.result
there c =
    subst (IsConjunction c.args.self.now c.args.a c.args.b c.insert_full.new.self.keys) (sym c.positive.ensures)
    (subst (λ gates. IsConjunction gates c.args.a c.args.b c.insert_full.new.self.keys (lit_of (c.in_ok-place.place + 1))) c.self.view_is (after c).conjunction)

pub returns : goal.returns
returns c =
    let h = there c in
    record { literal = h.literal; gates = h.gates; grown = h.grown; older = h.older; used = h.used; bit = h.bit; value = h.value; inputs = h.inputs; kept = tt; refused = tt }

pub invariant_of-self-2 : goal.invariant_of-self-2
invariant_of-self-2 c = (c.self.invariant.0 ∙ sym (after c).conjunction.inputs, (after c).circuit)

pub returns-in_err-place-clause-refused : goal.returns-in_err-place-clause-refused
returns-in_err-place-clause-refused c =
    let old : List Gate = c.self.inside.gates.keys in
    let now : c.args.self.now ≡ old = sym c.self.view_is in
    let room : length old < 2 ^ 30 = subst (λ gates. length gates < 2 ^ 30) now c.requires.room in
    let none = subst (λ g. list_any (gate_eq g) old ≡ false) c.and_gate.ensures c.in_err-place.ensures.absent in
    let lacking = refused old c.args.a c.args.b c.self.invariant.1 room
    (subst (λ gates. IsWire gates c.args.a) now c.requires.left) (subst (λ gates. IsWire gates c.args.b) now c.requires.right) (sym c.in_default.ensures) none in
    on_err c.from_residual.result (subst (λ gates. known_and gates c.args.a c.args.b ≡ None) c.self.view_is lacking)

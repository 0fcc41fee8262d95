use Rattle.std.proofs.Common.{◌≡◌, ◌<◌, ◌^◌, List, length, sym, subst, ap, ◌∙◌, arith}
use Rattle.circuit.specs.declared.lit.Gate.{Gate}
use Rattle.circuit.specs.Wires.{lit_holds}
use Rattle.circuit.specs.Sharing.{lit_of}
use Rattle.circuit.proofs.Gates.{input_count_within}
use Rattle.circuit.proofs.Conjunctions.{IsWithInput, with_input}
use Rattle.circuit.proofs.and_inverter.Circuit.input.Goals as goal

after : (c : goal.After-positive) → IsWithInput c.self.inside.gates.keys c.insert.new.self.keys
after c =
    let old : List Gate = c.self.inside.gates.keys in
    let room : length old < 2 ^ 30 = subst (λ gates. length gates < 2 ^ 30) (sym c.self.view_is) c.requires.room in
    with_input old c.insert.new.self.keys c.self.inside.inputs c.self.invariant.1 room c.self.invariant.0 c.in_ok-insert.ensures.keys

pub returns : goal.returns
returns c =
    let h = subst (λ gates. IsWithInput gates c.insert.new.self.keys) c.self.view_is (after c) in
    let last : c.positive.result ≡ lit_of (length c.insert.new.self.keys) = c.positive.ensures ∙ ap lit_of c.len.ensures.len in
    record {
      literal = last;
      gates = h.gates;
      older = h.older;
      used = omega (arith, h.used);
      bit = omega (arith, ap (λ l. l.wire) last);
      value = λ w. ap (λ l. lit_holds c.insert.new.self.keys l w) last ∙ h.value w;
      count = h.count;
      count_kept = tt;
    }

pub invariant_of-self-2 : goal.invariant_of-self-2
invariant_of-self-2 c = let h = after c in (omega (arith, h.count, c.self.invariant.0), h.circuit)

pub overflow_add-self : goal.overflow_add-self
overflow_add-self c = omega (arith, c.self.invariant.0, input_count_within c.self.inside.gates.keys, c.self.invariant.1.few)

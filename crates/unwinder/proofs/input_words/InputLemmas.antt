-- Words of inputs as the circuit grows.
use Rattle.std.proofs.Common.{ℕ, ◌+◌, ◌-◌, ◌<◌, List, length, sym, ap, ◌∙◌}
use Rattle.std.specs.Prelude.{slice_get}
use Rattle.std.proofs.lemmas.Option.{slice_get_within}
use Rattle.c_meaning.proofs.Slices.{slice_get_kept}
use Rattle.circuit.specs.Growth.{GrowsTo}
use Rattle.circuit.specs.declared.lit.Gate.{Gate}
use Rattle.circuit.specs.declared.lit.Gate.TheVariants.{Input}
use Rattle.circuit.specs.declared.lit.Lit.{Lit}
use Rattle.unwinder.specs.input_words.Inputs.{IsInput}
use Rattle.unwinder.specs.input_words.Laws.{InputsStay}

input_stays : (old new : List Gate) (number : ℕ) (l : Lit) → GrowsTo old new → IsInput old number l → IsInput new number l
input_stays old new number l grown h =
    let at = l.wire - 1 in
    let within : at < length old = slice_get_within old at (Input number) h.gate in
    record {
      positive = h.positive;
      gate = sym (slice_get_kept (length old) new at within) ∙ ap (λ gates. slice_get gates at) grown.front ∙ h.gate;
      above = h.above;
    }

pub still_inputs : InputsStay
still_inputs old new first width word grown h = record {
  bits = λ i l here. input_stays old new (first + i) l grown (h.bits i l here);
  enough = h.enough;
}

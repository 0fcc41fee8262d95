-- The cone of influence of a literal of a circuit.
use Rattle.std.specs.Prelude.{◌≡◌, ℕ, zero, suc, List, slice_get, Option, None, Some}
use Rattle.circuit.specs.declared.lit.Lit.{Lit}
use Rattle.circuit.specs.declared.lit.Gate.{Gate}
use Rattle.circuit.specs.declared.lit.Gate.TheVariants.{And}

-- what makes a wire; nothing makes the constant
abbrev pub gate_on : List Gate → ℕ → Option Gate
gate_on gates zero = None
gate_on gates (suc place) = slice_get gates place

-- the wires that a literal reaches through gates: its own, and those of both parts of each gate on one of them
pub data IsInCone (gates : List Gate) (root : Lit) : ℕ → Type 0 where
  own : IsInCone gates root root.wire
  left : (wire : ℕ) (a b : Lit) → IsInCone gates root wire → gate_on gates wire ≡ Some (And a b) → IsInCone gates root a.wire
  right : (wire : ℕ) (a b : Lit) → IsInCone gates root wire → gate_on gates wire ≡ Some (And a b) → IsInCone gates root b.wire

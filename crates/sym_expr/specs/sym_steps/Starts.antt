-- Where runs may begin.
use Rattle.std.specs.Prelude.{◌≡◌, List, [], length}
use Rattle.circuit.specs.declared.lit.Lit.{Lit}
use Rattle.cfa.specs.declared.parts.Function.{Function}

-- runs can start at a function that has no array parameters, with one word for each parameter
abbrev pub CanStartWith : Function → List (List Lit) → Type 0
CanStartWith f words = (length words ≡ length f.parameters) × (f.arrays ≡ [])

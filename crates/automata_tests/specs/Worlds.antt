-- The inputs of a run are wires.
use Rattle.std.specs.Prelude.{List}
use Rattle.circuit.specs.Wires.{IsWire}
use Rattle.circuit.specs.declared.lit.Gate.{Gate}
use Rattle.circuit.specs.declared.lit.Lit.{Lit}

pub record AreWires (gates : List Gate) (predicates : Lit × Lit × Lit) (guards : Lit × Lit) : Type 0 where
  pub here : IsWire gates predicates.0
  pub middle : IsWire gates predicates.1
  pub end : IsWire gates predicates.2
  pub first : IsWire gates guards.0
  pub second : IsWire gates guards.1

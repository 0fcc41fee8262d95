-- Guards of the two ways of a test.
use Rattle.std.specs.Prelude.{◌≡◌, ◌⊎◌, ◌&&◌, List}
use Rattle.circuit.specs.Truth.{World}
use Rattle.circuit.specs.Wires.{IsWire, lit_holds}
use Rattle.circuit.specs.Sharing.{inverse}
use Rattle.circuit.specs.declared.lit.Lit.{Lit}
use Rattle.circuit.specs.declared.lit.Gate.{Gate}

-- a literal holds where both of two do
pub record IsConjunction (gates : List Gate) (l a b : Lit) : Type 0 where
  pub left : IsWire gates a
  pub right : IsWire gates b
  pub holds : (w : World) → lit_holds gates l w ≡ (lit_holds gates a w && lit_holds gates b w)

-- two literals are a guard and the opposite of a test, in either order
abbrev pub IsOtherWay : Lit → Lit → Lit × Lit → Type 0
IsOtherWay guard test parts = ((parts.0 ≡ guard) × (parts.1 ≡ inverse test)) ⊎ ((parts.1 ≡ guard) × (parts.0 ≡ inverse test))

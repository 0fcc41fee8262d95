-- What the literals of a circuit hold in a world.
use Rattle.std.specs.Prelude.{ℕ, suc, ◌≡◌, ◌+◌, ◌≤◌, ◌<◌, ◌^◌, Bool, true, false, not, ◌&&◌, if◌then◌else◌, List, [], ◌∷◌, ◌++◌, length, slice_index_or, All}
use Rattle.circuit.specs.Truth.{World}
use Rattle.circuit.specs.declared.lit.Lit.{Lit}
use Rattle.circuit.specs.declared.lit.Gate.{Gate}
use Rattle.circuit.specs.declared.lit.Gate.TheVariants.{Input, And}

-- a literal, from what the wires hold
abbrev pub lit_value : List Bool → Lit → Bool
lit_value held l = if l.negated then not (slice_index_or held l.wire false) else slice_index_or held l.wire false

-- a gate, from what the wires below hold. An input past the end of the world is no
abbrev pub gate_value : List Bool → World → Gate → Bool
gate_value held w (Input number) = slice_index_or w number false
gate_value held w (And left right) = lit_value held left && lit_value held right

-- what the wires hold, from those below and the gates above them
abbrev pub held_from : List Bool → List Gate → World → List Bool
held_from held [] w = held
held_from held (g ∷ gates) w = held_from (held ++ gate_value held w g ∷ []) gates w

-- what the wires hold: wire 0 is yes, and gate k makes wire k + 1
abbrev pub held : List Gate → World → List Bool
held gates w = held_from (true ∷ []) gates w

-- what a literal of a circuit of these gates holds in a world
abbrev pub lit_holds : List Gate → Lit → World → Bool
lit_holds gates l w = lit_value (held gates w) l

-- a literal on one of the wires
abbrev pub IsWire : List Gate → Lit → Type 0
IsWire gates l = l.wire ≤ length gates

-- how many of the gates are inputs
abbrev pub input_count : List Gate → ℕ
input_count [] = 0
input_count (Input number ∷ gates) = 1 + input_count gates
input_count (And left right ∷ gates) = input_count gates

-- the parts of a gate are on wires up to this one
abbrev pub PartsUpTo : ℕ → Gate → Type 0
PartsUpTo wire (Input number) = Unit {0}
PartsUpTo wire (And left right) = (left.wire ≤ wire) × (right.wire ≤ wire)

-- the parts of each gate are on lower wires, where so many wires are below the first
abbrev pub PartsLieBelow : ℕ → List Gate → Type 0
PartsLieBelow below [] = Unit {0}
PartsLieBelow below (g ∷ gates) = PartsUpTo below g × PartsLieBelow (suc below) gates

-- an input has this number
abbrev pub HasNumber : ℕ → Gate → Type 0
HasNumber n (Input number) = number ≡ n
HasNumber n (And left right) = Unit {0}

-- the number of each input is how many inputs are below, where so many are below the first gate
abbrev pub InputsAreNumbered : ℕ → List Gate → Type 0
InputsAreNumbered below [] = Unit {0}
InputsAreNumbered below (g ∷ gates) = HasNumber below g × InputsAreNumbered (input_count (g ∷ []) + below) gates

-- a conjunction is one of two wires that aren't the constant, the lower one first
abbrev pub IsReduced : Gate → Type 0
IsReduced (Input number) = Unit {0}
IsReduced (And left right) = (0 < left.wire) × (left.wire < right.wire)

-- at most 2^30 gates, each of lower wires, with the inputs numbered in their order and the conjunctions reduced
pub record IsCircuit (gates : List Gate) : Type 0 where
  pub few : length gates ≤ 2 ^ 30
  pub below : PartsLieBelow 0 gates
  pub numbered : InputsAreNumbered 0 gates
  pub reduced : All IsReduced gates

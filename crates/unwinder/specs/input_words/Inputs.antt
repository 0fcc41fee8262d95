-- The literals of inputs, and the words that are made of them.
use Rattle.std.specs.Prelude.{◌≡◌, ℕ, ◌+◌, ◌-◌, ◌≤◌, false, List, length, take, Some, slice_get}
use Rattle.circuit.specs.declared.lit.Gate.{Gate}
use Rattle.circuit.specs.declared.lit.Gate.TheVariants.{Input}
use Rattle.circuit.specs.declared.lit.Lit.{Lit}
use Rattle.c_values.specs.declared.kinds.Kind.{Kind}
use Rattle.cfa.specs.Each.{Each}
use Rattle.unwinder.specs.input_words.Worlds.{total_width}

-- the positive literal of the input of a number
pub record IsInput (gates : List Gate) (number : ℕ) (l : Lit) : Type 0 where
  pub positive : l.negated ≡ false
  pub gate : slice_get gates (l.wire - 1) ≡ Some (Input number)
  pub above : 1 ≤ l.wire

-- a word whose bits within a width are the inputs from a number on, in their order
pub record AreInputs (gates : List Gate) (first width : ℕ) (word : List Lit) : Type 0 where
  pub bits : Each (take width word) (λ i l. IsInput gates (first + i) l)
  pub enough : width ≤ length word

-- the number of the first input of the parameter of a number
abbrev pub first_input : List Kind → ℕ → ℕ
first_input parameters at = total_width (take at parameters)

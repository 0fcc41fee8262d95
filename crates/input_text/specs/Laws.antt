-- What follows from the definition of the inputs of a text.
use Rattle.std.specs.Prelude.{◌≡◌, ℕ, ◌≤◌, List, Ok, All, length}
use Rattle.c_meaning.specs.declared.input.Input.{Input}
use Rattle.input_text.specs.Inputs.{inputs_of}
use Rattle.input_text.specs.Outcome.{most_inputs}

-- the input has so many words
abbrev pub HasWords : ℕ → Input → Type 0
HasWords parameters input = length input.words ≡ parameters

-- a text that isn't refused has at most 10,000 inputs, each with so many words
abbrev pub AcceptedTextsFit : Type 0
AcceptedTextsFit =
    (parameters : ℕ) (bytes : List ℕ) (inputs : List Input) → inputs_of parameters bytes ≡ Ok inputs →
    (length inputs ≤ most_inputs) × All (HasWords parameters) inputs

-- What follows from the definitions, for those who rest on them.
use Rattle.std.specs.Prelude.{◌≡◌, ℕ, ◌<◌, ◌^◌, All, List, length, slice_index}
use Rattle.circuit.specs.Growth.{GrowsTo}
use Rattle.circuit.specs.Truth.{World}
use Rattle.circuit.specs.declared.lit.Gate.{Gate}
use Rattle.circuit.specs.declared.lit.Lit.{Lit}
use Rattle.c_values.specs.declared.kinds.Kind.{Kind}
use Rattle.c_values.specs.Kind.{IsKind}
use Rattle.c_meaning.specs.declared.input.Input.{Input}
use Rattle.unwinder.specs.input_words.Inputs.{AreInputs}
use Rattle.unwinder.specs.input_words.Worlds.{world_length, world_of}

-- words of inputs are such words in each circuit that the circuit grew to
abbrev pub InputsStay : Type 0
InputsStay =
    (old new : List Gate) (first width : ℕ) (word : List Lit) → GrowsTo old new → AreInputs old first width word → AreInputs new first width word

-- each input's world has a value for each input of the circuit
abbrev pub WorldLength : Type 0
WorldLength = (parameters : List Kind) (answers : ℕ) (input : Input) → length (world_of parameters answers input) ≡ world_length parameters answers

-- of the answers the first ones alone make the world
abbrev pub TruncatedAnswers : Type 0
TruncatedAnswers =
    (parameters : List Kind) (answers : ℕ) (input other : Input) → input.words ≡ other.words → ((number : ℕ) → number < answers → slice_index input.answers number ≡ slice_index other.answers number) → world_of parameters answers input ≡ world_of parameters answers other

-- an input with a word for each parameter and so many answers, each of 64 bits, whose world this is
pub record IsInputOf (parameters : List Kind) (answers : ℕ) (w : World) (input : Input) : Type 0 where
  pub word_count : length input.words ≡ length parameters
  pub small_words : All (λ word. word < 2 ^ 64) input.words
  pub answer_count : length input.answers ≡ answers
  pub small_answers : All (λ answer. answer < 2 ^ 64) input.answers
  pub world : world_of parameters answers input ≡ w

-- each world of that length is some input's
abbrev pub EveryWorld : Type 0
EveryWorld =
    (parameters : List Kind) (answers : ℕ) (w : World) → All IsKind parameters → length w ≡ world_length parameters answers → (input : Input) × IsInputOf parameters answers w input

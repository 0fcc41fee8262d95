-- Inputs as worlds: the bits of the arguments, and then those of the answers.
use Rattle.std.specs.Prelude.{ℕ, zero, suc, ◌+◌, ◌*◌, ◌/◌, ◌%◌, ◌==◌, Bool, List, [], ◌∷◌, ◌++◌, slice_index, sum_by}
use Rattle.circuit.specs.Truth.{World}
use Rattle.c_values.specs.declared.kinds.Kind.{Kind}
use Rattle.c_meaning.specs.declared.input.Input.{Input}
use Rattle.c_meaning.specs.Starts.{fitted}

-- so many bits of a number, the lowest first
unfoldable pub low_bits : ℕ → ℕ → List Bool
low_bits zero n = []
low_bits (suc count) n = (n % 2 == 1) ∷ low_bits count (n / 2)

-- the arguments from a number on, each as a value of its parameter's kind, with as many bits as the kind is wide
abbrev pub argument_bits : List Kind → List ℕ → ℕ → List Bool
argument_bits [] words at = []
argument_bits (kind ∷ kinds) words at = low_bits kind.width (fitted kind (slice_index words at)) ++ argument_bits kinds words (at + 1)

-- so many answers from a number on, 64 bits of each, and 0 past the list
abbrev pub answer_bits : ℕ → List ℕ → ℕ → List Bool
answer_bits zero answers at = []
answer_bits (suc count) answers at = low_bits 64 (slice_index answers at) ++ answer_bits count answers (at + 1)

-- the world of an input of a function with these parameters, with so many answers
abbrev pub world_of : List Kind → ℕ → Input → World
world_of parameters answers input = argument_bits parameters input.words 0 ++ answer_bits answers input.answers 0

-- how many bits the parameters have
abbrev pub total_width : List Kind → ℕ
total_width parameters = sum_by (λ (kind : Kind). kind.width) parameters

-- how many inputs a circuit of such worlds has
abbrev pub world_length : List Kind → ℕ → ℕ
world_length parameters answers = total_width parameters + 64 * answers

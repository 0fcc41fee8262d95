-- The inputs of the file that the words name.
use Rattle.std.specs.Prelude.{◌≡◌, ◌≤◌, ℕ, List, Ok, Err, length}
use Rattle.fq_core.specs.declared.refusal.Refusal.{Refusal}
use Rattle.c_meaning.specs.declared.input.Input.{Input}
use Rattle.input_text.specs.Inputs.{inputs_of}
use Rattle.command.specs.Reads.{Reads, Sees}
use Rattle.command.specs.Sources.{IsUnread}

-- the bytes of a file of inputs, at most: 16 MiB
abbrev pub most_inputs : ℕ
most_inputs = 16777216

-- the file holds these inputs, of so many words each
pub record AreInputsOf (r : Reads) (file : List ℕ) (parameters : ℕ) (inputs : List Input) : Type 0 where
  pub bytes : List ℕ
  pub seen : Sees r.holds file bytes
  pub short : length bytes ≤ most_inputs
  pub is : inputs_of parameters bytes ≡ Ok inputs

-- the file isn't read, or its bytes are refused
pub data AreRefused (r : Reads) (file : List ℕ) (parameters : ℕ) (refusal : Refusal) : Type 0 where
  at_read : IsUnread r most_inputs file refusal → AreRefused r file parameters refusal
  at_form : (bytes : List ℕ) → Sees r.holds file bytes → length bytes ≤ most_inputs → inputs_of parameters bytes ≡ Err refusal → AreRefused r file parameters refusal

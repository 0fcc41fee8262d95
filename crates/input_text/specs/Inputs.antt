-- The inputs that a text gives.
use Rattle.std.specs.Prelude.{ℕ, ◌==◌, ◌||◌, not, Bool, false, List, Option, None, Some, find, if◌then◌else◌}
use Rattle.std.specs.Option.{option_map_or}
use Rattle.serde_json.specs.Data.{Items}
use Rattle.fq_core.specs.declared.refusal.Place.TheVariants as place
use Rattle.input_text.specs.Json.{array_of, object_parts}
use Rattle.input_text.specs.Lines.{line_parts}
use Rattle.input_text.specs.Outcome.{Outcome, numbered, refused_at}

-- a space, a tab, a carriage return or a line feed
abbrev pub is_space : ℕ → Bool
is_space byte = byte == 32 || byte == 9 || byte == 13 || byte == 10

-- the first byte that is no space is `[`
abbrev pub begins_array : List ℕ → Bool
begins_array bytes = option_map_or (λ byte. byte == 91) (find (λ byte. not (is_space byte)) bytes) false

-- the inputs of a JSON array, or its refusal where it is none
abbrev pub inputs_of_array : ℕ → Option Items → Outcome
inputs_of_array parameters None = refused_at 50 (place.InputNumber 0)
inputs_of_array parameters (Some items) = numbered 1 (object_parts parameters items)

-- The inputs of a text, of so many arguments each, or the refusal of it: a JSON array where its first byte that is no space
-- is `[`, and else a line for each input.
abbrev pub inputs_of : ℕ → List ℕ → Outcome
inputs_of parameters bytes =
    if begins_array bytes then inputs_of_array parameters (array_of bytes) else numbered 1 (line_parts parameters bytes)

-- The inputs that a JSON text gives, as `serde_json` reads it: UTF-8, arrays and objects nested at most 127 deep, the last
-- value of a key that comes twice. A whole number is one with no point, no exponent and a value from -2^63 to 2^64 - 1;
-- `-0` is none.
use Rattle.std.specs.Prelude.{◌≡◌, ℕ, ◌==◌, List, [], ◌∷◌, Option, None, Some, Result, Ok, Err, codes, length, option_and_then, option_map, if◌then◌else◌}
use Rattle.std.specs.Int.{cast_unsigned, w64}
use Rattle.std.specs.Option.{option_map_or}
use Rattle.std.specs.Str.{is_utf8}
use Rattle.serde_json.specs.Data.{Data, Items, item, no_items, Num, float, negative, unsigned}
use Rattle.serde_json.specs.Find.{as_array, as_number, get}
use Rattle.serde_json.specs.Read.{read}
use Rattle.c_meaning.specs.declared.input.Input.{Input}
use Rattle.input_text.specs.declared.misfit.Misfit.{Misfit}
use Rattle.input_text.specs.declared.misfit.Misfit.TheVariants as misfit

-- a whole number, as a word of 64 bits
abbrev pub word_of_number : Num → Option ℕ
word_of_number (unsigned n) = Some n
word_of_number (negative z) = Some (cast_unsigned w64 z)
word_of_number (float x) = None

abbrev pub word_of : Data → Option ℕ
word_of d = option_and_then word_of_number (as_number d)

-- the words of these, where each is one
abbrev pub words_of_items : Items → Option (List ℕ)
words_of_items no_items = Some []
words_of_items (item d ds) = option_and_then (λ word. option_map (λ words. word ∷ words) (words_of_items ds)) (word_of d)

-- the words of an array of whole numbers
abbrev pub words_of : Data → Option (List ℕ)
words_of d = option_and_then words_of_items (as_array d)

-- the words at the key `args`
abbrev pub arguments_of : Data → Option (List ℕ)
arguments_of d = option_and_then words_of (get (codes "args") d)

-- the words at the key `answers`, or none where it isn't there
abbrev pub answers_of : Data → Option (List ℕ)
answers_of d = option_map_or words_of (get (codes "answers") d) (Some [])

abbrev pub input_with : List ℕ → List ℕ → Input
input_with words answers = record { words = words; answers = answers }

-- an input with these arguments and answers, where both are there and there are so many arguments
abbrev pub input_from : ℕ → Option (List ℕ) → Option (List ℕ) → Result Input Misfit
input_from parameters None answers = Err misfit.Shape
input_from parameters (Some words) None = Err misfit.Shape
input_from parameters (Some words) (Some answers) =
    if length words == parameters then Ok (input_with words answers) else Err misfit.Shape

-- the input of an object
abbrev pub object_input : ℕ → Data → Result Input Misfit
object_input parameters d = input_from parameters (arguments_of d) (answers_of d)

-- what each of these gives
abbrev pub object_parts : ℕ → Items → List (Result Input Misfit)
object_parts parameters no_items = []
object_parts parameters (item d ds) = object_input parameters d ∷ object_parts parameters ds

-- what bytes are as JSON, where they are UTF-8 and have a reading
abbrev pub json_of : List ℕ → Option Data
json_of bytes = if is_utf8 bytes then read bytes else None

-- the array that bytes are, where they are one
abbrev pub array_of : List ℕ → Option Items
array_of bytes = option_and_then as_array (json_of bytes)

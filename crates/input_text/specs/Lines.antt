-- The inputs that a text gives, one on a line.
use Rattle.std.specs.Prelude.{ℕ, ◌==◌, ◌||◌, Bool, true, false, List, [], Option, None, Some, Result, Ok, Err, length, filter, map, nat_lt, if◌then◌else◌}
use Rattle.std.specs.List.{list_any, slice_split}
use Rattle.std.specs.Option.{option_map_or}
use Rattle.containers.specs.Lists.{all_there}
use Rattle.fq_core.specs.declared.word.WordText.{WordText}
use Rattle.fq_core.specs.declared.word.WordText.TheVariants as word
use Rattle.fq_core.specs.Word.{word_of_text}
use Rattle.c_meaning.specs.declared.input.Input.{Input}
use Rattle.input_text.specs.declared.misfit.Misfit.{Misfit}
use Rattle.input_text.specs.declared.misfit.Misfit.TheVariants as misfit

-- a space, a tab or a carriage return
abbrev pub is_blank : ℕ → Bool
is_blank byte = byte == 32 || byte == 9 || byte == 13

-- those that have an element
abbrev pub filled : {X : Type 0} → List (List X) → List (List X)
filled = filter (λ part. nat_lt 0 (length part))

-- the texts between the blanks of a line
abbrev pub texts_in : List ℕ → List (List ℕ)
texts_in line = filled (slice_split is_blank line)

-- the lines of a text, parted by line feeds
abbrev pub lines_of : List ℕ → List (List ℕ)
lines_of = slice_split (λ byte. byte == 10)

-- the word that a text writes
abbrev pub word_in : WordText → Option ℕ
word_in (word.Number value) = Some value
word_in word.NotNumber = None
word_in word.OutOfRange = None

abbrev pub is_no_number : WordText → Bool
is_no_number (word.Number value) = false
is_no_number word.NotNumber = true
is_no_number word.OutOfRange = false

-- the words that texts write, where each of them writes one
abbrev pub words_in : List (List ℕ) → Option (List ℕ)
words_in texts = all_there (map (λ text. word_in (word_of_text text)) texts)

-- what is wrong with texts of which some write no word: one is no number, or all are and some have no word
abbrev pub misfit_in : List (List ℕ) → Misfit
misfit_in texts = if list_any (λ text. is_no_number (word_of_text text)) texts then misfit.Shape else misfit.Range

-- an input with these words, to which no answer is given
abbrev pub input_of : List ℕ → Input
input_of words = record { words = words; answers = [] }

-- the input of a line that has these texts: so many words
abbrev pub line_input : ℕ → List (List ℕ) → Result Input Misfit
line_input parameters texts =
    if length texts == parameters then option_map_or (λ words. Ok (input_of words)) (words_in texts) (Err (misfit_in texts))
    else Err misfit.Shape

-- what each of these lines that isn't blank gives
abbrev pub parts_of_lines : ℕ → List (List ℕ) → List (Result Input Misfit)
parts_of_lines parameters lines = map (line_input parameters) (filled (map texts_in lines))

-- what each line of a text that isn't blank gives
abbrev pub line_parts : ℕ → List ℕ → List (Result Input Misfit)
line_parts parameters bytes = parts_of_lines parameters (lines_of bytes)

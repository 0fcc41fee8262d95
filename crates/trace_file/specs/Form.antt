-- The form of a trace file: the line `fshell traces 1`, and then a line for each trace. A line has `args` and the arguments,
-- `answers` and the answers where there are any, and `edges` and the numbers of the edges, all parted by one space.
use Rattle.std.specs.Prelude.{ℕ, ◌+◌, ◌^◌, ◌==◌, ◌&&◌, not, nat_eq, nat_lt, Bool, List, [], ◌∷◌, Option, None, Some, Result, Ok, Err, codes, length, map, option_and_then, option_map, if◌then◌else◌}
use Rattle.std.specs.List.{slice_split, starts_with}
use Rattle.std.specs.Str.{bytes_eq}
use Rattle.containers.specs.Lists.{all_there}
use Rattle.fq_core.specs.declared.word.WordText.{WordText}
use Rattle.fq_core.specs.declared.word.WordText.TheVariants as word
use Rattle.fq_core.specs.Word.{word_of_text}
use Rattle.c_meaning.specs.declared.input.Input.{Input}
use Rattle.trace_file.specs.declared.line.Line.{Line}

-- ---- numbers

-- it doesn't begin with `0`, but where it is just that, nor with `-0`
abbrev pub is_plain : List ℕ → Bool
is_plain text = not (starts_with nat_eq text (codes "0") && nat_lt 1 (length text)) && not (starts_with nat_eq text (codes "-0"))

abbrev pub word_said : WordText → Option ℕ
word_said (word.Number value) = Some value
word_said word.NotNumber = None
word_said word.OutOfRange = None

-- the word of a decimal number from -2^63 to 2^64 - 1, without leading zeros and not `-0`
abbrev pub word_in : List ℕ → Option ℕ
word_in text = if is_plain text then word_said (word_of_text text) else None

-- a number below 2^32; the word of a negative number is none, but 2^63 or more
abbrev pub small : ℕ → Option ℕ
small value = if nat_lt value (2 ^ 32) then Some value else None

-- the edge of a number from 0 to 2^32 - 1
abbrev pub edge_in : List ℕ → Option ℕ
edge_in text = option_and_then small (word_in text)

-- the words that texts write, where each of them writes one
abbrev pub words_in : List (List ℕ) → Option (List ℕ)
words_in texts = all_there (map word_in texts)

-- the edges that texts write, where each of them writes one
abbrev pub edges_of : List (List ℕ) → Option (List ℕ)
edges_of texts = all_there (map edge_in texts)

-- ---- a line

-- the parts of a line, between its spaces
abbrev pub parts_of : List ℕ → List (List ℕ)
parts_of line = slice_split (λ byte. byte == 32) line

-- the parts before a word, and those after it
abbrev pub Cut : Type 0
Cut = List (List ℕ) × List (List ℕ)

-- with one more part at the front
abbrev pub behind : List ℕ → Cut → Cut
behind part cut = (part ∷ cut.0, cut.1)

-- the parts before and after the first that is this word, where one is
abbrev pub cut_at : List ℕ → List (List ℕ) → Option Cut
cut_at mark [] = None
cut_at mark (part ∷ parts) = if bytes_eq part mark then Some ([], parts) else option_map (behind part) (cut_at mark parts)

-- `args` and so many arguments
abbrev pub arguments_in : ℕ → List (List ℕ) → Option (List ℕ)
arguments_in parameters [] = None
arguments_in parameters (first ∷ texts) = if bytes_eq first (codes "args") && (length texts == parameters) then words_in texts else None

-- answers, of which there is one at least
abbrev pub answers_in : List (List ℕ) → Option (List ℕ)
answers_in [] = None
answers_in (text ∷ texts) = words_in (text ∷ texts)

abbrev pub input_with : List ℕ → List ℕ → Input
input_with words answers = record { words = words; answers = answers }

-- an input, where its arguments and its answers are there
abbrev pub input_from : Option (List ℕ) → Option (List ℕ) → Option Input
input_from None answers = None
input_from (Some words) None = None
input_from (Some words) (Some answers) = Some (input_with words answers)

-- the arguments, and the answers where there are any
abbrev pub input_cut : ℕ → List (List ℕ) → Option Cut → Option Input
input_cut parameters parts None = input_from (arguments_in parameters parts) (Some [])
input_cut parameters parts (Some cut) = input_from (arguments_in parameters cut.0) (answers_in cut.1)

abbrev pub input_in : ℕ → List (List ℕ) → Option Input
input_in parameters parts = input_cut parameters parts (cut_at (codes "answers") parts)

abbrev pub line_with : Input → List ℕ → Line
line_with input edges = record { input = input; edges = edges }

abbrev pub line_from : Option Input → Option (List ℕ) → Option Line
line_from None edges = None
line_from (Some input) None = None
line_from (Some input) (Some edges) = Some (line_with input edges)

-- what stands before `edges`, and the edges
abbrev pub line_cut : ℕ → Option Cut → Option Line
line_cut parameters None = None
line_cut parameters (Some cut) = line_from (input_in parameters cut.0) (edges_of cut.1)

-- the line of these parts, with an argument for each of so many parameters, where they have the form of one
abbrev pub line_of_parts : ℕ → List (List ℕ) → Option Line
line_of_parts parameters parts = line_cut parameters (cut_at (codes "edges") parts)

abbrev pub line_in : ℕ → List ℕ → Option Line
line_in parameters text = line_of_parts parameters (parts_of text)

-- ---- a file

-- what a file's lines say, or the number, from 1, of the first that has another form
abbrev pub Form : Type 0
Form = Result (List Line) ℕ

abbrev pub title : List ℕ
title = codes "fshell traces 1"

-- a line of this number before others
abbrev pub line_before : ℕ → Option Line → Form → Form
line_before number None form = Err number
line_before number (Some line) (Ok lines) = Ok (line ∷ lines)
line_before number (Some line) (Err other) = Err other

-- nothing stands after the last line feed, or it is a line that doesn't end with one
abbrev pub ended : ℕ → List ℕ → Form
ended number [] = Ok []
ended number (byte ∷ bytes) = Err number

-- The lines of these texts, which line feeds part, numbered from this number on. Nothing stands after the last line feed.
abbrev pub lines_from : ℕ → ℕ → List (List ℕ) → Form
lines_from parameters number [] = Ok []
lines_from parameters number (last ∷ []) = ended number last
lines_from parameters number (line ∷ next ∷ more) = line_before number (line_in parameters line) (lines_from parameters (number + 1) (next ∷ more))

-- the title, and then the lines of traces
abbrev pub titled : ℕ → List (List ℕ) → Form
titled parameters [] = Err 1
titled parameters (last ∷ []) = Err 1
titled parameters (first ∷ next ∷ more) = if bytes_eq first title then lines_from parameters 2 (next ∷ more) else Err 1

-- The form of a trace file of a function with so many parameters: what each line after the first says, or the first line
-- that has another form. A line that doesn't end with a line feed has another form, and so has line 1 where it is missing.
abbrev pub form_of : ℕ → List ℕ → Form
form_of parameters bytes = titled parameters (slice_split (λ byte. byte == 10) bytes)

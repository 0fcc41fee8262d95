-- How the words of a command are read.
use Rattle.std.specs.Prelude.{ℕ, ◌==◌, ◌&&◌, ◌||◌, not, Bool, false, List, [], ◌∷◌, Option, None, Some, codes, find, filter, map, option_map, String, string_bytes, unwrap_or, if◌then◌else◌}
use Rattle.std.specs.Str.{bytes_eq}
use Rattle.clap.specs.Lexer.{long_of}
use Rattle.std.specs.declared.alloc.Global.{Global}
use Rattle.clap.specs.Walk.{Row, all_of}
use Rattle.command_words.specs.declared.command_option.CommandOption.{CommandOption}
use Rattle.command_words.specs.Options.{name_of, takes_value}

abbrev pub Text : Type 0
Text = List ℕ

abbrev pub texts : List (String Global) → List Text
texts = map string_bytes

-- A use of an option, with its value, or of a positional, with its word. A use of a flag has the empty text.
abbrev pub Use : Type 0
Use = Text × Text

-- the name under which a positional word is used
abbrev pub positional_id : Text
positional_id = codes "words"

abbrev pub dashes : Text
dashes = 45 ∷ 45 ∷ []

-- the word begins with a hyphen
abbrev pub has_hyphen : Text → Bool
has_hyphen [] = false
has_hyphen (x ∷ xs) = x == 45

-- a hyphen, alone or before something else than a hyphen
abbrev pub is_short : Text → Bool
is_short [] = false
is_short (x ∷ []) = x == 45
is_short (x ∷ y ∷ rest) = x == 45 && not (y == 45)

-- such a word stands before the first `--`
abbrev pub has_short : List Text → Bool
has_short [] = false
has_short (word ∷ rest) = if bytes_eq word dashes then false else (is_short word || has_short rest)

-- the option of this name
abbrev pub option_named : List CommandOption → Text → Option CommandOption
option_named opts name = find (λ o. bytes_eq (name_of o) name) opts

abbrev pub with_use : Text → Text → Option (List Use) → Option (List Use)
with_use id value = option_map (λ uses. (id, value) ∷ uses)

-- a positional for each word
abbrev pub positionals : List Text → List Use
positionals = map (λ word. (positional_id, word))

-- An option, with the value after its `=` or that of the next word. `next` reads the words after it, the first as the value of
-- an option where it names one.
abbrev pub value_use : Text → Option Text → (Option Text → Option (List Use)) → Option (List Use)
value_use name (Some value) next = with_use name value (next None)
value_use name None next = next (Some name)

abbrev pub flag_use : Text → Option Text → (Option Text → Option (List Use)) → Option (List Use)
flag_use name (Some value) next = None
flag_use name None next = with_use name [] (next None)

abbrev pub option_use : Option CommandOption → Option Text → (Option Text → Option (List Use)) → Option (List Use)
option_use None value next = None
option_use (Some o) value next = if (takes_value o) then value_use (name_of o) value next else flag_use (name_of o) value next

abbrev pub plain_use : Text → Text → (Option Text → Option (List Use)) → Option (List Use)
plain_use id word next = if has_hyphen word then None else with_use id word (next None)

abbrev pub word_use : List CommandOption → Text → Option (Text × Option Text) → (Option Text → Option (List Use)) → Option (List Use)
word_use opts word (Some p) next = option_use (option_named opts p.0) p.1 next
word_use opts word None next = plain_use positional_id word next

abbrev pub step : List CommandOption → Text → List Text → Option Text → (Option Text → Option (List Use)) → Option (List Use)
step opts word rest (Some name) next = plain_use name word next
step opts word rest None next = if bytes_eq word dashes then Some (positionals rest) else word_use opts word (long_of word) next

-- The uses that the words are, in order. Up to the first `--` a word is an option, an option's value or a positional that
-- doesn't begin with a hyphen; after it each is a positional. `awaited` is the option whose value comes first.
abbrev pub reading : List CommandOption → List Text → Option Text → Option (List Use)
reading opts [] None = Some []
reading opts [] (Some name) = None
reading opts (word ∷ rest) awaited = step opts word rest awaited (reading opts rest)

-- the values of the uses of this name
abbrev pub values : Text → List Use → List Text
values id uses = map (λ u. u.1) (filter (λ u. bytes_eq u.0 id) uses)

-- the values of an id in the rows of a parse
abbrev pub row_values : Text → List Row → List Text
row_values id rows = unwrap_or (all_of id rows) []

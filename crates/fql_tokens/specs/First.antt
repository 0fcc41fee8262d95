-- What begins a query, or what is left of one: a blank, or a token with its length in bytes.
use Rattle.std.specs.Prelude.{ℕ, ◌+◌, Bool, false, ◌==◌, if◌then◌else◌, nat_le, List, [], ◌∷◌, take, drop, Option, Some, None}
use Rattle.std.specs.List.{prefix_len}
use Rattle.std.specs.Str.Parse.{digits_value}
use Rattle.fql_tokens.specs.declared.token.Mark.{Mark}
use Rattle.fql_tokens.specs.declared.token.FilterName.{FilterName}
use Rattle.fql_tokens.specs.declared.token.Sign.TheVariants as sign
use Rattle.fql_tokens.specs.declared.first.Mode.{Mode}
use Rattle.fql_tokens.specs.declared.first.Mode.TheVariants as modes
use Rattle.fql_tokens.specs.declared.first.Beginning.{Beginning}
use Rattle.fql_tokens.specs.declared.first.Beginning.TheVariants as begins
use Rattle.fql_tokens.specs.Bytes.{is_blank, is_letter, is_digit, continues_word, is_predicate_byte, is_file_byte}
use Rattle.fql_tokens.specs.Spelling.{keyword_of, filter_of, single_mark, double_mark}

-- the first byte is this one
abbrev pub starts : ℕ → List ℕ → Bool
starts a [] = false
starts a (b ∷ bs) = b == a

-- a word: all letters, digits and `_` that follow its first letter
unfoldable pub word_at : List ℕ → Beginning
word_at text = let n = prefix_len continues_word text in begins.Token (sign.Word (keyword_of (take n text)) (take n text)) n

-- a number: all digits, which are nine at most
unfoldable pub number_at : List ℕ → Beginning
number_at text =
    let n = prefix_len is_digit text in
    if nat_le n 9 then begins.Token (sign.Number (digits_value 10 (take n text))) n else begins.Unknown

-- the name of a filter, which follows an `@`: a whole word
abbrev pub filter_or_none : Option FilterName → ℕ → Beginning
filter_or_none None n = begins.Unknown
filter_or_none (Some f) n = begins.Token (sign.Filter f) (n + 1)

unfoldable pub filter_at : List ℕ → Beginning
filter_at text = let n = prefix_len continues_word text in filter_or_none (filter_of (take n text)) n

-- the text of a predicate and the closing brace, which follow an opening one
unfoldable pub predicate_at : List ℕ → Beginning
predicate_at text =
    let n = prefix_len is_predicate_byte text in
    if starts 125 (drop n text) then begins.Token (sign.Predicate (take n text)) (n + 2) else begins.Unknown

-- the name of a file: all bytes that may stand in one
unfoldable pub file_at : List ℕ → Beginning
file_at text = let n = prefix_len is_file_byte text in begins.Token (sign.File (take n text)) n

-- a mark
abbrev pub mark_or_none : Option Mark → ℕ → Beginning
mark_or_none None n = begins.Unknown
mark_or_none (Some m) n = begins.Token (sign.Mark m) n

abbrev pub double_mark_at : List ℕ → Beginning
double_mark_at (a ∷ b ∷ bs) = mark_or_none (double_mark a b) 2
double_mark_at _ = begins.Unknown

abbrev pub or_double : Option Mark → List ℕ → Beginning
or_double (Some m) text = begins.Token (sign.Mark m) 1
or_double None text = double_mark_at text

-- a file is named where `@FILE` and `(` came before
abbrev pub names_file : Mode → Bool → Bool
names_file modes.FileName is_byte = is_byte
names_file _ is_byte = false

-- what begins a text: its first byte tells which token it can be
unfoldable pub beginning : Mode → List ℕ → Beginning
beginning m [] = begins.End
beginning m (b ∷ bs) =
    if is_blank b then begins.Blank
    else (if names_file m (is_file_byte b) then file_at (b ∷ bs)
    else (if is_letter b then word_at (b ∷ bs)
    else (if is_digit b then number_at (b ∷ bs)
    else (if b == 64 then filter_at bs
    else (if b == 123 then predicate_at bs
    else or_double (single_mark b) (b ∷ bs))))))

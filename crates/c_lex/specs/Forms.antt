-- Which lists of bytes are tokens, and the longest that begins at a place (ISO/IEC 9899:2011, 6.4p4). What `tokens`
-- promises rests on this module.
use Rattle.std.specs.Prelude.{ℕ, zero, suc, Bool, true, false, ◌&&◌, ◌==◌, if◌then◌else◌, List, [], ◌∷◌, length, take, Option, Some, None, is_some, codes}
use Rattle.std.specs.List.{list_any, list_all}
use Rattle.c_lex.specs.Bytes.{is_one_of, is_letter, is_digit, continues_word, continues_number, is_constant_byte, is_string_byte, is_escaped_byte, is_in_line}

-- a text's bytes two by two, and three by three
abbrev pub pairs_of : List ℕ → List (ℕ × ℕ)
pairs_of (a ∷ b ∷ bs) = (a, b) ∷ pairs_of bs
pairs_of _ = []

abbrev pub triples_of : List ℕ → List (ℕ × ℕ × ℕ)
triples_of (a ∷ b ∷ c ∷ bs) = (a, b, c) ∷ triples_of bs
triples_of _ = []

-- the marks of the profile, and those that it leaves out: `.`, `->` and `...` (6.4.6)
abbrev pub single_marks : List ℕ
single_marks = codes "()[]{}?:;,=+-*/%&|^~!<>."

abbrev pub double_marks : List (ℕ × ℕ)
double_marks = pairs_of (codes "++--<<>><=>===!=&&||*=/=%=+=-=&=^=|=->")

abbrev pub triple_marks : List (ℕ × ℕ × ℕ)
triple_marks = triples_of (codes "<<=>>=...")

abbrev pub is_double_mark : ℕ → ℕ → Bool
is_double_mark a b = list_any (λ m. m.0 == a && m.1 == b) double_marks

abbrev pub is_triple_mark : ℕ → ℕ → ℕ → Bool
is_triple_mark a b c = list_any (λ m. m.0 == a && m.1 == b && m.2 == c) triple_marks

unfoldable pub is_mark : List ℕ → Bool
is_mark (a ∷ []) = is_one_of single_marks a
is_mark (a ∷ b ∷ []) = is_double_mark a b
is_mark (a ∷ b ∷ c ∷ []) = is_triple_mark a b c
is_mark _ = false

-- what an escape stands for: one of `\n \t \r \0 \\ \' \"` (6.4.4.4, simple-escape-sequence and `\0`)
abbrev pub escapes : List (ℕ × ℕ)
escapes = (110, 10) ∷ (116, 9) ∷ (114, 13) ∷ (48, 0) ∷ (92, 92) ∷ (39, 39) ∷ (34, 34) ∷ []

abbrev pub value_at : List (ℕ × ℕ) → ℕ → Option ℕ
value_at [] b = None
value_at (row ∷ rows) b = if row.0 == b then Some row.1 else value_at rows b

-- the value of a character constant, of which these bytes follow the first quote (6.4.4.4)
unfoldable pub constant_value : List ℕ → Option ℕ
constant_value (a ∷ b ∷ []) = if is_constant_byte a && b == 39 then Some a else None
constant_value (a ∷ b ∷ c ∷ []) = if a == 92 && c == 39 then value_at escapes b else None
constant_value _ = None

abbrev pub is_empty : List ℕ → Bool
is_empty [] = true
is_empty _ = false

-- these bytes follow the first quote of a string, or a backslash in it: its bytes, and the closing quote (6.4.5)
unfoldable pub ends_string : (after_backslash : Bool) → List ℕ → Bool
ends_string escaped [] = false
ends_string true (b ∷ bs) = is_escaped_byte b && ends_string false bs
ends_string false (b ∷ bs) =
    if b == 34 then is_empty bs else (if b == 92 then ends_string true bs else (is_string_byte b && ends_string false bs))

-- these bytes follow the `<` of a header's name, as an `#include` has it: any bytes of the line but `>`, and `>` (6.4.7)
unfoldable pub ends_header : List ℕ → Bool
ends_header [] = false
ends_header (a ∷ bs) = if a == 62 then is_empty bs else (is_in_line a && ends_header bs)

-- a word, a number, a character constant, a string or a mark (6.4): the first byte tells which it can be
unfoldable pub ends_token : (first : ℕ) → List ℕ → Bool
ends_token b bs =
    if is_letter b then list_all continues_word bs
    else (if is_digit b then list_all continues_number bs
    else (if b == 39 then is_some (constant_value bs)
    else (if b == 34 then ends_string false bs
    else is_mark (b ∷ bs))))

unfoldable pub is_token : List ℕ → Bool
is_token [] = false
is_token (b ∷ bs) = ends_token b bs

-- a header's name, `<` and what ends it
unfoldable pub is_header : List ℕ → Bool
is_header [] = false
is_header (b ∷ bs) = b == 60 && ends_header bs

-- a token; where a header's name is due, that alone
abbrev pub is_token_or_header : (header : Bool) → List ℕ → Bool
is_token_or_header true bs = is_header bs
is_token_or_header false bs = is_token bs

-- the greatest number from 1 to n that passes
unfoldable pub greatest : (ℕ → Bool) → ℕ → Option ℕ
greatest p zero = None
greatest p (suc n) = if p (suc n) then Some (suc n) else greatest p n

-- the length of the longest token that begins a text
unfoldable pub longest : (header : Bool) → List ℕ → Option ℕ
longest header text = greatest (λ n. is_token_or_header header (take n text)) (length text)

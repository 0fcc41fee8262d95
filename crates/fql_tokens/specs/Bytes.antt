-- Classes of bytes.
use Rattle.std.specs.Prelude.{ℕ, Bool, ◌&&◌, ◌||◌, ◌==◌, not, nat_le, nat_lt}
use Rattle.std.specs.Char.{is_ascii_digit}

-- from a to z
abbrev pub is_between : ℕ → ℕ → ℕ → Bool
is_between a z b = nat_le a b && nat_le b z

-- a space, a tab, a line feed or a carriage return
abbrev pub is_blank : ℕ → Bool
is_blank b = b == 32 || b == 9 || b == 10 || b == 13

-- an ASCII letter or `_`
abbrev pub is_letter : ℕ → Bool
is_letter b = is_between 65 90 b || is_between 97 122 b || b == 95

abbrev pub is_digit : ℕ → Bool
is_digit b = is_ascii_digit b

-- what goes on in a word
abbrev pub continues_word : ℕ → Bool
continues_word b = is_letter b || is_digit b

-- what stands in the text of a predicate: all but `{`, `}` and `"`
abbrev pub is_predicate_byte : ℕ → Bool
is_predicate_byte b = not (b == 123) && not (b == 125) && not (b == 34)

-- what stands in the name of a file: all but control bytes, the space, `)` and `"`
abbrev pub is_file_byte : ℕ → Bool
is_file_byte b = nat_lt 32 b && not (b == 127) && not (b == 41) && not (b == 34)

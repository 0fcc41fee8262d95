-- Classes of bytes (ISO/IEC 9899:2011, 5.2.1 and 6.4). What `tokens` promises rests on this module.
use Rattle.std.specs.Prelude.{ℕ, Bool, ◌&&◌, ◌||◌, ◌==◌, not, nat_le, List}
use Rattle.std.specs.List.{list_any}

-- from a to z
abbrev pub is_between : ℕ → ℕ → ℕ → Bool
is_between a z b = nat_le a b && nat_le b z

-- one of these
abbrev pub is_one_of : List ℕ → ℕ → Bool
is_one_of bytes b = list_any (λ x. x == b) bytes

-- space, horizontal tab, line feed, vertical tab, form feed and carriage return (6.4p3)
abbrev pub is_blank : ℕ → Bool
is_blank b = b == 32 || is_between 9 13 b

-- a nondigit: a letter or `_` (6.4.2.1)
abbrev pub is_letter : ℕ → Bool
is_letter b = is_between 65 90 b || is_between 97 122 b || b == 95

-- a digit (6.4.2.1)
abbrev pub is_digit : ℕ → Bool
is_digit b = is_between 48 57 b

-- what goes on in a word (6.4.2.1)
abbrev pub continues_word : ℕ → Bool
continues_word b = is_letter b || is_digit b

-- what goes on in a number: letters, digits, `_` and `.` (6.4.8)
abbrev pub continues_number : ℕ → Bool
continues_number b = continues_word b || b == 46

-- what stands for itself between the quotes of a character constant: printing ASCII, and neither `'` nor `\` (6.4.4.4)
abbrev pub is_constant_byte : ℕ → Bool
is_constant_byte b = is_between 32 126 b && not (b == 39) && not (b == 92)

-- ASCII other than a line feed, which may follow `\` in a string (6.4.5)
abbrev pub is_escaped_byte : ℕ → Bool
is_escaped_byte b = nat_le b 127 && not (b == 10)

-- what stands for itself in a string: ASCII, and none of `"`, `\` and a line feed (6.4.5)
abbrev pub is_string_byte : ℕ → Bool
is_string_byte b = is_escaped_byte b && not (b == 34) && not (b == 92)

-- a byte that its line doesn't end with
abbrev pub is_in_line : ℕ → Bool
is_in_line b = not (b == 10)

-- Words: the numbers of 64 bits by which arguments and answers are given.
use Rattle.std.specs.Prelude.{ℕ, ◌-◌, ◌%◌, ◌^◌, ◌&&◌, nat_lt, Bool, ℤ, pos, negsuc, neg_ℤ, nat_eq, List, length, drop, Option, None, Some, option_map, codes, if◌then◌else◌}
use Rattle.std.specs.Char.{is_ascii_digit}
use Rattle.std.specs.List.{list_all, starts_with}
use Rattle.std.specs.Option.{option_map_or}
use Rattle.std.specs.Str.Parse.{digits_value}
use Rattle.fq_core.specs.declared.word.WordText.{WordText}
use Rattle.fq_core.specs.declared.word.WordText.TheVariants as word

-- one or more decimal digits, and nothing else
abbrev pub is_digits : List ℕ → Bool
is_digits text = nat_lt 0 (length text) && list_all is_ascii_digit text

-- the number that decimal digits write
abbrev pub natural_of : List ℕ → Option ℕ
natural_of text = if is_digits text then Some (digits_value 10 text) else None

-- the whole number that a text writes: an optional `-`, and decimal digits
abbrev pub number_of_text : List ℕ → Option ℤ
number_of_text text = if starts_with nat_eq text (codes "-") then option_map (λ n. neg_ℤ (pos n)) (natural_of (drop 1 text))
    else option_map pos (natural_of text)

-- it is from -2^63 to 2^64 - 1
abbrev pub has_word : ℤ → Bool
has_word (pos n) = nat_lt n (2 ^ 64)
has_word (negsuc n) = nat_lt n (2 ^ 63)

-- the number modulo 2^64; `negsuc n` is -(n + 1)
abbrev pub modulo_word : ℤ → ℕ
modulo_word (pos n) = n % 2 ^ 64
modulo_word (negsuc n) = 2 ^ 64 - 1 - n % 2 ^ 64

-- the word of a number, where it has one
abbrev pub word_of_number : ℤ → WordText
word_of_number n = if has_word n then word.Number (modulo_word n) else word.OutOfRange

-- what a text says as a word
abbrev pub word_of_text : List ℕ → WordText
word_of_text text = option_map_or word_of_number (number_of_text text) word.NotNumber

-- The kind of a token, and the value of a number (ISO/IEC 9899:2011, 6.4.4.1 and 6.4.4.4). What `tokens` promises rests on this
-- module.
use Rattle.std.specs.Prelude.{ℕ, Bool, true, false, ◌&&◌, ◌||◌, ◌==◌, if◌then◌else◌, nat_lt, List, [], ◌∷◌, take, drop, find, Option, Some, None, option_map, pos, codes, nat_eq}
use Rattle.std.specs.List.{list_any, prefix_len, starts_with}
use Rattle.std.specs.Char as char
use Rattle.std.specs.Str.{bytes_eq}
use Rattle.std.specs.Str.Parse.{digits_value}
use Rattle.c_values.specs.declared.kinds.Kind.{Kind}
use Rattle.c_values.specs.Kind.{int, is_in_range}
use Rattle.c_lex.specs.declared.token.TokenKind.{TokenKind}
use Rattle.c_lex.specs.declared.token.TokenKind.TheVariants.{Word, Number, Mark, Foreign}
use Rattle.c_lex.specs.declared.constant.Suffix.{Suffix}
use Rattle.c_lex.specs.declared.constant.Base.{Base}
use Rattle.c_lex.specs.declared.constant.Base.TheVariants.{Decimal, Octal, Hexadecimal}
use Rattle.c_lex.specs.Bytes.{is_letter, is_digit}
use Rattle.c_lex.specs.Forms.{constant_value}

-- `u` and `l` in any case
abbrev pub is_u : ℕ → Bool
is_u b = b == 117 || b == 85

abbrev pub is_l : ℕ → Bool
is_l b = b == 108 || b == 76

-- what a suffix says: nothing, `u`, `l`, `ul`, `lu`, `ll`, `ull` or `llu` (6.4.4.1, integer-suffix)
unfoldable pub suffix_of : List ℕ → Option Suffix
suffix_of [] = Some (record { unsigned = false; long = false })
suffix_of (a ∷ []) =
    if is_u a then Some (record { unsigned = true; long = false })
    else (if is_l a then Some (record { unsigned = false; long = true }) else None)
suffix_of (a ∷ b ∷ []) =
    if (is_u a && is_l b) || (is_l a && is_u b) then Some (record { unsigned = true; long = true })
    else (if is_l a && is_l b then Some (record { unsigned = false; long = true }) else None)
suffix_of (a ∷ b ∷ c ∷ []) =
    if (is_u a && is_l b && is_l c) || (is_l a && is_l b && is_u c) then Some (record { unsigned = true; long = true }) else None
suffix_of _ = None

abbrev pub unsigned_int : Kind
unsigned_int = record { width = 32; signed = false }

abbrev pub long : Kind
long = record { width = 64; signed = true }

abbrev pub unsigned_long : Kind
unsigned_long = record { width = 64; signed = false }

-- the kinds that a number may have, in the order in which they are tried (6.4.4.1p5)
abbrev pub plain_kinds : Base → List Kind
plain_kinds Decimal = int ∷ long ∷ []
plain_kinds _ = int ∷ unsigned_int ∷ long ∷ unsigned_long ∷ []

abbrev pub long_kinds : Base → List Kind
long_kinds Decimal = long ∷ []
long_kinds _ = long ∷ unsigned_long ∷ []

abbrev pub kinds_of : Base → Suffix → List Kind
kinds_of base suffix =
    if suffix.unsigned then (if suffix.long then unsigned_long ∷ [] else unsigned_int ∷ unsigned_long ∷ [])
    else (if suffix.long then long_kinds base else plain_kinds base)

-- the first of the kinds that holds the number (6.4.4.1p5)
unfoldable pub kind_of_number : Base → Suffix → ℕ → Option Kind
kind_of_number base suffix n = find (λ kind. is_in_range kind (pos n)) (kinds_of base suffix)

-- how a number begins tells its base (6.4.4.1)
abbrev pub base_of : List ℕ → Base
base_of text =
    if starts_with nat_eq text (codes "0x") then Hexadecimal
    else (if starts_with nat_eq text (codes "0") then Octal else Decimal)

abbrev pub radix : Base → ℕ
radix Decimal = 10
radix Octal = 8
radix Hexadecimal = 16

-- the digits and the suffix
abbrev pub after_prefix : Base → List ℕ → List ℕ
after_prefix Hexadecimal text = drop 2 text
after_prefix base text = text

abbrev pub of_kind : ℕ → Option Kind → Option TokenKind
of_kind value kind = option_map (λ k. Number value k) kind

-- where the rest is no suffix, the run is no whole number, and the profile leaves it out
abbrev pub with_suffix : Base → ℕ → Option Suffix → Option TokenKind
with_suffix base value None = Some Foreign
with_suffix base value (Some suffix) = of_kind value (kind_of_number base suffix value)

-- digits of the base, one at least, and a suffix
unfoldable pub number_in : Base → List ℕ → Option TokenKind
number_in base text =
    let n = prefix_len (λ b. char.is_digit b (radix base)) text in
    if nat_lt 0 n then with_suffix base (digits_value (radix base) (take n text)) (suffix_of (drop n text)) else Some Foreign

-- what a run that begins with a digit is; none where its kinds don't hold it
unfoldable pub number_of : List ℕ → Option TokenKind
number_of text = number_in (base_of text) (after_prefix (base_of text) text)

-- the words of C that the profile leaves out: of ISO/IEC 9899:1990, 1999 and 2011 (6.4.1)
abbrev pub foreign_words : List (List ℕ)
foreign_words = codes "struct" ∷ codes "union" ∷ codes "typedef" ∷ codes "float" ∷ codes "double" ∷ codes "goto" ∷ codes "sizeof"
    ∷ codes "volatile" ∷ codes "register" ∷ codes "auto" ∷ []

abbrev pub foreign_words_of_1999 : List (List ℕ)
foreign_words_of_1999 = codes "restrict" ∷ codes "_Bool" ∷ codes "_Complex" ∷ codes "_Imaginary" ∷ []

abbrev pub foreign_words_of_2011 : List (List ℕ)
foreign_words_of_2011 = codes "_Alignas" ∷ codes "_Alignof" ∷ codes "_Atomic" ∷ codes "_Generic" ∷ codes "_Noreturn"
    ∷ codes "_Static_assert" ∷ codes "_Thread_local" ∷ []

-- the marks of C that the profile leaves out (6.4.6)
abbrev pub foreign_marks : List (List ℕ)
foreign_marks = codes "." ∷ codes "->" ∷ codes "..." ∷ []

abbrev pub is_among : List (List ℕ) → List ℕ → Bool
is_among texts text = list_any (λ t. bytes_eq text t) texts

abbrev pub is_foreign_word : List ℕ → Bool
is_foreign_word text = is_among foreign_words text || is_among foreign_words_of_1999 text || is_among foreign_words_of_2011 text

-- a character constant is an int (6.4.4.4p10)
abbrev pub constant_kind : Option ℕ → TokenKind
constant_kind None = Foreign
constant_kind (Some value) = Number value int

abbrev pub word_kind : List ℕ → TokenKind
word_kind text = if is_foreign_word text then Foreign else Word

abbrev pub mark_kind : List ℕ → TokenKind
mark_kind text = if is_among foreign_marks text then Foreign else Mark

-- what a token is; none for a number that is too wide for each of its kinds
unfoldable pub token_kind : List ℕ → Option TokenKind
token_kind [] = Some Foreign
token_kind (b ∷ bs) =
    if is_letter b then Some (word_kind (b ∷ bs))
    else (if is_digit b then number_of (b ∷ bs)
    else (if b == 39 then Some (constant_kind (constant_value bs))
    else (if b == 34 then Some Foreign
    else Some (mark_kind (b ∷ bs)))))

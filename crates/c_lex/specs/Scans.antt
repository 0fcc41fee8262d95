-- How far a character constant, a string, a header's name or a mark goes on, byte by byte. Nothing that is promised
-- speaks of this: it is what the scanner's functions give, and proofs/ has that each is the longest of its form.
use Rattle.std.specs.Prelude.{◌≡◌, ℕ, suc, ◌<◌, ◌≤◌, length, take, Bool, true, false, ◌&&◌, ◌==◌, if◌then◌else◌, List, [], ◌∷◌, Option, Some, None, option_map, is_some}
use Rattle.c_lex.specs.Bytes.{is_one_of, is_constant_byte, is_escaped_byte, is_string_byte, is_in_line}
use Rattle.c_lex.specs.Forms.{single_marks, is_double_mark, is_triple_mark, escapes, value_at}

-- after the first quote of a character constant
abbrev pub escape_length : ℕ → ℕ → List ℕ → Option ℕ
escape_length a b [] = None
escape_length a b (c ∷ cs) = if a == 92 && c == 39 && is_some (value_at escapes b) then Some 3 else None

unfoldable pub constant_length : List ℕ → Option ℕ
constant_length (a ∷ b ∷ bs) = if is_constant_byte a && b == 39 then Some 2 else escape_length a b bs
constant_length _ = None

-- after the first quote of a string, or after a backslash in it
unfoldable pub string_length : (after_backslash : Bool) → List ℕ → Option ℕ
string_length escaped [] = None
string_length true (b ∷ bs) = if is_escaped_byte b then option_map suc (string_length false bs) else None
string_length false (b ∷ bs) =
    if b == 34 then Some 1 else (if b == 92 then option_map suc (string_length true bs)
    else (if is_string_byte b then option_map suc (string_length false bs) else None))

-- after the `<` of a header's name
unfoldable pub header_length : List ℕ → Option ℕ
header_length [] = None
header_length (b ∷ bs) = if b == 62 then Some 1 else (if is_in_line b then option_map suc (header_length bs) else None)

-- after the first byte of a mark
abbrev pub single_length : ℕ → Option ℕ
single_length a = if is_one_of single_marks a then Some 0 else None

abbrev pub double_length : ℕ → ℕ → Option ℕ
double_length a b = if is_double_mark a b then Some 1 else single_length a

abbrev pub triple_length : ℕ → ℕ → ℕ → Option ℕ
triple_length a b c = if is_triple_mark a b c then Some 2 else double_length a b

unfoldable pub mark_length : ℕ → List ℕ → Option ℕ
mark_length a [] = single_length a
mark_length a (b ∷ []) = double_length a b
mark_length a (b ∷ c ∷ cs) = triple_length a b c

-- the first n bytes pass, and no more of them do
pub record Picks (q : List ℕ → Bool) (bs : List ℕ) (n : ℕ) : Type 0 where
  pub within : n ≤ length bs
  pub passes : q (take n bs) ≡ true
  pub beyond : (m : ℕ) → n < m → m ≤ length bs → q (take m bs) ≡ false

-- no first bytes pass
pub record PicksNone (q : List ℕ → Bool) (bs : List ℕ) : Type 0 where
  pub none : (m : ℕ) → m ≤ length bs → q (take m bs) ≡ false

-- the greatest number of first bytes that pass
abbrev pub PicksLongest : (List ℕ → Bool) → List ℕ → Option ℕ → Type 0
PicksLongest q bs None = PicksNone q bs
PicksLongest q bs (Some n) = Picks q bs n

-- Numbers are values of their kinds.
use Rattle.std.proofs.Common.{◌≡◌, ℕ, ◌≤◌, Bool, true, false, List, [], ◌∷◌, take, drop, refl, arith}
use Rattle.std.specs.Prelude.{Option, Some, None, find, pos, nat_lt, nat_le, ◌&&◌, ◌==◌, if◌then◌else◌, ⊤}
use Rattle.std.specs.List.{prefix_len}
use Rattle.std.specs.Char as char
use Rattle.std.specs.Str.Parse.{digits_value}
use Rattle.std.proofs.lemmas.Bool.{leb-true, lt-ltb, le-leb, and_parts}
use Rattle.c_values.specs.declared.kinds.Kind.{Kind}
use Rattle.c_values.specs.Kind.{int, is_in_range, is_value, IsValue, number_of, least, greatest}
use Rattle.c_lex.specs.declared.constant.Suffix.{Suffix}
use Rattle.c_lex.specs.declared.constant.Base.{Base}
use Rattle.c_lex.specs.declared.constant.Base.TheVariants.{Decimal, Octal, Hexadecimal}
use Rattle.c_lex.specs.declared.token.TokenKind.{TokenKind}
use Rattle.c_lex.specs.declared.token.TokenKind.TheVariants.{Word, Number, Mark, Foreign}
use Rattle.c_lex.specs.Forms.{constant_value, escapes, value_at}
use Rattle.c_lex.specs.Bytes.{is_constant_byte}
use Rattle.c_lex.specs.Constants as constants
use Rattle.c_lex.specs.Constants.{unsigned_int, long, unsigned_long, kinds_of, kind_of_number, suffix_of, with_suffix, number_in, base_of, after_prefix, radix, token_kind, constant_kind, word_kind, mark_kind, is_foreign_word, is_among, foreign_marks}
use Rattle.c_lex.specs.NumbersOfKinds.{HasValue}

-- ---- the kinds of numbers

module _ (n : ℕ) where
  int_value : is_in_range int (pos n) ≡ true → IsValue int n
  unfolding least greatest is_value number_of
  int_value h =
      let le : n ≤ 2147483647 = leb-true n 2147483647 h in
      let a : nat_lt n 18446744073709551616 ≡ true = lt-ltb n 18446744073709551616 (omega arith) in
      let b : nat_lt n 9223372036854775808 ≡ true = lt-ltb n 9223372036854775808 (omega arith) in
      rw (a, b, h) refl

  long_value : is_in_range long (pos n) ≡ true → IsValue long n
  unfolding least greatest is_value number_of
  long_value h =
      let le : n ≤ 9223372036854775807 = leb-true n 9223372036854775807 h in
      let a : nat_lt n 18446744073709551616 ≡ true = lt-ltb n 18446744073709551616 (omega arith) in
      let b : nat_lt n 9223372036854775808 ≡ true = lt-ltb n 9223372036854775808 (omega arith) in
      rw (a, b, h) refl

  unsigned_int_value : is_in_range unsigned_int (pos n) ≡ true → IsValue unsigned_int n
  unfolding least greatest is_value number_of
  unsigned_int_value h =
      let parts = and_parts _ _ h in
      let le : n ≤ 4294967295 = leb-true n 4294967295 parts.1 in
      let a : nat_lt n 18446744073709551616 ≡ true = lt-ltb n 18446744073709551616 (omega arith) in
      rw (a, h) refl

  unsigned_long_value : is_in_range unsigned_long (pos n) ≡ true → IsValue unsigned_long n
  unfolding least greatest is_value number_of
  unsigned_long_value h =
      let parts = and_parts _ _ h in
      let le : n ≤ 18446744073709551615 = leb-true n 18446744073709551615 parts.1 in
      let a : nat_lt n 18446744073709551616 ≡ true = lt-ltb n 18446744073709551616 (omega arith) in
      rw (a, h) refl

  abbrev Values : List Kind → Type 0
  Values [] = ⊤
  Values (k ∷ ks) = (is_in_range k (pos n) ≡ true → IsValue k n) × Values ks

  first_by : (x k : Kind) (xs : List Kind) (v : Bool) → is_in_range x (pos n) ≡ v → Values (x ∷ xs) → (if v then Some x else find (λ y. is_in_range y (pos n)) xs) ≡ Some k
      → (find (λ y. is_in_range y (pos n)) xs ≡ Some k → IsValue k n) → IsValue k n
  first_by x k xs true e all h rest = let s : x ≡ k = cc in rw s at (all.0 e)
  first_by x k xs false e all h rest = rest h

  first_value : (ks : List Kind) (k : Kind) → Values ks → find (λ y. is_in_range y (pos n)) ks ≡ Some k → IsValue k n
  first_value [] k all h = cc
  first_value (x ∷ xs) k all h = first_by x k xs (is_in_range x (pos n)) refl all h (first_value xs k all.1)

  kinds_values : (base : Base) (unsigned wide : Bool) → Values (kinds_of base (record { unsigned = unsigned; long = wide }))
  kinds_values base true true = (unsigned_long_value, tt)
  kinds_values base true false = (unsigned_int_value, (unsigned_long_value, tt))
  kinds_values Decimal false true = (long_value, tt)
  kinds_values Octal false true = (long_value, (unsigned_long_value, tt))
  kinds_values Hexadecimal false true = (long_value, (unsigned_long_value, tt))
  kinds_values Decimal false false = (int_value, (long_value, tt))
  kinds_values Octal false false = (int_value, (unsigned_int_value, (long_value, (unsigned_long_value, tt))))
  kinds_values Hexadecimal false false = (int_value, (unsigned_int_value, (long_value, (unsigned_long_value, tt))))

  of_kind_has : (o : Option Kind) (kind : TokenKind) → ((k : Kind) → o ≡ Some k → IsValue k n) → constants.of_kind n o ≡ Some kind → HasValue kind
  of_kind_has None kind h e = cc
  of_kind_has (Some k) kind h e = let s : Number n k ≡ kind = cc in rw (← s) (h k refl)

  suffix_has : (base : Base) (s : Option Suffix) (kind : TokenKind) → with_suffix base n s ≡ Some kind → HasValue kind
  unfolding kind_of_number
  suffix_has base None kind e = let s : Foreign ≡ kind = cc in rw (← s) tt
  suffix_has base (Some suffix) kind e = of_kind_has (kind_of_number base suffix n) kind (λ k. first_value (kinds_of base suffix) k (kinds_values base suffix.unsigned suffix.long)) e

-- ---- the kinds of tokens

digits_has : (base : Base) (text : List ℕ) (n : ℕ) (v : Bool) (kind : TokenKind) → (if v then with_suffix base (digits_value (radix base) (take n text)) (suffix_of (drop n text)) else Some Foreign) ≡ Some kind → HasValue kind
digits_has base text n true kind h = suffix_has (digits_value (radix base) (take n text)) base (suffix_of (drop n text)) kind h
digits_has base text n false kind h = let s : Foreign ≡ kind = cc in rw (← s) tt

number_has : (text : List ℕ) (kind : TokenKind) → constants.number_of text ≡ Some kind → HasValue kind
unfolding constants.number_of number_in
number_has text kind h =
    let base = base_of text in
    let rest = after_prefix base text in
    let n = prefix_len (λ b. char.is_digit b (radix base)) rest in
    digits_has base rest n (nat_lt 0 n) kind h

small_value : (n : ℕ) → n ≤ 126 → IsValue int n
unfolding least greatest is_value number_of
small_value n le =
    let a : nat_lt n 18446744073709551616 ≡ true = lt-ltb n 18446744073709551616 (omega arith) in
    let b : nat_lt n 9223372036854775808 ≡ true = lt-ltb n 9223372036854775808 (omega arith) in
    let c : nat_le n 2147483647 ≡ true = le-leb n 2147483647 (omega arith) in
    rw (a, b, c) refl

abbrev Small : List (ℕ × ℕ) → Type 0
Small [] = ⊤
Small (row ∷ rows) = (row.1 ≤ 126) × Small rows

constant_by : (v : Bool) (a n : ℕ) (o : Option ℕ) → ((v ≡ true) → a ≤ 126) → (o ≡ Some n → n ≤ 126) → (if v then Some a else o) ≡ Some n → n ≤ 126
constant_by true a n o f g h = let s : a ≡ n = cc in rw (← s) (f refl)
constant_by false a n o f g h = g h

escape_small : (rows : List (ℕ × ℕ)) (b n : ℕ) → Small rows → value_at rows b ≡ Some n → n ≤ 126
escape_small [] b n all h = cc
escape_small (row ∷ rows) b n all h = constant_by (row.0 == b) row.1 n (value_at rows b) (λ e. all.0) (escape_small rows b n all.1) h

all_small : Small escapes
all_small = (omega arith, (omega arith, (omega arith, (omega arith, (omega arith, (omega arith, (omega arith, tt)))))))

plain_small : (a b : ℕ) → (is_constant_byte a && b == 39) ≡ true → a ≤ 126
plain_small a b h = leb-true a 126 (and_parts _ _ (and_parts _ _ (and_parts _ _ (and_parts _ _ h).0).0).0).1

escaped_small : (v : Bool) (b n : ℕ) → (if v then value_at escapes b else None) ≡ Some n → n ≤ 126
escaped_small true b n h = escape_small escapes b n all_small h
escaped_small false b n h = cc

constant_small : (bs : List ℕ) (n : ℕ) → constant_value bs ≡ Some n → n ≤ 126
unfolding constant_value
constant_small [] n h = cc
constant_small (a ∷ []) n h = cc
constant_small (a ∷ b ∷ []) n h = constant_by (is_constant_byte a && b == 39) a n None (plain_small a b) (λ e. cc) h
constant_small (a ∷ b ∷ c ∷ []) n h = escaped_small (a == 92 && c == 39) b n h
constant_small (a ∷ b ∷ c ∷ d ∷ bs) n h = cc

constant_has : (o : Option ℕ) → ((n : ℕ) → o ≡ Some n → n ≤ 126) → HasValue (constant_kind o)
constant_has None h = tt
constant_has (Some n) h = small_value n (h n refl)

word_has : (v : Bool) → HasValue (if v then Foreign else Word)
word_has true = tt
word_has false = tt

mark_has : (v : Bool) → HasValue (if v then Foreign else Mark)
mark_has true = tt
mark_has false = tt

some_has : (k kind : TokenKind) → HasValue k → Some k ≡ Some kind → HasValue kind
some_has k kind h e = let s : k ≡ kind = cc in rw (← s) h

kind_by : (v : Bool) (x y : Option TokenKind) (kind : TokenKind) → (x ≡ Some kind → HasValue kind) → (y ≡ Some kind → HasValue kind) → (if v then x else y) ≡ Some kind → HasValue kind
kind_by true x y kind f g h = f h
kind_by false x y kind f g h = g h

pub token_has : (text : List ℕ) (kind : TokenKind) → token_kind text ≡ Some kind → HasValue kind
unfolding token_kind
token_has [] kind h = some_has Foreign kind tt h
token_has (b ∷ bs) kind h =
    kind_by _ _ _ kind (some_has (word_kind (b ∷ bs)) kind (word_has (is_foreign_word (b ∷ bs))))
    (kind_by _ _ _ kind (number_has (b ∷ bs) kind)
    (kind_by _ _ _ kind (some_has (constant_kind (constant_value bs)) kind (constant_has (constant_value bs) (constant_small bs)))
    (kind_by _ _ _ kind (some_has Foreign kind tt) (some_has (mark_kind (b ∷ bs)) kind (mark_has (is_among foreign_marks (b ∷ bs))))))) h

-- What each form's scan finds is the longest of its form.
use Rattle.std.proofs.Common.{◌≡◌, ℕ, zero, suc, ◌+◌, ◌<◌, ◌≤◌, Bool, true, false, List, [], ◌∷◌, length, take, refl, arith, length-take, drop, get_or, ◌-◌, eq-eqb, ◌∙◌, sym}
use Rattle.std.specs.Prelude.{Option, Some, None, option_map, is_some, ◌&&◌, ◌==◌, if◌then◌else◌}
use Rattle.std.specs.List.{list_all, prefix_len}
use Rattle.std.proofs.lemmas.Bool.{and_parts, ne_eqb}
use Rattle.std.proofs.lemmas.List.{take_rest}
use Rattle.std.proofs.Math.Numerals.{one-add}
use Rattle.c_lex.specs.Bytes.{is_one_of, is_letter, is_digit, continues_word, continues_number, is_constant_byte, is_escaped_byte, is_string_byte, is_in_line}
use Rattle.c_lex.specs.Forms.{is_token, is_header, ends_token, greatest, ends_string, ends_header, is_empty, is_mark, constant_value, single_marks, is_double_mark, is_triple_mark, escapes, value_at}
use Rattle.c_lex.proofs.Longest.{picks_prefix, same_longest, longest_first}
use Rattle.c_lex.specs.Scans.{Picks, PicksNone, PicksLongest, constant_length, escape_length, string_length, header_length, mark_length}

-- a test that one byte goes on with another test
module _ (q r : List ℕ → Bool) (b : ℕ) (bs : List ℕ) (goes : (xs : List ℕ) → q (b ∷ xs) ≡ r xs) (nothing : q [] ≡ false) where
  more_beyond : (n : ℕ) → ((m : ℕ) → n < m → m ≤ length bs → r (take m bs) ≡ false) → (m : ℕ) → suc n < m → m ≤ length (b ∷ bs) → q (take m (b ∷ bs)) ≡ false
  more_beyond n beyond zero low high = absurd (omega arith)
  more_beyond n beyond (suc m) low high = goes (take m bs) ∙ beyond m (omega arith) (omega arith)

  more_none : PicksNone r bs → (m : ℕ) → m ≤ length (b ∷ bs) → q (take m (b ∷ bs)) ≡ false
  more_none p zero high = nothing
  more_none p (suc m) high = goes (take m bs) ∙ p.none m (omega arith)

  pub goes_on : (o : Option ℕ) → PicksLongest r bs o → PicksLongest q (b ∷ bs) (option_map suc o)
  goes_on None p = record { none = more_none p }
  goes_on (Some n) p = let within = p.within in record { within = omega arith; passes = goes (take n bs) ∙ p.passes; beyond = more_beyond n p.beyond }

-- a test that one byte ends
module _ (q : List ℕ → Bool) (b : ℕ) (bs : List ℕ) (nothing : q [] ≡ false) where
  stop_none : ((xs : List ℕ) → q (b ∷ xs) ≡ false) → (m : ℕ) → q (take m (b ∷ bs)) ≡ false
  stop_none e zero = nothing
  stop_none e (suc m) = e (take m bs)

  pub stops_none : ((xs : List ℕ) → q (b ∷ xs) ≡ false) → PicksLongest q (b ∷ bs) None
  stops_none e = record { none = λ m high. stop_none e m }

  empty_beyond : (xs : List ℕ) (m : ℕ) → 0 < m → m ≤ length xs → is_empty (take m xs) ≡ false
  empty_beyond xs zero low high = absurd (omega arith)
  empty_beyond [] (suc m) low high = absurd (omega arith)
  empty_beyond (x ∷ xs) (suc m) low high = refl

  end_beyond : ((xs : List ℕ) → q (b ∷ xs) ≡ is_empty xs) → (m : ℕ) → 1 < m → m ≤ length (b ∷ bs) → q (take m (b ∷ bs)) ≡ false
  end_beyond e zero low high = absurd (omega arith)
  end_beyond e (suc m) low high = e (take m bs) ∙ empty_beyond bs m (omega arith) (omega arith)

  pub ends_here : ((xs : List ℕ) → q (b ∷ xs) ≡ is_empty xs) → PicksLongest q (b ∷ bs) (Some 1)
  ends_here e = record { within = omega arith; passes = e []; beyond = end_beyond e }

empty_none : (q : List ℕ → Bool) → q [] ≡ false → (m : ℕ) → q (take m []) ≡ false
empty_none q e zero = e
empty_none q e (suc m) = e

pub picks_nothing : (q : List ℕ → Bool) → q [] ≡ false → PicksLongest q [] None
picks_nothing q e = record { none = λ m high. empty_none q e m }

-- ---- strings

string_escaped : (b : ℕ) (bs : List ℕ) → PicksLongest (ends_string false) bs (string_length false bs) → (v : Bool) → is_escaped_byte b ≡ v
    → PicksLongest (ends_string true) (b ∷ bs) (if v then option_map suc (string_length false bs) else None)
unfolding ends_string
string_escaped b bs h true e = goes_on (ends_string true) (ends_string false) b bs (λ xs. rw e refl) refl (string_length false bs) h
string_escaped b bs h false e = stops_none (ends_string true) b bs refl (λ xs. rw e refl)

string_plain : (b : ℕ) (bs : List ℕ) → PicksLongest (ends_string true) bs (string_length true bs) → PicksLongest (ends_string false) bs (string_length false bs)
    → (u v w : Bool) → (b == 34) ≡ u → (b == 92) ≡ v → is_string_byte b ≡ w
    → PicksLongest (ends_string false) (b ∷ bs) (if u then Some 1 else (if v then option_map suc (string_length true bs) else (if w then option_map suc (string_length false bs) else None)))
unfolding ends_string
string_plain b bs g h true v w e f k = ends_here (ends_string false) b bs refl (λ xs. rw e refl)
string_plain b bs g h false true w e f k = goes_on (ends_string false) (ends_string true) b bs (λ xs. rw (e, f) refl) refl (string_length true bs) g
string_plain b bs g h false false true e f k = goes_on (ends_string false) (ends_string false) b bs (λ xs. rw (k, e, f) refl) refl (string_length false bs) h
string_plain b bs g h false false false e f k = stops_none (ends_string false) b bs refl (λ xs. rw (k, e, f) refl)

pub string_longest : (escaped : Bool) (bs : List ℕ) → PicksLongest (ends_string escaped) bs (string_length escaped bs)
unfolding string_length ends_string
string_longest true [] = picks_nothing (ends_string true) refl
string_longest false [] = picks_nothing (ends_string false) refl
string_longest true (b ∷ bs) = string_escaped b bs (string_longest false bs) (is_escaped_byte b) refl
string_longest false (b ∷ bs) = string_plain b bs (string_longest true bs) (string_longest false bs) (b == 34) (b == 92) (is_string_byte b) refl refl refl

-- ---- the names of headers

header_more : (b : ℕ) (bs : List ℕ) → PicksLongest ends_header bs (header_length bs) → (u v : Bool) → (b == 62) ≡ u → is_in_line b ≡ v
    → PicksLongest ends_header (b ∷ bs) (if u then Some 1 else (if v then option_map suc (header_length bs) else None))
unfolding ends_header
header_more b bs h true v e f = ends_here ends_header b bs refl (λ xs. rw e refl)
header_more b bs h false true e f = goes_on ends_header ends_header b bs (λ xs. rw (e, f) refl) refl (header_length bs) h
header_more b bs h false false e f = stops_none ends_header b bs refl (λ xs. rw (e, f) refl)

pub header_longest : (bs : List ℕ) → PicksLongest ends_header bs (header_length bs)
unfolding header_length ends_header
header_longest [] = picks_nothing ends_header refl
header_longest (b ∷ bs) = header_more b bs (header_longest bs) (b == 62) (is_in_line b) refl refl

-- ---- character constants

no_long_constant : (bs : List ℕ) → 4 ≤ length bs → is_some (constant_value bs) ≡ false
unfolding constant_value
no_long_constant [] h = refl
no_long_constant (a ∷ []) h = refl
no_long_constant (a ∷ b ∷ []) h = absurd (omega arith)
no_long_constant (a ∷ b ∷ c ∷ []) h = absurd (omega arith)
no_long_constant (a ∷ b ∷ c ∷ d ∷ bs) h = refl

no_escape : (a : ℕ) → is_constant_byte a ≡ true → (a == 92) ≡ false
no_escape a h = grind (arith, and_parts)

constant_two : (a b : ℕ) (bs : List ℕ) → (is_constant_byte a && b == 39) ≡ true → (m : ℕ) → 2 < m → m ≤ length (a ∷ b ∷ bs) → is_some (constant_value (take m (a ∷ b ∷ bs))) ≡ false
unfolding constant_value
constant_two a b bs e zero low high = absurd (omega arith)
constant_two a b bs e (suc zero) low high = absurd (omega arith)
constant_two a b bs e (suc (suc zero)) low high = absurd (omega arith)
constant_two a b [] e (suc (suc (suc m))) low high = absurd (omega arith)
constant_two a b (c ∷ cs) e (suc (suc (suc zero))) low high = rw (no_escape a (and_parts _ _ e).0) refl
constant_two a b (c ∷ []) e (suc (suc (suc (suc m)))) low high = absurd (omega arith)
constant_two a b (c ∷ d ∷ ds) e (suc (suc (suc (suc m)))) low high = refl

constant_three : (a b c : ℕ) (cs : List ℕ) → (m : ℕ) → 3 < m → m ≤ length (a ∷ b ∷ c ∷ cs) → is_some (constant_value (take m (a ∷ b ∷ c ∷ cs))) ≡ false
unfolding constant_value
constant_three a b c cs zero low high = absurd (omega arith)
constant_three a b c cs (suc zero) low high = absurd (omega arith)
constant_three a b c cs (suc (suc zero)) low high = absurd (omega arith)
constant_three a b c cs (suc (suc (suc zero))) low high = absurd (omega arith)
constant_three a b c [] (suc (suc (suc (suc m)))) low high = absurd (omega arith)
constant_three a b c (d ∷ ds) (suc (suc (suc (suc m)))) low high = refl

escape_by : (v : Bool) (z : Option ℕ) → ◌≡◌ {A = Option ℕ} (if v && is_some z then Some 3 else None) None → is_some (if v then z else None) ≡ false
escape_by false z h = refl
escape_by true None h = refl
escape_by true (Some x) h = cc

escape_three : (v : Bool) (z : Option ℕ) → (v && is_some z) ≡ true → is_some (if v then z else None) ≡ true
escape_three false z h = h
escape_three true z h = h

constant_none : (a b : ℕ) (bs : List ℕ) → (is_constant_byte a && b == 39) ≡ false → escape_length a b bs ≡ None → (m : ℕ) → m ≤ length (a ∷ b ∷ bs)
    → is_some (constant_value (take m (a ∷ b ∷ bs))) ≡ false
unfolding constant_value
constant_none a b bs e f zero high = refl
constant_none a b bs e f (suc zero) high = refl
constant_none a b bs e f (suc (suc zero)) high = rw e refl
constant_none a b [] e f (suc (suc (suc m))) high = absurd (omega arith)
constant_none a b (c ∷ cs) e f (suc (suc (suc zero))) high = escape_by (a == 92 && c == 39) (value_at escapes b) f
constant_none a b (c ∷ cs) e f (suc (suc (suc (suc m)))) high = constant_three a b c cs (suc (suc (suc (suc m)))) (omega arith) high

constant_escape : (a b c : ℕ) (cs : List ℕ) (v : Bool) → (is_constant_byte a && b == 39) ≡ false → (a == 92 && c == 39 && is_some (value_at escapes b)) ≡ v
    → PicksLongest (λ xs. is_some (constant_value xs)) (a ∷ b ∷ c ∷ cs) (if v then Some 3 else None)
unfolding constant_value
constant_escape a b c cs true e f = record {
  within = omega arith;
  passes = escape_three (a == 92 && c == 39) (value_at escapes b) f;
  beyond = constant_three a b c cs;
}
constant_escape a b c cs false e f = record { none = constant_none a b (c ∷ cs) e (rw f refl) }

constant_by : (a b : ℕ) (bs : List ℕ) (v : Bool) → (is_constant_byte a && b == 39) ≡ v
    → PicksLongest (λ xs. is_some (constant_value xs)) (a ∷ b ∷ bs) (if v then Some 2 else escape_length a b bs)
unfolding constant_value
constant_by a b bs true e = record { within = omega arith; passes = rw e refl; beyond = constant_two a b bs e }
constant_by a b [] false e = record { none = constant_none a b [] e refl }
constant_by a b (c ∷ cs) false e = constant_escape a b c cs (a == 92 && c == 39 && is_some (value_at escapes b)) e refl

one_none : (a m : ℕ) → m ≤ 1 → is_some (constant_value (take m (a ∷ []))) ≡ false
unfolding constant_value
one_none a zero high = refl
one_none a (suc zero) high = refl
one_none a (suc (suc m)) high = absurd (omega arith)

pub constant_longest : (bs : List ℕ) → PicksLongest (λ xs. is_some (constant_value xs)) bs (constant_length bs)
unfolding constant_value constant_length
constant_longest [] = picks_nothing (λ xs. is_some (constant_value xs)) refl
constant_longest (a ∷ []) = record { none = one_none a }
constant_longest (a ∷ b ∷ bs) = constant_by a b bs (is_constant_byte a && b == 39) refl

-- ---- marks

no_long_mark : (a : ℕ) (bs : List ℕ) → 3 ≤ length bs → is_mark (a ∷ bs) ≡ false
unfolding is_mark
no_long_mark a [] h = absurd (omega arith)
no_long_mark a (b ∷ []) h = absurd (omega arith)
no_long_mark a (b ∷ c ∷ []) h = absurd (omega arith)
no_long_mark a (b ∷ c ∷ d ∷ bs) h = refl

long_mark : (a : ℕ) (bs : List ℕ) (m : ℕ) → 3 ≤ m → m ≤ length bs → is_mark (a ∷ take m bs) ≡ false
long_mark a bs m low high = no_long_mark a (take m bs) (simp length-take (omega arith))

mark_triple_beyond : (a b c : ℕ) (cs : List ℕ) (m : ℕ) → 2 < m → m ≤ length (b ∷ c ∷ cs) → is_mark (a ∷ take m (b ∷ c ∷ cs)) ≡ false
mark_triple_beyond a b c cs m low high = long_mark a (b ∷ c ∷ cs) m (omega arith) high

mark_double_beyond : (a b c : ℕ) (cs : List ℕ) → is_triple_mark a b c ≡ false → (m : ℕ) → 1 < m → m ≤ length (b ∷ c ∷ cs) → is_mark (a ∷ take m (b ∷ c ∷ cs)) ≡ false
unfolding is_mark
mark_double_beyond a b c cs e zero low high = absurd (omega arith)
mark_double_beyond a b c cs e (suc zero) low high = absurd (omega arith)
mark_double_beyond a b c cs e (suc (suc zero)) low high = e
mark_double_beyond a b c cs e (suc (suc (suc m))) low high = long_mark a (b ∷ c ∷ cs) (suc (suc (suc m))) (omega arith) high

mark_single_beyond : (a b c : ℕ) (cs : List ℕ) → is_triple_mark a b c ≡ false → is_double_mark a b ≡ false → (m : ℕ) → 0 < m → m ≤ length (b ∷ c ∷ cs)
    → is_mark (a ∷ take m (b ∷ c ∷ cs)) ≡ false
unfolding is_mark
mark_single_beyond a b c cs e f zero low high = absurd (omega arith)
mark_single_beyond a b c cs e f (suc zero) low high = f
mark_single_beyond a b c cs e f (suc (suc m)) low high = mark_double_beyond a b c cs e (suc (suc m)) (omega arith) high

mark_none : (a b c : ℕ) (cs : List ℕ) → is_triple_mark a b c ≡ false → is_double_mark a b ≡ false → is_one_of single_marks a ≡ false → (m : ℕ) → m ≤ length (b ∷ c ∷ cs)
    → is_mark (a ∷ take m (b ∷ c ∷ cs)) ≡ false
unfolding is_mark
mark_none a b c cs e f g zero high = g
mark_none a b c cs e f g (suc m) high = mark_single_beyond a b c cs e f (suc m) (omega arith) high

mark_three : (a b c : ℕ) (cs : List ℕ) (u v w : Bool) → is_triple_mark a b c ≡ u → is_double_mark a b ≡ v → is_one_of single_marks a ≡ w
    → PicksLongest (λ xs. is_mark (a ∷ xs)) (b ∷ c ∷ cs) (if u then Some 2 else (if v then Some 1 else (if w then Some 0 else None)))
unfolding is_mark
mark_three a b c cs true v w e f g = record { within = omega arith; passes = e; beyond = mark_triple_beyond a b c cs }
mark_three a b c cs false true w e f g = record { within = omega arith; passes = f; beyond = mark_double_beyond a b c cs e }
mark_three a b c cs false false true e f g = record { within = omega arith; passes = g; beyond = mark_single_beyond a b c cs e f }
mark_three a b c cs false false false e f g = record { none = mark_none a b c cs e f g }

mark_two_none : (a b : ℕ) → is_double_mark a b ≡ false → is_one_of single_marks a ≡ false → (m : ℕ) → m ≤ 1 → is_mark (a ∷ take m (b ∷ [])) ≡ false
unfolding is_mark
mark_two_none a b f g zero high = g
mark_two_none a b f g (suc zero) high = f
mark_two_none a b f g (suc (suc m)) high = absurd (omega arith)

mark_two_beyond : (a b : ℕ) → is_double_mark a b ≡ false → (m : ℕ) → 0 < m → m ≤ 1 → is_mark (a ∷ take m (b ∷ [])) ≡ false
unfolding is_mark
mark_two_beyond a b f zero low high = absurd (omega arith)
mark_two_beyond a b f (suc zero) low high = f
mark_two_beyond a b f (suc (suc m)) low high = absurd (omega arith)

mark_two : (a b : ℕ) (v w : Bool) → is_double_mark a b ≡ v → is_one_of single_marks a ≡ w
    → PicksLongest (λ xs. is_mark (a ∷ xs)) (b ∷ []) (if v then Some 1 else (if w then Some 0 else None))
unfolding is_mark
mark_two a b true w f g = record { within = omega arith; passes = f; beyond = λ m low high. absurd (omega arith) }
mark_two a b false true f g = record { within = omega arith; passes = g; beyond = mark_two_beyond a b f }
mark_two a b false false f g = record { none = mark_two_none a b f g }

mark_one_none : (a : ℕ) → is_one_of single_marks a ≡ false → (m : ℕ) → is_mark (a ∷ take m []) ≡ false
unfolding is_mark
mark_one_none a g zero = g
mark_one_none a g (suc m) = g

mark_one : (a : ℕ) (w : Bool) → is_one_of single_marks a ≡ w → PicksLongest (λ xs. is_mark (a ∷ xs)) [] (if w then Some 0 else None)
unfolding is_mark
mark_one a true g = record { within = omega arith; passes = g; beyond = λ m low high. absurd (omega arith) }
mark_one a false g = record { none = λ m high. mark_one_none a g m }

pub mark_longest : (a : ℕ) (bs : List ℕ) → PicksLongest (λ xs. is_mark (a ∷ xs)) bs (mark_length a bs)
unfolding mark_length
mark_longest a [] = mark_one a (is_one_of single_marks a) refl
mark_longest a (b ∷ []) = mark_two a b (is_double_mark a b) (is_one_of single_marks a) refl refl
mark_longest a (b ∷ c ∷ cs) = mark_three a b c cs (is_triple_mark a b c) (is_double_mark a b) (is_one_of single_marks a) refl refl refl

-- ---- each form by its first byte

module _ (b : ℕ) (bs : List ℕ) where
  pub rest_word : (n : ℕ) (u : Bool) → u ≡ is_letter b → u ≡ true → n ≡ prefix_len continues_word bs → PicksLongest (ends_token b) bs (Some n)
  unfolding ends_token
  rest_word n u e t f =
      let letter : is_letter b ≡ true = sym e ∙ t in
      rw f (same_longest (list_all continues_word) (ends_token b) bs (Some (prefix_len continues_word bs)) (λ xs. rw letter refl) (picks_prefix continues_word bs))

  pub rest_number : (n : ℕ) (u v : Bool) → u ≡ is_letter b → u ≡ false → v ≡ is_digit b → v ≡ true → n ≡ prefix_len continues_number bs → PicksLongest (ends_token b) bs (Some n)
  unfolding ends_token
  rest_number n u v e t f g k =
      let letter : is_letter b ≡ false = sym e ∙ t in
      let digit : is_digit b ≡ true = sym f ∙ g in
      rw k (same_longest (list_all continues_number) (ends_token b) bs (Some (prefix_len continues_number bs)) (λ xs. rw (letter, digit) refl) (picks_prefix continues_number bs))

  pub rest_constant : (r : Option ℕ) (u v : Bool) → u ≡ is_letter b → u ≡ false → v ≡ is_digit b → v ≡ false → b ≡ 39 → r ≡ constant_length bs → PicksLongest (ends_token b) bs r
  unfolding ends_token
  rest_constant r u v e t f g q k =
      let letter : is_letter b ≡ false = sym e ∙ t in
      let digit : is_digit b ≡ false = sym f ∙ g in
      rw k (same_longest (λ xs. is_some (constant_value xs)) (ends_token b) bs (constant_length bs) (λ xs. rw (letter, digit, eq-eqb b 39 q) refl) (constant_longest bs))

  pub rest_string : (r : Option ℕ) (u v : Bool) → u ≡ is_letter b → u ≡ false → v ≡ is_digit b → v ≡ false → (b ≡ 39 → ⊥) → b ≡ 34 → r ≡ string_length false bs → PicksLongest (ends_token b) bs r
  unfolding ends_token
  rest_string r u v e t f g q p k =
      let letter : is_letter b ≡ false = sym e ∙ t in
      let digit : is_digit b ≡ false = sym f ∙ g in
      rw k (same_longest (ends_string false) (ends_token b) bs (string_length false bs) (λ xs. rw (letter, digit, ne_eqb b 39 q, eq-eqb b 34 p) refl) (string_longest false bs))

  pub rest_mark : (r : Option ℕ) (u v : Bool) → u ≡ is_letter b → u ≡ false → v ≡ is_digit b → v ≡ false → (b ≡ 39 → ⊥) → (b ≡ 34 → ⊥) → r ≡ mark_length b bs → PicksLongest (ends_token b) bs r
  unfolding ends_token
  rest_mark r u v e t f g q p k =
      let letter : is_letter b ≡ false = sym e ∙ t in
      let digit : is_digit b ≡ false = sym f ∙ g in
      rw k (same_longest (λ xs. is_mark (b ∷ xs)) (ends_token b) bs (mark_length b bs) (λ xs. rw (letter, digit, ne_eqb b 39 q, ne_eqb b 34 p) refl) (mark_longest b bs))

-- ---- the longest token, and the longest name of a header

module _ (is : List ℕ → Bool) where
  pub nothing_longest : (text : List ℕ) → length text < 1 → None ≡ greatest (λ n. is (take n text)) (length text)
  unfolding greatest
  nothing_longest [] h = refl
  nothing_longest (b ∷ bs) h = absurd (omega arith)

  -- what follows the first byte
  pub first_longest : (rest : ℕ → List ℕ → Bool) → ((b : ℕ) (xs : List ℕ) → is (b ∷ xs) ≡ rest b xs) → (text : List ℕ) → 1 ≤ length text → (r : Option ℕ)
      → PicksLongest (rest (get_or text 0 0)) (take (length text - 1) (drop 1 text)) r → option_map suc r ≡ greatest (λ n. is (take n text)) (length text)
  first_longest rest form [] h r p = absurd (omega arith)
  first_longest rest form (b ∷ bs) h r p =
      sym (longest_first is (rest b) b bs (form b) r (rw (take_rest (b ∷ bs) 1) at p))

token_form : (b : ℕ) (xs : List ℕ) → is_token (b ∷ xs) ≡ ends_token b xs
unfolding is_token
token_form b xs = refl

header_rest : ℕ → List ℕ → Bool
header_rest b xs = b == 60 && ends_header xs

header_form : (b : ℕ) (xs : List ℕ) → is_header (b ∷ xs) ≡ header_rest b xs
unfolding is_header header_rest
header_form b xs = refl

module _ (text : List ℕ) (some : 1 ≤ length text) where
  pub token_some : (n : ℕ) → Picks (ends_token (get_or text 0 0)) (take (length text - 1) (drop 1 text)) n → Some (1 + n) ≡ greatest (λ k. is_token (take k text)) (length text)
  token_some n p = rw one-add (first_longest is_token ends_token token_form text some (Some n) p)

  pub token_none : PicksNone (ends_token (get_or text 0 0)) (take (length text - 1) (drop 1 text)) → None ≡ greatest (λ k. is_token (take k text)) (length text)
  token_none p = first_longest is_token ends_token token_form text some None p

  pub header_some : (n : ℕ) → get_or text 0 0 ≡ 60 → Picks ends_header (take (length text - 1) (drop 1 text)) n → Some (1 + n) ≡ greatest (λ k. is_header (take k text)) (length text)
  unfolding header_rest
  header_some n e p =
      rw one-add (first_longest is_header header_rest header_form text some (Some n) (same_longest ends_header (header_rest (get_or text 0 0)) _ (Some n) (λ xs. rw (eq-eqb (get_or text 0 0) 60 e) refl) p))

  pub header_none : get_or text 0 0 ≡ 60 → PicksNone ends_header (take (length text - 1) (drop 1 text)) → None ≡ greatest (λ k. is_header (take k text)) (length text)
  unfolding header_rest
  header_none e p =
      first_longest is_header header_rest header_form text some None (same_longest ends_header (header_rest (get_or text 0 0)) _ None (λ xs. rw (eq-eqb (get_or text 0 0) 60 e) refl) p)

  pub header_other : (get_or text 0 0 ≡ 60 → ⊥) → None ≡ greatest (λ k. is_header (take k text)) (length text)
  unfolding header_rest
  header_other n = first_longest is_header header_rest header_form text some None (record { none = λ m high. rw (ne_eqb (get_or text 0 0) 60 n) refl })

-- What begins a text has one byte at least, and no more than the text.
use Rattle.std.proofs.Common.{◌≡◌, ℕ, suc, ◌<◌, ◌≤◌, Bool, true, false, List, [], ◌∷◌, length, length-drop, drop, refl, arith}
use Rattle.std.specs.Prelude.{Option, Some, None, if◌then◌else◌, ◌==◌, nat_le}
use Rattle.std.specs.List.{prefix_len}
use Rattle.std.proofs.lemmas.List.Sums.{prefix_len-le-length}
use Rattle.fql_tokens.specs.declared.token.Mark.{Mark}
use Rattle.fql_tokens.specs.declared.token.FilterName.{FilterName}
use Rattle.fql_tokens.specs.declared.token.Sign.{Sign}
use Rattle.fql_tokens.specs.declared.first.Mode.{Mode}
use Rattle.fql_tokens.specs.declared.first.Mode.TheVariants as modes
use Rattle.fql_tokens.specs.declared.first.Beginning.{Beginning}
use Rattle.fql_tokens.specs.declared.first.Beginning.TheVariants as begins
use Rattle.fql_tokens.specs.Bytes.{is_blank, is_letter, is_digit, continues_word, is_predicate_byte, is_file_byte}
use Rattle.fql_tokens.specs.Spelling.{single_mark, double_mark}
use Rattle.fql_tokens.specs.First.{starts, word_at, number_at, filter_or_none, filter_at, predicate_at, file_at, mark_or_none, double_mark_at, or_double, names_file, beginning}

abbrev pub Fits : ℕ → Beginning → Type 0
Fits most begins.End = Unit {0}
Fits most begins.Blank = 1 ≤ most
Fits most (begins.Token s n) = (1 ≤ n) × (n ≤ most)
Fits most begins.Unknown = Unit {0}

either : (v : Bool) (x y : Beginning) (most : ℕ) → (v ≡ true → Fits most x) → (v ≡ false → Fits most y) → Fits most (if v then x else y)
either true x y most f g = f refl
either false x y most f g = g refl

run_some : (p : ℕ → Bool) (b : ℕ) (bs : List ℕ) → p b ≡ true → 1 ≤ prefix_len p (b ∷ bs)
run_some p b bs h = rw h (omega arith)

run_fits : (p : ℕ → Bool) (b : ℕ) (bs : List ℕ) → p b ≡ true → (1 ≤ prefix_len p (b ∷ bs)) × (prefix_len p (b ∷ bs) ≤ length (b ∷ bs))
run_fits p b bs h = (run_some p b bs h, prefix_len-le-length p (b ∷ bs))

letter_continues : (b : ℕ) → is_letter b ≡ true → continues_word b ≡ true
letter_continues b h = rw h refl

word_fits : (b : ℕ) (bs : List ℕ) → is_letter b ≡ true → Fits (length (b ∷ bs)) (word_at (b ∷ bs))
unfolding word_at
word_fits b bs h = run_fits continues_word b bs (letter_continues b h)

number_fits : (b : ℕ) (bs : List ℕ) → is_digit b ≡ true → Fits (length (b ∷ bs)) (number_at (b ∷ bs))
unfolding number_at
number_fits b bs h =
    either (nat_le (prefix_len is_digit (b ∷ bs)) 9) _ _ _ (λ _. run_fits is_digit b bs h) (λ _. tt)

filter_by : (o : Option FilterName) (n most : ℕ) → n ≤ most → Fits (suc most) (filter_or_none o n)
filter_by None n most h = tt
filter_by (Some f) n most h = (omega arith, omega arith)

filter_fits : (b : ℕ) (bs : List ℕ) → Fits (length (b ∷ bs)) (filter_at bs)
unfolding filter_at
filter_fits b bs = filter_by _ (prefix_len continues_word bs) (length bs) (prefix_len-le-length continues_word bs)

some_left : (a : ℕ) (xs : List ℕ) → starts a xs ≡ true → 0 < length xs
some_left a [] h = absurd cc
some_left a (x ∷ xs) h = omega arith

predicate_fits : (b : ℕ) (bs : List ℕ) → Fits (length (b ∷ bs)) (predicate_at bs)
unfolding predicate_at
predicate_fits b bs =
    let n = prefix_len is_predicate_byte bs in
    either (starts 125 (drop (prefix_len is_predicate_byte bs) bs)) _ _ _
    (λ h. (omega arith, omega (arith, some_left 125 (drop (prefix_len is_predicate_byte bs) bs) h, length-drop (prefix_len is_predicate_byte bs) bs)))
    (λ _. tt)

is_named : (m : Mode) (v : Bool) → names_file m v ≡ true → v ≡ true
is_named modes.Plain v h = absurd cc
is_named modes.FileFilter v h = absurd cc
is_named modes.FileName v h = h

file_fits : (b : ℕ) (bs : List ℕ) → is_file_byte b ≡ true → Fits (length (b ∷ bs)) (file_at (b ∷ bs))
unfolding file_at
file_fits b bs h = run_fits is_file_byte b bs h

double_by : (o : Option Mark) (most : ℕ) → 2 ≤ most → Fits most (mark_or_none o 2)
double_by None most h = tt
double_by (Some m) most h = (omega arith, h)

double_fits : (bs : List ℕ) → Fits (length bs) (double_mark_at bs)
double_fits [] = tt
double_fits (a ∷ []) = tt
double_fits (a ∷ b ∷ bs) = double_by (double_mark a b) (length (a ∷ b ∷ bs)) (omega arith)

mark_fits : (o : Option Mark) (b : ℕ) (bs : List ℕ) → Fits (length (b ∷ bs)) (or_double o (b ∷ bs))
mark_fits None b bs = double_fits (b ∷ bs)
mark_fits (Some m) b bs = (omega arith, omega arith)

pub beginning_fits : (m : Mode) (bs : List ℕ) → Fits (length bs) (beginning m bs)
unfolding beginning
beginning_fits m [] = tt
beginning_fits m (b ∷ bs) =
    either (is_blank b) _ _ _ (λ _. omega arith)
    (λ _. either (names_file m (is_file_byte b)) _ _ _ (λ h. file_fits b bs (is_named m _ h))
    (λ _. either (is_letter b) _ _ _ (λ h. word_fits b bs h)
    (λ _. either (is_digit b) _ _ _ (λ h. number_fits b bs h)
    (λ _. either (b == 64) _ _ _ (λ _. filter_fits b bs)
    (λ _. either (b == 123) _ _ _ (λ _. predicate_fits b bs)
    (λ _. mark_fits (single_mark b) b bs))))))

-- a token
pub token_fits : (m : Mode) (bs : List ℕ) (s : Sign) (n : ℕ) → beginning m bs ≡ begins.Token s n → (1 ≤ n) × (n ≤ length bs)
token_fits m bs s n e = let h = beginning_fits m bs in rw e at h

pub blank_fits : (m : Mode) (bs : List ℕ) → beginning m bs ≡ begins.Blank → 1 ≤ length bs
blank_fits m bs e = let h = beginning_fits m bs in rw e at h

-- nothing begins an empty text
pub empty_ends : (m : Mode) → beginning m [] ≡ begins.End
unfolding beginning
empty_ends m = refl

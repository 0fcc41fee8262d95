-- The bits of numbers, and the worlds that are made of them.
use Rattle.std.proofs.Common.{◌≡◌, ℕ, zero, suc, ◌+◌, ◌*◌, ◌/◌, ◌%◌, ◌^◌, ◌<◌, ◌≤◌, Bool, true, false, cond, List, [], ◌∷◌, ◌++◌, length, get_or, take, drop, refl, sym, ap, ◌∙◌, length-append, length-drop, arith}
use Rattle.std.specs.Prelude.{◌==◌, All, slice_index}
use Rattle.std.specs.Int.{bit_at}
use Rattle.std.proofs.lemmas.List.{length-take, length-take-le, take-append-drop, take_all}
use Rattle.std.proofs.lemmas.List.Sums.{sum_by-cons}
use Rattle.std.proofs.lemmas.Nat.{pow_pos}
use Rattle.std.proofs.Math.Seq.{take-add}
use Rattle.std.proofs.lemmas.Nat.Bits.{bit_at-suc, bit_at_lowest}
use Rattle.std.proofs.Math.Nat.{pow-suc}
use Rattle.circuit.specs.Truth.{World}
use Rattle.c_values.specs.declared.kinds.Kind.{Kind}
use Rattle.c_values.specs.Kind.{IsKind}
use Rattle.c_values.proofs.Bits.{bit_at-wrapped, width_below}
use Rattle.c_meaning.specs.Starts.{fitted}
use Rattle.unwinder.specs.input_words.Laws.{EveryWorld, TruncatedAnswers, WorldLength}
use Rattle.unwinder.specs.input_words.Worlds.{answer_bits, argument_bits, low_bits, total_width}

-- ---- the bits of a number

pub length-low_bits : (count n : ℕ) → length (low_bits count n) ≡ count
unfolding low_bits
length-low_bits zero n = refl
length-low_bits (suc count) n = ap suc (length-low_bits count (n / 2))

pub get_or-low_bits : (count n k : ℕ) → k < count → get_or (low_bits count n) k false ≡ (bit_at n k == 1)
unfolding low_bits
get_or-low_bits zero n k h = absurd (omega arith)
get_or-low_bits (suc count) n zero h = ap (λ x. x == 1) (sym (bit_at_lowest n))
get_or-low_bits (suc count) n (suc k) h = get_or-low_bits count (n / 2) k (omega arith) ∙ ap (λ x. x == 1) (sym (bit_at-suc n k))

pub low_bits-same : (count m n : ℕ) → ((k : ℕ) → k < count → bit_at m k ≡ bit_at n k) → low_bits count m ≡ low_bits count n
unfolding low_bits
low_bits-same zero m n h = refl
low_bits-same (suc count) m n h =
    let first : m % 2 ≡ n % 2 = sym (bit_at_lowest m) ∙ h 0 (omega arith) ∙ bit_at_lowest n in
    let others = low_bits-same count (m / 2) (n / 2) (λ k lt. sym (bit_at-suc m k) ∙ h (suc k) (omega arith) ∙ bit_at-suc n k) in
    ap (λ x. (x == 1) ∷ low_bits count (m / 2)) first ∙ ap (λ bits. (n % 2 == 1) ∷ bits) others

-- what a kind has of a number has its lowest bits
pub low_bits-fitted : (kind : Kind) (n : ℕ) → IsKind kind → low_bits kind.width (fitted kind n) ≡ low_bits kind.width n
low_bits-fitted kind n h = low_bits-same kind.width (fitted kind n) n (λ k lt. bit_at-wrapped kind n k h lt)

-- the number of these bits, the lowest first
abbrev pub number_from : List Bool → ℕ
number_from [] = 0
number_from (b ∷ bits) = cond b 1 0 + 2 * number_from bits

pub low_bits-number_from : (bits : List Bool) → low_bits (length bits) (number_from bits) ≡ bits
unfolding low_bits
low_bits-number_from [] = refl
low_bits-number_from (true ∷ bits) =
    let n = number_from bits in
    let first : (1 + 2 * n) % 2 ≡ 1 = omega arith in
    let half : (1 + 2 * n) / 2 ≡ n = omega arith in
    ap (λ x. (x == 1) ∷ low_bits (length bits) ((1 + 2 * n) / 2)) first ∙ ap (λ x. true ∷ low_bits (length bits) x) half ∙ ap (λ xs. true ∷ xs) (low_bits-number_from bits)
low_bits-number_from (false ∷ bits) =
    let n = number_from bits in
    let first : (0 + 2 * n) % 2 ≡ 0 = omega arith in
    let half : (0 + 2 * n) / 2 ≡ n = omega arith in
    ap (λ x. (x == 1) ∷ low_bits (length bits) ((0 + 2 * n) / 2)) first ∙ ap (λ x. false ∷ low_bits (length bits) x) half ∙ ap (λ xs. false ∷ xs) (low_bits-number_from bits)

number_from-lt : (bits : List Bool) (n : ℕ) → length bits ≤ n → number_from bits < 2 ^ n
number_from-lt [] n h = pow_pos n
number_from-lt (b ∷ bits) zero h = absurd (omega arith)
number_from-lt (true ∷ bits) (suc n) h = let rest = number_from-lt bits n (omega arith) in omega (arith, pow-suc 2 n)
number_from-lt (false ∷ bits) (suc n) h = let rest = number_from-lt bits n (omega arith) in omega (arith, pow-suc 2 n)

-- ---- worlds

pub total_width-cons : (kind : Kind) (kinds : List Kind) → total_width (kind ∷ kinds) ≡ kind.width + total_width kinds
total_width-cons kind kinds = sum_by-cons (λ (k : Kind). k.width) kind kinds

pub length-argument_bits : (kinds : List Kind) (words : List ℕ) (at : ℕ) → length (argument_bits kinds words at) ≡ total_width kinds
length-argument_bits [] words at = refl
length-argument_bits (kind ∷ kinds) words at =
    let here = low_bits kind.width (fitted kind (slice_index words at)) in
    let rest = argument_bits kinds words (at + 1) in
    omega (arith, length-append here rest, length-low_bits kind.width (fitted kind (slice_index words at)), length-argument_bits kinds words (at + 1), total_width-cons kind kinds)

pub length-answer_bits : (count : ℕ) (answers : List ℕ) (at : ℕ) → length (answer_bits count answers at) ≡ 64 * count
length-answer_bits zero answers at = refl
length-answer_bits (suc count) answers at =
    let here = low_bits 64 (slice_index answers at) in
    let rest = answer_bits count answers (at + 1) in
    omega (arith, length-append here rest, length-low_bits 64 (slice_index answers at), length-answer_bits count answers (at + 1))

pub length-world_of : WorldLength
length-world_of parameters answers input =
    let front = argument_bits parameters input.words 0 in
    let back = answer_bits answers input.answers 0 in
    omega (arith, length-append front back, length-argument_bits parameters input.words 0, length-answer_bits answers input.answers 0)

answer_bits-same : (count : ℕ) (xs ys : List ℕ) (at : ℕ) → ((number : ℕ) → number < at + count → slice_index xs number ≡ slice_index ys number) → answer_bits count xs at ≡ answer_bits count ys at
answer_bits-same zero xs ys at h = refl
answer_bits-same (suc count) xs ys at h =
    ap (λ x. low_bits 64 x ++ answer_bits count xs (at + 1)) (h at (omega arith))
    ∙ ap (λ bits. low_bits 64 (slice_index ys at) ++ bits) (answer_bits-same count xs ys (at + 1) (λ number lt. h number (omega arith)))

pub world_of-same : TruncatedAnswers
world_of-same parameters answers input other words same =
    ap (λ xs. argument_bits parameters xs 0 ++ answer_bits answers input.answers 0) words
    ∙ ap (λ bits. argument_bits parameters other.words 0 ++ bits) (answer_bits-same answers input.answers other.answers 0 (λ number lt. same number (omega arith)))

-- ---- lists of words, the first one off

argument_bits-later : (kinds : List Kind) (word : ℕ) (words : List ℕ) (at next : ℕ) → next ≡ suc at → argument_bits kinds (word ∷ words) next ≡ argument_bits kinds words at
argument_bits-later [] word words at next e = refl
argument_bits-later (kind ∷ kinds) word words at next e =
    ap (λ n. low_bits kind.width (fitted kind (slice_index (word ∷ words) n)) ++ argument_bits kinds (word ∷ words) (next + 1)) e
    ∙ ap (λ bits. low_bits kind.width (fitted kind (slice_index words at)) ++ bits) (argument_bits-later kinds word words (at + 1) (next + 1) (omega arith))

pub argument_bits-cons : (kind : Kind) (kinds : List Kind) (word : ℕ) (words : List ℕ) → argument_bits (kind ∷ kinds) (word ∷ words) 0 ≡ low_bits kind.width (fitted kind word) ++ argument_bits kinds words 0
argument_bits-cons kind kinds word words = ap (λ bits. low_bits kind.width (fitted kind word) ++ bits) (argument_bits-later kinds word words 0 1 (omega arith))

answer_bits-later : (count answer : ℕ) (answers : List ℕ) (at next : ℕ) → next ≡ suc at → answer_bits count (answer ∷ answers) next ≡ answer_bits count answers at
answer_bits-later zero answer answers at next e = refl
answer_bits-later (suc count) answer answers at next e =
    ap (λ n. low_bits 64 (slice_index (answer ∷ answers) n) ++ answer_bits count (answer ∷ answers) (next + 1)) e
    ∙ ap (λ bits. low_bits 64 (slice_index answers at) ++ bits) (answer_bits-later count answer answers (at + 1) (next + 1) (omega arith))

pub answer_bits-cons : (count answer : ℕ) (answers : List ℕ) → answer_bits (suc count) (answer ∷ answers) 0 ≡ low_bits 64 answer ++ answer_bits count answers 0
answer_bits-cons count answer answers = ap (λ bits. low_bits 64 answer ++ bits) (answer_bits-later count answer answers 0 1 (omega arith))

-- ---- the input of a world

words_in : List Kind → World → List ℕ
words_in [] w = []
words_in (kind ∷ kinds) w = number_from (take kind.width w) ∷ words_in kinds (drop kind.width w)

answers_in : ℕ → World → List ℕ
answers_in zero w = []
answers_in (suc count) w = number_from (take 64 w) ∷ answers_in count (drop 64 w)

take_parts : (m n : ℕ) (w : World) → take m w ++ take n (drop m w) ≡ take (m + n) w
take_parts m n w = sym (take-add m n w)

-- the bits of the number of the first bits
taken_bits : (n : ℕ) (w : World) → n ≤ length w → low_bits n (number_from (take n w)) ≡ take n w
taken_bits n w h = ap (λ m. low_bits m (number_from (take n w))) (sym (length-take-le n w h)) ∙ low_bits-number_from (take n w)

argument_bits-words_in : (kinds : List Kind) (w : World) → All IsKind kinds → total_width kinds ≤ length w → argument_bits kinds (words_in kinds w) 0 ≡ take (total_width kinds) w
unfolding words_in
argument_bits-words_in [] w h le = refl
argument_bits-words_in (kind ∷ kinds) w h le =
    let all = total_width-cons kind kinds in
    let n = number_from (take kind.width w) in
    let rest = words_in kinds (drop kind.width w) in
    argument_bits-cons kind kinds n rest
    ∙ ap (λ bits. bits ++ argument_bits kinds rest 0) (low_bits-fitted kind n (h 0 kind (omega arith)) ∙ taken_bits kind.width w (omega arith))
    ∙ ap (λ bits. take kind.width w ++ bits) (argument_bits-words_in kinds (drop kind.width w) (λ k d lt. h (suc k) d (omega arith)) (omega (arith, length-drop kind.width w)))
    ∙ take_parts kind.width (total_width kinds) w
    ∙ ap (λ m. take m w) (sym all)

answer_bits-answers_in : (count : ℕ) (w : World) → 64 * count ≤ length w → answer_bits count (answers_in count w) 0 ≡ take (64 * count) w
unfolding answers_in
answer_bits-answers_in zero w le = refl
answer_bits-answers_in (suc count) w le =
    let n = number_from (take 64 w) in
    let rest = answers_in count (drop 64 w) in
    let all : 64 + 64 * count ≡ 64 * suc count = omega arith in
    answer_bits-cons count n rest
    ∙ ap (λ bits. bits ++ answer_bits count rest 0) (taken_bits 64 w (omega arith))
    ∙ ap (λ bits. take 64 w ++ bits) (answer_bits-answers_in count (drop 64 w) (omega (arith, length-drop 64 w)))
    ∙ take_parts 64 (64 * count) w
    ∙ ap (λ m. take m w) all

length-words_in : (kinds : List Kind) (w : World) → length (words_in kinds w) ≡ length kinds
unfolding words_in
length-words_in [] w = refl
length-words_in (kind ∷ kinds) w = ap suc (length-words_in kinds (drop kind.width w))

length-answers_in : (count : ℕ) (w : World) → length (answers_in count w) ≡ count
unfolding answers_in
length-answers_in zero w = refl
length-answers_in (suc count) w = ap suc (length-answers_in count (drop 64 w))

small_words_in : (kinds : List Kind) (w : World) → All IsKind kinds → All (λ word. word < 2 ^ 64) (words_in kinds w)
unfolding words_in
small_words_in [] w h k d lt = absurd (omega arith)
small_words_in (kind ∷ kinds) w h zero d lt = number_from-lt (take kind.width w) 64 (omega (arith, length-take kind.width w, width_below kind (h 0 kind (omega arith))))
small_words_in (kind ∷ kinds) w h (suc k) d lt = small_words_in kinds (drop kind.width w) (λ j e l. h (suc j) e (omega arith)) k d (omega arith)

small_answers_in : (count : ℕ) (w : World) → All (λ answer. answer < 2 ^ 64) (answers_in count w)
unfolding answers_in
small_answers_in zero w k d lt = absurd (omega arith)
small_answers_in (suc count) w zero d lt = number_from-lt (take 64 w) 64 (omega (arith, length-take 64 w))
small_answers_in (suc count) w (suc k) d lt = small_answers_in count (drop 64 w) k d (omega arith)

pub every_world_is_an_inputs : EveryWorld
every_world_is_an_inputs parameters answers w kinds long =
    let front = total_width parameters in
    let back = drop front w in
    let rest : take (64 * answers) back ≡ back = take_all (64 * answers) back (omega (arith, length-drop front w)) in
    let world : argument_bits parameters (words_in parameters w) 0 ++ answer_bits answers (answers_in answers back) 0 ≡ w =
    ap (λ bits. bits ++ answer_bits answers (answers_in answers back) 0) (argument_bits-words_in parameters w kinds (omega arith))
    ∙ ap (λ bits. take front w ++ bits) (answer_bits-answers_in answers back (omega (arith, length-drop front w)) ∙ rest)
    ∙ take-append-drop front w in (
      record { words = words_in parameters w; answers = answers_in answers back },
      record {
        word_count = length-words_in parameters w;
        small_words = small_words_in parameters w kinds;
        answer_count = length-answers_in answers back;
        small_answers = small_answers_in answers back;
        world = world;
      },
    )

-- Lists of words of inputs, one behind the other.
use Rattle.std.proofs.Common.{◌≡◌, ℕ, zero, suc, ◌+◌, ◌*◌, ◌%◌, ◌^◌, ◌<◌, ◌≤◌, Bool, false, List, [], ◌∷◌, ◌++◌, Some, length, get_or, take, replicate, pos, refl, sym, subst, ap, ◌∙◌, length-append, arith}
use Rattle.std.specs.Prelude.{All, slice_get, slice_index}
use Rattle.std.specs.Option.{IsSomeAnd}
use Rattle.std.proofs.lemmas.List.{get_or-append-add, get_or_append_left, replicate_more, take_more}
use Rattle.std.proofs.lemmas.List.Elements.{All-cons}
use Rattle.std.proofs.lemmas.List.Folds.{sum_by-replicate}
use Rattle.std.proofs.lemmas.List.Sums.{sum_by_more, sum_by_more_le}
use Rattle.std.proofs.Math.Nat.{mod-eq_of_lt}
use Rattle.circuit.specs.Truth.{World}
use Rattle.circuit.specs.Wires.{IsWire}
use Rattle.circuit.specs.declared.lit.Gate.{Gate}
use Rattle.circuit.specs.declared.lit.Lit.{Lit}
use Rattle.c_values.specs.declared.kinds.Kind.{Kind}
use Rattle.c_values.specs.Kind.{IsKind, fit, pattern_of, residue, wrapped}
use Rattle.c_values.proofs.Fitting.{IsValue-wrapped}
use Rattle.c_meaning.specs.Starts.{fitted, fitted_words}
use Rattle.bit_words.specs.Words.{word_value}
use Rattle.bit_words.proofs.Values.{wrapped-value}
use Rattle.sym_expr.specs.Stores.{cells_in}
use Rattle.unwinder.specs.input_words.Inputs.{first_input}
use Rattle.unwinder.specs.input_words.Parts.{AreWordsOf, IsInputWord, answer_kind, input_gates}
use Rattle.unwinder.specs.input_words.Worlds.{answer_bits, argument_bits, low_bits, total_width}
use Rattle.unwinder.proofs.input_words.GateLemmas.{alone_length}
use Rattle.unwinder.proofs.input_words.WordLemmas.{word_in_world}
use Rattle.unwinder.proofs.input_words.WorldLemmas.{argument_bits-cons, get_or-low_bits, length-low_bits, total_width-cons}

-- one word more
pub words_more : (first : ℕ) (kinds : List Kind) (words : List (List Lit)) (at : ℕ) (kind : Kind) (word : List Lit) → AreWordsOf first kinds words → at ≡ first + total_width kinds → IsInputWord at kind word → AreWordsOf first (kinds ++ kind ∷ []) (words ++ word ∷ [])
words_more first [] [] at kind word h e here =
    let same : at ≡ first = omega (arith, e) in
    let P : ℕ → Type 0 = λ n. IsInputWord n kind word in
    (subst P same here, tt)
words_more first [] (x ∷ words) at kind word h e here = absurd h
words_more first (k ∷ kinds) [] at kind word h e here = absurd h
words_more first (k ∷ kinds) (x ∷ words) at kind word h e here =
    let all = total_width-cons k kinds in
    (h.0, words_more (first + k.width) kinds words at kind word h.1 (omega (arith, e)) here)

pub length_words : (first : ℕ) (kinds : List Kind) (words : List (List Lit)) → AreWordsOf first kinds words → length words ≡ length kinds
length_words first [] [] h = refl
length_words first [] (x ∷ words) h = absurd h
length_words first (k ∷ kinds) [] h = absurd h
length_words first (k ∷ kinds) (x ∷ words) h = ap suc (length_words (first + k.width) kinds words h.1)

-- the word of a parameter
pub word_at : (first : ℕ) (kinds : List Kind) (words : List (List Lit)) (k : ℕ) (kind : Kind) → AreWordsOf first kinds words → slice_get kinds k ≡ Some kind → IsSomeAnd (slice_get words k) (IsInputWord (first + first_input kinds k) kind)
word_at first [] [] k kind h e = cc
word_at first [] (x ∷ words) k kind h e = absurd h
word_at first (q ∷ kinds) [] k kind h e = absurd h
word_at first (q ∷ kinds) (x ∷ words) zero kind h e =
    let none : first ≡ first + 0 = omega arith in
    let P : Kind → Type 0 = λ y. IsInputWord (first + 0) y x in
    let Q : ℕ → Type 0 = λ n. IsInputWord n q x in
    let same : q ≡ kind = cc in
    subst P same (subst Q none h.0)
word_at first (q ∷ kinds) (x ∷ words) (suc k) kind h e =
    let all = total_width-cons q (take k kinds) in
    let same : first + q.width + first_input kinds k ≡ first + first_input (q ∷ kinds) (suc k) = omega arith in
    let P : ℕ → Type 0 = λ n. IsSomeAnd (slice_get words k) (IsInputWord n kind) in
    subst P same (word_at (first + q.width) kinds words k kind h.1 e)

-- the word of an answer
pub answer_at : (first count : ℕ) (words : List (List Lit)) (k : ℕ) (word : List Lit) → AreWordsOf first (replicate count answer_kind) words → slice_get words k ≡ Some word → IsInputWord (first + 64 * k) answer_kind word
answer_at first zero [] k word h e = cc
answer_at first zero (x ∷ words) k word h e = absurd h
answer_at first (suc count) [] k word h e = absurd h
answer_at first (suc count) (x ∷ words) zero word h e =
    let none : first ≡ first + 64 * 0 = omega arith in
    let P : List Lit → Type 0 = λ y. IsInputWord (first + 64 * 0) answer_kind y in
    let Q : ℕ → Type 0 = λ n. IsInputWord n answer_kind x in
    let same : x ≡ word = cc in
    subst P same (subst Q none h.0)
answer_at first (suc count) (x ∷ words) (suc k) word h e =
    let same : first + 64 + 64 * k ≡ first + 64 * suc k = omega arith in
    let Q : ℕ → Type 0 = λ n. IsInputWord n answer_kind word in
    subst Q same (answer_at (first + 64) count words k word h.1 e)

-- their literals are on wires
pub all_wires : (gates : List Gate) (first : ℕ) (kinds : List Kind) (words : List (List Lit)) → AreWordsOf first kinds words → first + total_width kinds ≤ length gates → All (All (IsWire gates)) words
all_wires gates first [] [] h within = λ k d lt. absurd (omega arith)
all_wires gates first [] (x ∷ words) h within = absurd h
all_wires gates first (q ∷ kinds) [] h within = absurd h
all_wires gates first (q ∷ kinds) (x ∷ words) h within =
    let all = total_width-cons q kinds in
    All-cons (All (IsWire gates)) x words (h.0.of_kind gates (omega arith)).wires (all_wires gates (first + q.width) kinds words h.1 (omega arith))

-- ---- what they are in a world

-- the world has these bits from a place on
pub record HasBits (w : World) (first : ℕ) (bits : List Bool) : Type 0 where
  pub same : (k : ℕ) → k < length bits → get_or w (first + k) false ≡ get_or bits k false

pub front_bits : (w : World) (first : ℕ) (front back : List Bool) → HasBits w first (front ++ back) → HasBits w first front
front_bits w first front back h = record {
  same = λ k lt. h.same k (omega (arith, length-append front back)) ∙ get_or_append_left front back false k lt;
}

pub back_bits : (w : World) (first next : ℕ) (front back : List Bool) → HasBits w first (front ++ back) → next ≡ first + length front → HasBits w next back
back_bits w first next front back h e = record {
  same = λ k lt.
      let place : next + k ≡ first + (length front + k) = omega (arith, e) in
      ap (λ n. get_or w n false) place ∙ h.same (length front + k) (omega (arith, length-append front back)) ∙ get_or-append-add front back k false;
}

-- a word where the world has the lowest bits of a number
number_in_world : (n first : ℕ) (kind : Kind) (word : List Lit) (w : World) (v : ℕ) → IsInputWord first kind word → first + kind.width ≤ n → HasBits w first (low_bits kind.width v) → word_value (input_gates n) word w ≡ wrapped kind (pos v)
number_in_world n first kind word w v h within bits =
    let long = length-low_bits kind.width v in
    word_in_world n first kind word w v h within (λ k lt. bits.same k (omega arith) ∙ get_or-low_bits kind.width v k lt)

-- the values of the arguments
pub argument_values : (n first : ℕ) (kinds : List Kind) (words : List (List Lit)) (w : World) (xs : List ℕ) → AreWordsOf first kinds words → All IsKind kinds → first + total_width kinds ≤ n → length xs ≡ length kinds → HasBits w first (argument_bits kinds xs 0) → cells_in (input_gates n) words w ≡ fitted_words xs kinds
argument_values n first [] [] w [] h is within e bits = refl
argument_values n first [] [] w (x ∷ xs) h is within e bits = absurd (omega (arith, e))
argument_values n first [] (y ∷ words) w xs h is within e bits = absurd h
argument_values n first (q ∷ kinds) [] w xs h is within e bits = absurd h
argument_values n first (q ∷ kinds) (y ∷ words) w [] h is within e bits = absurd (omega (arith, e))
argument_values n first (q ∷ kinds) (y ∷ words) w (x ∷ xs) h is within e bits =
    let all = total_width-cons q kinds in
    let front = low_bits q.width (fitted q x) in
    let back = argument_bits kinds xs 0 in
    let P : List Bool → Type 0 = λ bs. HasBits w first bs in
    let parts : HasBits w first (front ++ back) = subst P (argument_bits-cons q kinds x xs) bits in
    let long = length-low_bits q.width (fitted q x) in
    let here : word_value (input_gates n) y w ≡ fitted q x =
    number_in_world n first q y w (fitted q x) h.0 (omega arith) (front_bits w first front back parts)
    ∙ wrapped-value q (fitted q x) (IsValue-wrapped q (pos x) (is 0 q (omega arith))) in
    let rest = argument_values n (first + q.width) kinds words w xs h.1 (λ k d lt. is (suc k) d (omega arith)) (omega arith) (omega (arith, e)) (back_bits w first (first + q.width) front back parts (omega arith)) in
    ap (λ v. v ∷ cells_in (input_gates n) words w) here ∙ ap (λ vs. fitted q x ∷ vs) rest

-- a pattern of 64 bits is its own value
wrapped-answer : (v : ℕ) → v < 2 ^ 64 → wrapped answer_kind (pos v) ≡ v
unfolding wrapped fit pattern_of residue
wrapped-answer v h = ap (λ x. x % 2 ^ 64) (mod-eq_of_lt h) ∙ mod-eq_of_lt h

-- the values of the answers
pub answer_values : (n first count : ℕ) (words : List (List Lit)) (w : World) (xs : List ℕ) (at : ℕ) → AreWordsOf first (replicate count answer_kind) words → first + 64 * count ≤ n → ((k : ℕ) → slice_index xs k < 2 ^ 64) → HasBits w first (answer_bits count xs at) → (number : ℕ) → number < count → slice_index (cells_in (input_gates n) words w) number ≡ slice_index xs (at + number)
answer_values n first zero words w xs at h within small bits number lt = absurd (omega arith)
answer_values n first (suc count) [] w xs at h within small bits number lt = absurd h
answer_values n first (suc count) (y ∷ words) w xs at h within small bits zero lt =
    let none : at ≡ at + 0 = omega arith in
    let v = slice_index xs at in
    number_in_world n first answer_kind y w v h.0 (omega arith) (front_bits w first (low_bits 64 v) (answer_bits count xs (at + 1)) bits)
    ∙ wrapped-answer v (small at)
    ∙ ap (slice_index xs) none
answer_values n first (suc count) (y ∷ words) w xs at h within small bits (suc number) lt =
    let next : at + 1 + number ≡ at + suc number = omega arith in
    let v = slice_index xs at in
    let long = length-low_bits 64 v in
    answer_values n (first + 64) count words w xs (at + 1) h.1 (omega arith) small (back_bits w first (first + 64) (low_bits 64 v) (answer_bits count xs (at + 1)) bits (omega arith)) number (omega arith)
    ∙ ap (slice_index xs) next

-- ---- the loops

pub record ArgumentsSoFar (first : ℕ) (parameters : List Kind) (gates : List Gate) (words : List (List Lit)) (i : ℕ) : Type 0 where
  pub alone : gates ≡ input_gates (first + total_width (take i parameters))
  pub words_are : AreWordsOf first (take i parameters) words

pub arguments_none : (parameters : List Kind) (gates : List Gate) → gates ≡ input_gates (length gates) → ArgumentsSoFar (length gates) parameters gates [] 0
arguments_none parameters gates e =
    let none : length gates ≡ length gates + 0 = omega arith in
    record { alone = e ∙ ap input_gates none; words_are = tt }

pub arguments_more : {first : ℕ} {parameters : List Kind} {gates new : List Gate} {words : List (List Lit)} {i : ℕ} (d : Kind) (word : List Lit) → ArgumentsSoFar first parameters gates words i → i < length parameters
    → new ≡ input_gates (length gates + (get_or parameters i d).width) → IsInputWord (length gates) (get_or parameters i d) word → ArgumentsSoFar first parameters new (words ++ word ∷ []) (i + 1)
arguments_more {first} {parameters} {gates} {new} {words} {i} d word r lt now here =
    let kind = get_or parameters i d in
    let long = alone_length gates (first + total_width (take i parameters)) r.alone in
    let sum = sum_by_more (λ (k : Kind). k.width) parameters i d lt in
    let next : length gates + kind.width ≡ first + total_width (take (i + 1) parameters) = omega arith in
    let P : List Kind → Type 0 = λ ks. AreWordsOf first ks (words ++ word ∷ []) in
    record {
      alone = now ∙ ap input_gates next;
      words_are = subst P (sym (take_more parameters i d lt)) (words_more first (take i parameters) words (length gates) kind word r.words_are long here);
    }

-- there is room for the next one
pub arguments_room : {first : ℕ} {parameters : List Kind} {gates : List Gate} {words : List (List Lit)} {i : ℕ} (d : Kind) (most : ℕ) → ArgumentsSoFar first parameters gates words i → i < length parameters → first + total_width parameters ≤ most → length gates + (get_or parameters i d).width ≤ most
arguments_room {first} {parameters} {gates} {words} {i} d most r lt room =
    let long = alone_length gates (first + total_width (take i parameters)) r.alone in
    let sum = sum_by_more_le (λ (k : Kind). k.width) parameters i d lt in
    omega arith

pub record AnswersSoFar (first : ℕ) (gates : List Gate) (words : List (List Lit)) (i : ℕ) : Type 0 where
  pub alone : gates ≡ input_gates (first + 64 * i)
  pub words_are : AreWordsOf first (replicate i answer_kind) words

pub answers_none : (gates : List Gate) → gates ≡ input_gates (length gates) → AnswersSoFar (length gates) gates [] 0
answers_none gates e =
    let none : length gates ≡ length gates + 64 * 0 = omega arith in
    record { alone = e ∙ ap input_gates none; words_are = tt }

pub answers_more : {first : ℕ} {gates new : List Gate} {words : List (List Lit)} {i : ℕ} (word : List Lit) → AnswersSoFar first gates words i → new ≡ input_gates (length gates + 64) → IsInputWord (length gates) answer_kind word → AnswersSoFar first new (words ++ word ∷ []) (i + 1)
answers_more {first} {gates} {new} {words} {i} word r now here =
    let long = alone_length gates (first + 64 * i) r.alone in
    let next : length gates + 64 ≡ first + 64 * (i + 1) = omega arith in
    let sum = sum_by-replicate (λ (k : Kind). k.width) i answer_kind in
    let P : List Kind → Type 0 = λ ks. AreWordsOf first ks (words ++ word ∷ []) in
    record {
      alone = now ∙ ap input_gates next;
      words_are = subst P (replicate_more i answer_kind) (words_more first (replicate i answer_kind) words (length gates) answer_kind word r.words_are (omega arith) here);
    }

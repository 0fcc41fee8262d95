-- The world of the input of an assignment has the bits that the assignment gives.
use Rattle.std.proofs.Common.{◌≡◌, ℕ, zero, suc, ◌+◌, ◌*◌, ◌^◌, ◌≤◌, ◌<◌, Bool, true, false, List, [], ◌∷◌, ◌++◌, length, map, get_or, replicate, Option, refl, sym, ap, ◌∙◌, arith}
use Rattle.std.specs.Prelude.{All}
use Rattle.std.specs.List.{flat_map}
use Rattle.std.proofs.lemmas.List.{length-map, map-append}
use Rattle.std.proofs.lemmas.List.Elements.{All-map}
use Rattle.c_meaning.specs.Starts.{fitted}
use Rattle.c_values.specs.Kind.{IsKind}
use Rattle.c_values.specs.declared.kinds.Kind.{Kind}
use Rattle.cfa.specs.declared.parts.Function.{Function}
use Rattle.unwinder.proofs.input_words.WorldLemmas.{answer_bits-cons, argument_bits-cons, low_bits-fitted, low_bits-number_from, number_from}
use Rattle.unwinder.specs.input_words.Worlds.{answer_bits, argument_bits, low_bits, world_of}
use Rattle.path_runner.proofs.Bits.{bits_few}
use Rattle.path_runner.specs.Masks.{number_of_bits}
use Rattle.unwinder.specs.Lists.{IsInputFor}
use Rattle.goal_formula.specs.Bits.{IsShaped, bit_in, input_from, input_variables, number_in, words_in}
use Rattle.goal_formula.specs.declared.goal.GoalFormula.{GoalFormula}

same_number : (bits : List Bool) → number_of_bits bits ≡ number_from bits
same_number [] = refl
same_number (true ∷ bits) = ap (λ n. 1 + 2 * n) (same_number bits)
same_number (false ∷ bits) = ap (λ n. 0 + 2 * n) (same_number bits)

low_bits-number : (bits : List Bool) → low_bits (length bits) (number_of_bits bits) ≡ bits
low_bits-number bits = ap (low_bits (length bits)) (same_number bits) ∙ low_bits-number_from bits

-- the number of a row is below 2 to its length
pub number_few : (value : ℕ → Bool) (row : List (Option ℕ)) (n : ℕ) → length row ≤ n → number_in value row < 2 ^ n
number_few value row n le = let long = length-map row (bit_in value) in bits_few (map (bit_in value) row) n (omega arith)

module _ (value : ℕ → Bool) where
  row_bits : (row : List (Option ℕ)) (n : ℕ) → length row ≡ n → low_bits n (number_in value row) ≡ map (bit_in value) row
  row_bits row n e =
      let long : n ≡ length (map (bit_in value) row) = sym e ∙ sym (length-map row (bit_in value)) in
      ap (λ k. low_bits k (number_in value row)) long ∙ low_bits-number (map (bit_in value) row)

  word_bits : (kinds : List Kind) (rows : List (List (Option ℕ))) → map length rows ≡ map (λ (kind : Kind). kind.width) kinds → All IsKind kinds → argument_bits kinds (words_in value kinds rows) 0 ≡ map (bit_in value) (flat_map (λ row. row) rows)
  word_bits [] [] e h = refl
  word_bits [] (row ∷ rows) e h = absurd cc
  word_bits (kind ∷ kinds) [] e h = absurd cc
  word_bits (kind ∷ kinds) (row ∷ rows) e h =
      let first : length row ≡ kind.width = cc in
      let rest : map length rows ≡ map (λ (k : Kind). k.width) kinds = cc in
      let own = h 0 kind (omega arith) in
      let tail = words_in value kinds rows in
      argument_bits-cons kind kinds (fitted kind (number_in value row)) tail
      ∙ ap (λ bits. bits ++ argument_bits kinds tail 0) (low_bits-fitted kind (fitted kind (number_in value row)) own ∙ low_bits-fitted kind (number_in value row) own ∙ row_bits row kind.width first)
      ∙ ap (λ bits. map (bit_in value) row ++ bits) (word_bits kinds rows rest (λ k d lt. h (suc k) d (omega arith)))
      ∙ sym (map-append (bit_in value) row (flat_map (λ r. r) rows))

  answers_bits : (count : ℕ) (rows : List (List (Option ℕ))) → map length rows ≡ replicate count 64 → answer_bits count (map (number_in value) rows) 0 ≡ map (bit_in value) (flat_map (λ row. row) rows)
  answers_bits zero [] e = refl
  answers_bits zero (row ∷ rows) e = absurd cc
  answers_bits (suc count) [] e = absurd cc
  answers_bits (suc count) (row ∷ rows) e =
      let first : length row ≡ 64 = cc in
      let rest : map length rows ≡ replicate count 64 = cc in
      answer_bits-cons count (number_in value row) (map (number_in value) rows)
      ∙ ap (λ bits. bits ++ answer_bits count (map (number_in value) rows) 0) (row_bits row 64 first)
      ∙ ap (λ bits. map (bit_in value) row ++ bits) (answers_bits count rows rest)
      ∙ sym (map-append (bit_in value) row (flat_map (λ r. r) rows))

  pub input_world : (parameters : List Kind) (answers : ℕ) (g : GoalFormula) → IsShaped parameters answers g → All IsKind parameters → world_of parameters answers (input_from value parameters g) ≡ map (bit_in value) (input_variables g)
  input_world parameters answers g shape kinds =
      ap (λ bits. bits ++ answer_bits answers (map (number_in value) g.answers) 0) (word_bits parameters g.words shape.words kinds)
      ∙ ap (λ bits. map (bit_in value) (flat_map (λ row. row) g.words) ++ bits) (answers_bits answers g.answers shape.answers_are)
      ∙ sym (map-append (bit_in value) (flat_map (λ row. row) g.words) (flat_map (λ row. row) g.answers))

  -- ---- the input is one of the function

  word_count : (kinds : List Kind) (rows : List (List (Option ℕ))) → map length rows ≡ map (λ (kind : Kind). kind.width) kinds → length (words_in value kinds rows) ≡ length kinds
  word_count [] rows e = refl
  word_count (kind ∷ kinds) [] e = absurd cc
  word_count (kind ∷ kinds) (row ∷ rows) e = let rest : map length rows ≡ map (λ (k : Kind). k.width) kinds = cc in ap suc (word_count kinds rows rest)

  row_length : (count : ℕ) (rows : List (List (Option ℕ))) → map length rows ≡ replicate count 64 → All (λ (row : List (Option ℕ)). length row ≡ 64) rows
  row_length count [] e k d lt = absurd (omega arith)
  row_length zero (row ∷ rows) e k d lt = absurd cc
  row_length (suc count) (row ∷ rows) e zero d lt = cc
  row_length (suc count) (row ∷ rows) e (suc k) d lt = let rest : map length rows ≡ replicate count 64 = cc in row_length count rows rest k d (omega arith)

  pub input_given : (f : Function) (answers : ℕ) (g : GoalFormula) → f.arrays ≡ [] → IsShaped f.parameters answers g → IsInputFor f (input_from value f.parameters g)
  input_given f answers g arrays shape = record {
    start = (word_count f.parameters g.words shape.words, arrays);
    answers = All-map (λ n. n < 2 ^ 64) (number_in value) g.answers
        (λ k d lt. let long = row_length answers g.answers shape.answers_are k d lt in number_few value (get_or g.answers k d) 64 (omega arith));
  }

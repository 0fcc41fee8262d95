-- The circuit and the words when all inputs are made.
use Rattle.std.proofs.Common.{◌≡◌, ℕ, ◌+◌, ◌*◌, ◌^◌, ◌<◌, ◌≤◌, false, List, [], ◌++◌, Some, None, Option, length, get_or, replicate, sym, subst, ap, ◌∙◌, ⊎_elim, arith}
use Rattle.std.specs.Prelude.{All, slice_get, slice_index}
use Rattle.std.specs.Option.{IsSomeAnd}
use Rattle.std.proofs.lemmas.Bool.{cases_lt}
use Rattle.std.proofs.lemmas.List.{get_or_past, length-replicate, take_all}
use Rattle.std.proofs.lemmas.List.Folds.{sum_by-replicate}
use Rattle.std.proofs.lemmas.List.Sums.{sum_by_more_le}
use Rattle.std.proofs.lemmas.Option.{get_or_from_slice_get, slice_get_within}
use Rattle.circuit.specs.Wires.{IsWire, input_count}
use Rattle.circuit.specs.declared.lit.Gate.{Gate}
use Rattle.circuit.specs.declared.lit.Lit.{Lit}
use Rattle.c_values.specs.declared.kinds.Kind.{Kind}
use Rattle.c_values.specs.Kind.{IsKind}
use Rattle.c_values.proofs.Bits.{width_below}
use Rattle.cfa.specs.Each.{Each}
use Rattle.c_meaning.specs.declared.input.Input.{Input}
use Rattle.c_meaning.specs.Starts.{fitted_words}
use Rattle.bit_words.specs.Words.{IsWord}
use Rattle.sym_expr.specs.Stores.{cells_in}
use Rattle.unwinder.specs.input_words.Inputs.{AreInputs, first_input}
use Rattle.unwinder.specs.input_words.Parts.{AreWordsOf, IsInputWord, answer_kind, input_gates}
use Rattle.unwinder.specs.input_words.Worlds.{answer_bits, argument_bits, total_width, world_length, world_of}
use Rattle.unwinder.proofs.input_words.GateLemmas.{alone_length, input_count-input_gates}
use Rattle.unwinder.proofs.input_words.ListLemmas.{HasBits, all_wires, answer_at, answer_values, argument_values, back_bits, front_bits, length_words, word_at}
use Rattle.unwinder.proofs.input_words.WordLemmas.{are_inputs}
use Rattle.unwinder.proofs.input_words.WorldLemmas.{length-argument_bits}

-- the circuit has the inputs and nothing else, and the words are over them
pub record AreMade (parameters : List Kind) (count : ℕ) (gates : List Gate) (words answers : List (List Lit)) : Type 0 where
  pub kinds : All IsKind parameters
  pub alone : gates ≡ input_gates (world_length parameters count)
  pub words_are : AreWordsOf 0 parameters words
  pub answers_are : AreWordsOf (total_width parameters) (replicate count answer_kind) answers

pub are_made : (parameters : List Kind) (count : ℕ) (none some all : List Gate) (words answers : List (List Lit)) → none ≡ [] → All IsKind parameters
    → some ≡ input_gates (length none + total_width parameters) → AreWordsOf (length none) parameters words
    → all ≡ input_gates (length some + 64 * count) → AreWordsOf (length some) (replicate count answer_kind) answers
    → AreMade parameters count all words answers
are_made parameters count none some all words answers empty kinds first words_are last answers_are =
    let zero_long : length none ≡ 0 = ap length empty in
    let long : length some ≡ total_width parameters = omega (arith, alone_length some (length none + total_width parameters) first) in
    let P : ℕ → Type 0 = λ n. AreWordsOf n parameters words in
    let Q : ℕ → Type 0 = λ n. AreWordsOf n (replicate count answer_kind) answers in
    record {
      kinds = kinds;
      alone = last ∙ ap (λ n. input_gates (n + 64 * count)) long;
      words_are = subst P zero_long words_are;
      answers_are = subst Q long answers_are;
    }

some_and_more : {X : Type 0} (P Q : X → Type 0) (o : Option X) → ((x : X) → P x → Q x) → IsSomeAnd o P → IsSomeAnd o Q
some_and_more P Q None f h = h
some_and_more P Q (Some x) f h = f x h

module _ {parameters : List Kind} {count : ℕ} {gates : List Gate} {words answers : List (List Lit)} (m : AreMade parameters count gates words answers) where
  pub made_length : length gates ≡ world_length parameters count
  made_length = alone_length gates (world_length parameters count) m.alone

  pub made_inputs : input_count gates ≡ world_length parameters count
  made_inputs = ap input_count m.alone ∙ input_count-input_gates (world_length parameters count)

  pub made_count : length words ≡ length parameters
  made_count = length_words 0 parameters words m.words_are

  pub made_answer_count : length answers ≡ count
  made_answer_count = length_words (total_width parameters) (replicate count answer_kind) answers m.answers_are ∙ length-replicate count answer_kind

  record Parameter (k : ℕ) (kind : Kind) : Type 0 where
    pub is : IsKind kind
    pub within : first_input parameters k + kind.width ≤ world_length parameters count
    pub word : IsSomeAnd (slice_get words k) (IsInputWord (first_input parameters k) kind)

  parameter_at : (k : ℕ) (kind : Kind) → slice_get parameters k ≡ Some kind → Parameter k kind
  parameter_at k kind here =
      let lt = slice_get_within parameters k kind here in
      let own : get_or parameters k kind ≡ kind = get_or_from_slice_get parameters k kind kind here in
      let sum = sum_by_more_le (λ (q : Kind). q.width) parameters k kind lt in
      let wide = ap (λ (q : Kind). q.width) own in
      let start : 0 + first_input parameters k ≡ first_input parameters k = omega arith in
      let P : ℕ → Type 0 = λ n. IsSomeAnd (slice_get words k) (IsInputWord n kind) in
      record {
        is = subst IsKind own (m.kinds k kind lt);
        within = omega arith;
        word = subst P start (word_at 0 parameters words k kind m.words_are here);
      }

  over_gates : (first width : ℕ) (word : List Lit) → AreInputs (input_gates (world_length parameters count)) first width word → AreInputs gates first width word
  over_gates first width word h = let P : List Gate → Type 0 = λ gs. AreInputs gs first width word in subst P (sym m.alone) h

  pub made_words : Each parameters (λ k kind. IsSomeAnd (slice_get words k) (AreInputs gates (first_input parameters k) kind.width))
  made_words k kind here =
      let at = parameter_at k kind here in
      some_and_more (IsInputWord (first_input parameters k) kind) (AreInputs gates (first_input parameters k) kind.width) (slice_get words k)
      (λ word h. over_gates (first_input parameters k) kind.width word (are_inputs (world_length parameters count) (first_input parameters k) kind word h (width_below kind at.is) at.within))
      at.word

  pub made_kinds : Each parameters (λ k kind. IsSomeAnd (slice_get words k) (IsWord gates kind))
  made_kinds k kind here =
      let at = parameter_at k kind here in
      let within = at.within in
      let long = made_length in
      some_and_more (IsInputWord (first_input parameters k) kind) (IsWord gates kind) (slice_get words k) (λ word h. h.of_kind gates (omega arith)) at.word

  pub made_wires : All (All (IsWire gates)) words
  made_wires = let long = made_length in all_wires gates 0 parameters words m.words_are (omega arith)

  pub made_answer_wires : All (All (IsWire gates)) answers
  made_answer_wires =
      let long = made_length in
      let sum = sum_by-replicate (λ (q : Kind). q.width) count answer_kind in
      all_wires gates (total_width parameters) (replicate count answer_kind) answers m.answers_are (omega arith)

  pub made_answers : Each answers (λ k word. AreInputs gates (first_input parameters (length parameters) + 64 * k) 64 word)
  made_answers k word here =
      let lt = slice_get_within answers k word here in
      let long = made_answer_count in
      let whole : first_input parameters (length parameters) ≡ total_width parameters = ap total_width (take_all (length parameters) parameters (omega arith)) in
      let start : total_width parameters + 64 * k ≡ first_input parameters (length parameters) + 64 * k = omega arith in
      let P : ℕ → Type 0 = λ n. AreInputs gates n 64 word in
      subst P start (over_gates (total_width parameters + 64 * k) 64 word (are_inputs (world_length parameters count) (total_width parameters + 64 * k) answer_kind word (answer_at (total_width parameters) count answers k word m.answers_are here) (omega arith) (omega arith)))

  world_bits : (input : Input) → HasBits (world_of parameters count input) 0 (argument_bits parameters input.words 0 ++ answer_bits count input.answers 0)
  world_bits input = record { same = λ k lt. let e : 0 + k ≡ k = omega arith in ap (λ n. get_or (world_of parameters count input) n false) e }

  pub made_values : (input : Input) → length input.words ≡ length parameters → cells_in gates words (world_of parameters count input) ≡ fitted_words input.words parameters
  made_values input e =
      let w = world_of parameters count input in
      ap (λ gs. cells_in gs words w) m.alone
      ∙ argument_values (world_length parameters count) 0 parameters words w input.words m.words_are m.kinds (omega arith) e
      (front_bits w 0 (argument_bits parameters input.words 0) (answer_bits count input.answers 0) (world_bits input))

  pub made_answer_values : (input : Input) → All (λ answer. answer < 2 ^ 64) input.answers → (number : ℕ) → number < count → slice_index (cells_in gates answers (world_of parameters count input)) number ≡ slice_index input.answers number
  made_answer_values input small number lt =
      let w = world_of parameters count input in
      let long = length-argument_bits parameters input.words 0 in
      let start : 0 + number ≡ number = omega arith in
      ap (λ gs. slice_index (cells_in gs answers w) number) m.alone
      ∙ answer_values (world_length parameters count) (total_width parameters) count answers w input.answers 0 m.answers_are (omega arith) (each_small input.answers small)
      (back_bits w 0 (total_width parameters) (argument_bits parameters input.words 0) (answer_bits count input.answers 0) (world_bits input) (omega arith)) number lt
      ∙ ap (slice_index input.answers) start
    where
      each_small : (xs : List ℕ) → All (λ x. x < 2 ^ 64) xs → (k : ℕ) → slice_index xs k < 2 ^ 64
      each_small xs h k = ⊎_elim (λ inside. h k 0 inside) (λ past. omega (arith, get_or_past xs k 0 past)) (cases_lt k (length xs))

-- What the words of inputs give an unwinding.
use Rattle.std.proofs.Common.{◌≡◌, ℕ, ◌+◌, ◌*◌, ◌<◌, ◌≤◌, ◌^◌, List, [], get_or, length, Option, Some, None, refl, sym, subst, ◌∙◌, arith}
use Rattle.std.specs.Prelude.{All, slice_get, slice_index}
use Rattle.std.specs.List.{list_all}
use Rattle.std.specs.Option.{IsSomeAnd}
use Rattle.std.proofs.lemmas.List.Sums.{AllPass-from_list_all, sum_by-le}
use Rattle.circuit.specs.Wires.{IsWire, input_count}
use Rattle.circuit.specs.declared.lit.Gate.{Gate}
use Rattle.circuit.specs.declared.lit.Lit.{Lit}
use Rattle.bit_words.specs.Words.{IsWord}
use Rattle.bit_words.proofs.Values.{word_later}
use Rattle.c_values.specs.declared.kinds.Kind.{Kind}
use Rattle.c_values.specs.Kind.{IsKind, is_kind}
use Rattle.c_values.proofs.Bits.{width_below}
use Rattle.c_values.proofs.Fitting.{and_left}
use Rattle.cfa.specs.declared.parts.Function.{Function}
use Rattle.cfa.specs.declared.parts.GraphParts.{GraphParts}
use Rattle.cfa.specs.declared.state.Predicates.{Predicates}
use Rattle.cfa.specs.Contexts.{Pair}
use Rattle.cfa.specs.Each.{Each}
use Rattle.cfa.specs.Graph.{IsGraph, result_kind_fits}
use Rattle.cfa.specs.Predicates.{IsPredicates}
use Rattle.c_meaning.specs.declared.ends.Ends.{Ends}
use Rattle.c_meaning.specs.declared.input.Input.{Input}
use Rattle.c_meaning.specs.Starts.{fitted_words}
use Rattle.unwinder.specs.input_words.Inputs.{AreInputs, first_input}
use Rattle.unwinder.specs.input_words.Laws.{InputsStay}
use Rattle.unwinder.specs.input_words.Worlds.{world_length, world_of}
use Rattle.unwinder_reach.specs.declared.reached.bounds.Bounds.{Bounds}
use Rattle.unwinder_reach.specs.declared.reached.step.Step.{Step}
use Rattle.unwinder_reach.specs.reached.Reaching.{AreReached}
use Rattle.sym_expr.specs.Stores.{cells_in}
use Rattle.unwinder_reach.specs.unwinding_size.Sizes.{size_sum}
use Rattle.unwinder.specs.declared.unwound.Entry.{Entry}
use Rattle.unwinder.specs.declared.unwound.Unwound.{Unwound}
use Rattle.unwinder.specs.Progress.{CanUnwind, UnwindsAll}
use Rattle.unwinder.specs.Unwinding.{IsUnwound}
use Rattle.unwinder.proofs.Finishing.{entry_count, few_entries, few_wires, lists}

-- ---- few inputs

pub parameter_kinds : (parts : GraphParts) (entry : ℕ) (f : Function) → IsGraph parts → slice_get parts.functions entry ≡ Some f → All IsKind f.parameters
parameter_kinds parts entry f g own = AllPass-from_list_all is_kind f.parameters (and_left (list_all is_kind f.parameters) (result_kind_fits f.result) (g.rest.functions entry f own).signature)

pub few_inputs : (parts : GraphParts) (entry : ℕ) (f : Function) (answers : ℕ) → IsGraph parts → slice_get parts.functions entry ≡ Some f → answers ≤ 256 → world_length f.parameters answers ≤ 2097152
few_inputs parts entry f answers g own few =
    let fits = g.rest.functions entry f own in
    let least = fits.least_cells in
    let most = fits.most_cells in
    let widths = sum_by-le (λ (kind : Kind). kind.width) 64 f.parameters (λ k d lt. width_below (get_or f.parameters k d) (parameter_kinds parts entry f g own k d lt)) in
    omega (arith, few, least, most, widths)

-- ---- the words that were made

pub record IsMade (parameters : List Kind) (count : ℕ) (gates : List Gate) (words answers : List (List Lit)) : Type 0 where
  pub wires_used : length gates ≡ world_length parameters count
  pub inputs_alone : input_count gates ≡ world_length parameters count
  pub word_count : length words ≡ length parameters
  pub words_are : Each parameters (λ k kind. IsSomeAnd (slice_get words k) (AreInputs gates (first_input parameters k) kind.width))
  pub kinds : Each parameters (λ k kind. IsSomeAnd (slice_get words k) (IsWord gates kind))
  pub word_wires : All (All (IsWire gates)) words
  pub answer_count : length answers ≡ count
  pub answers_are : Each answers (λ k word. AreInputs gates (first_input parameters (length parameters) + 64 * k) 64 word)
  pub answer_wires : All (All (IsWire gates)) answers
  pub values : (input : Input) → length input.words ≡ length parameters → cells_in gates words (world_of parameters count input) ≡ fitted_words input.words parameters
  pub answer_values : (input : Input) → All (λ answer. answer < 2 ^ 64) input.answers → (number : ℕ) → number < count → slice_index (cells_in gates answers (world_of parameters count input)) number ≡ slice_index input.answers number

pub can_unwind : (parts : GraphParts) (predicates : Predicates) (f : Function) (entry : ℕ) (bounds : Bounds) (pairs : List Pair) (steps : List (List Step)) (words answers : List (List Lit)) (gates : List Gate) → IsGraph parts → slice_get parts.functions entry ≡ Some f → bounds.answers ≤ 256 → IsPredicates parts predicates → AreReached parts bounds f pairs steps → length pairs ≤ 50000 → size_sum parts predicates f pairs steps ≤ 4194304 → IsMade f.parameters bounds.answers gates words answers → CanUnwind parts predicates f entry bounds pairs steps answers gates
can_unwind parts predicates f entry bounds pairs steps words answers gates g own few_answers are reached few small made =
    let inputs = few_inputs parts entry f bounds.answers g own few_answers in
    let used = made.wires_used in
    record {
      own = own;
      reached = reached;
      few = few;
      small = small;
      meanings = are.most;
      inputs = omega (arith, inputs, used);
      answer_wires = made.answer_wires;
      agree = λ x given number lt. made.answer_values x given.answers number lt;
    }

-- ---- an element of which something is so

some_later : {X : Type 0} (P Q : X → Type 0) (o : Option X) → ((x : X) → P x → Q x) → IsSomeAnd o P → IsSomeAnd o Q
some_later P Q None on h = absurd h
some_later P Q (Some x) on h = on x h

-- ---- the unwinding

pub is_unwound : (parts : GraphParts) (predicates : Predicates) (f : Function) (entry : ℕ) (bounds : Bounds) (ends : Ends) (pairs : List Pair) (steps : List (List Step)) (words answers : List (List Lit)) (first now : List Gate) (entries : List Entry) (u : Unwound) → IsGraph parts → InputsStay → (f.arrays ≡ []) → 1 ≤ bounds.frames → bounds.answers ≤ 256 → AreReached parts bounds f pairs steps → length pairs ≤ 50000 → size_sum parts predicates f pairs steps ≤ 4194304 → IsMade f.parameters bounds.answers first words answers → UnwindsAll parts predicates f entry bounds ends pairs steps first now entries
    → u ≡ record { entry = entry; bounds = bounds; ends = ends; pairs = length pairs; circuit = now; words = words; answers = answers; entries = entries } → IsUnwound parts predicates f entry bounds ends u
is_unwound parts predicates f entry bounds ends pairs steps words answers first now entries u g stay arrays frames few_answers reached few small made all same =
    let h = all.1 in
    subst (IsUnwound parts predicates f entry bounds ends) (sym same) (record {
      lists = lists parts predicates f entry bounds ends pairs steps first now entries all.0 g reached h;
      words = record {
        inputs = h.grows.inputs ∙ made.inputs_alone;
        words = λ k kind e. some_later (AreInputs first (first_input f.parameters k) kind.width) (AreInputs now (first_input f.parameters k) kind.width) (slice_get words k) (λ word is. stay first now (first_input f.parameters k) kind.width word h.grows.grown is) (made.words_are k kind e);
        kinds = λ k kind e. some_later (IsWord first kind) (IsWord now kind) (slice_get words k) (λ word is. word_later h.grows kind word is) (made.kinds k kind e);
        word_count = made.word_count;
        answers = λ k word e. stay first now (first_input f.parameters (length f.parameters) + 64 * k) 64 word h.grows.grown (made.answers_are k word e);
        answer_count = made.answer_count;
      };
      entries = λ k e there. h.entries_are k e there;
      starts = h.starts;
      given_entry = refl;
      given_bounds = refl;
      given_ends = refl;
      arrays = arrays;
      some_frame = frames;
      most_answers = few_answers;
      pairs = pairs;
      steps = steps;
      reached = reached;
      pair_count = refl;
      few_pairs = few;
      small = small;
      entry_count = entry_count parts predicates f entry bounds ends pairs steps first now entries all.0 g reached h;
      few_entries = few_entries parts predicates f entry bounds ends pairs steps first now entries all.0 g reached h;
      wires = few_wires parts predicates f entry bounds ends pairs steps first now entries all.0 g reached h made.wires_used;
    })

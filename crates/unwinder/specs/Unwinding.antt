-- What an unwinding within bounds is: every input's run is listed, over circuits whose inputs are the bits of inputs.
use Rattle.std.specs.Prelude.{◌≡◌, ◌⊎◌, ℕ, ◌+◌, ◌*◌, ◌<◌, ◌≤◌, All, List, [], length, Some, None, slice_get, sum_by}
use Rattle.std.specs.Option.{IsSomeAnd}
use Rattle.circuit.specs.Wires.{IsWire, input_count}
use Rattle.circuit.specs.declared.lit.Gate.{Gate}
use Rattle.fq_core.specs.declared.refusal.Fault.{Fault}
use Rattle.fq_core.specs.declared.refusal.Fault.TheVariants as fault
use Rattle.fq_core.specs.declared.refusal.Place.TheVariants as place
use Rattle.fq_core.specs.Refusals.{refusal}
use Rattle.bit_words.specs.Words.{IsWord}
use Rattle.cfa.specs.declared.parts.Function.{Function}
use Rattle.cfa.specs.declared.parts.GraphParts.{GraphParts}
use Rattle.cfa.specs.declared.state.Predicates.{Predicates}
use Rattle.cfa.specs.Contexts.{Pair}
use Rattle.cfa.specs.Each.{Each}
use Rattle.c_meaning.specs.declared.ends.Ends.{Ends}
use Rattle.unwinder.specs.input_words.Inputs.{AreInputs, first_input}
use Rattle.unwinder.specs.input_words.Worlds.{world_length}
use Rattle.unwinder_reach.specs.declared.reached.bounds.Bounds.{Bounds}
use Rattle.unwinder_reach.specs.declared.reached.step.Step.{Step}
use Rattle.unwinder_reach.specs.reached.Reaching.{AreReached, AreTooMany}
use Rattle.unwinder_reach.specs.unwinding_size.Sizes.{size_sum}
use Rattle.unwinder.specs.declared.unwound.Entry.{Entry}
use Rattle.unwinder.specs.declared.unwound.Unwound.{Unwound}
use Rattle.unwinder.specs.Lists.{ListsRuns}

-- an entry's literals are the circuit's, and there is one for each predicate
pub record IsEntry (predicates : Predicates) (gates : List Gate) (e : Entry) : Type 0 where
  pub guard : IsWire gates e.guard
  pub ended : IsWire gates e.ended
  pub truths : All (IsWire gates) e.predicates
  pub count : length e.predicates ≡ length predicates.meanings

-- no entry but the first has no edge: that one is the start's
abbrev pub StartsFirst : List Entry → Type 0
StartsFirst entries = (k : ℕ) (e : Entry) → slice_get entries k ≡ Some e → e.edge ≡ None → k ≡ 0

-- the most wires of an unwinding: its inputs, 32 for each unit of the size sum, and 128 for each pair, once for each
-- predicate and once more
abbrev pub most_wires : GraphParts → Predicates → Function → Bounds → List Pair → List (List Step) → ℕ
most_wires parts predicates f bounds pairs steps =
    world_length f.parameters bounds.answers + 32 * size_sum parts predicates f pairs steps + 128 * ((length predicates.meanings + 1) * length pairs)

-- The words of an unwinding's inputs: those of the arguments and of the answers are the circuit's inputs, in the order of
-- the world of an input, and each argument's word is one of its parameter's kind.
pub record AreWordsOf (f : Function) (bounds : Bounds) (u : Unwound) : Type 0 where
  pub inputs : input_count u.circuit ≡ world_length f.parameters bounds.answers
  pub words : Each f.parameters (λ k kind. IsSomeAnd (slice_get u.words k) (AreInputs u.circuit (first_input f.parameters k) kind.width))
  pub kinds : Each f.parameters (λ k kind. IsSomeAnd (slice_get u.words k) (IsWord u.circuit kind))
  pub word_count : length u.words ≡ length f.parameters
  pub answers : Each u.answers (λ k word. AreInputs u.circuit (first_input f.parameters (length f.parameters) + 64 * k) 64 word)
  pub answer_count : length u.answers ≡ bounds.answers

-- An unwinding of a function within bounds.
pub record IsUnwound (parts : GraphParts) (predicates : Predicates) (f : Function) (entry : ℕ) (bounds : Bounds) (ends : Ends) (u : Unwound) : Type 0 where
  pub lists : ListsRuns parts predicates f bounds ends u.circuit u.entries
  pub words : AreWordsOf f bounds u
  pub entries : Each u.entries (λ k e. IsEntry predicates u.circuit e)
  pub starts : StartsFirst u.entries
  pub given_entry : u.entry ≡ entry
  pub given_bounds : u.bounds ≡ bounds
  pub given_ends : u.ends ≡ ends
  -- runs can begin there, and the bounds are those of some
  pub arrays : f.arrays ≡ []
  pub some_frame : 1 ≤ bounds.frames
  pub most_answers : bounds.answers ≤ 256
  -- the pairs that are reached within the bounds, with the steps between them
  pub pairs : List Pair
  pub steps : List (List Step)
  pub reached : AreReached parts bounds f pairs steps
  pub pair_count : u.pairs ≡ length pairs
  pub few_pairs : length pairs ≤ 50000
  pub small : size_sum parts predicates f pairs steps ≤ 4194304
  -- an entry for the start, and one for each step
  pub entry_count : length u.entries ≡ 1 + sum_by (λ (row : List Step). length row) steps
  pub few_entries : length u.entries ≤ 2 * u.pairs + 1
  pub wires : length u.circuit ≤ most_wires parts predicates f bounds pairs steps

-- the pairs that are reached have a size sum above its limit
pub record AreTooLarge (parts : GraphParts) (predicates : Predicates) (bounds : Bounds) (f : Function) : Type 0 where
  pub pairs : List Pair
  pub steps : List (List Step)
  pub reached : AreReached parts bounds f pairs steps
  pub few : length pairs ≤ 50000
  pub large : 4194304 < size_sum parts predicates f pairs steps

-- code 80 says that too many pairs are reached, 81 that their size sum is too large, and want of memory is free
abbrev pub IsUnwindFault : GraphParts → Predicates → Bounds → Function → Fault → Type 0
IsUnwindFault parts predicates bounds f (fault.Refused r) =
    ((fault.Refused r ≡ refusal 80 (place.Limit 50000)) × AreTooMany parts bounds f) ⊎ ((fault.Refused r ≡ refusal 81 (place.Limit 4194304)) × AreTooLarge parts predicates bounds f)
IsUnwindFault parts predicates bounds f fault.Memory = Unit {0}

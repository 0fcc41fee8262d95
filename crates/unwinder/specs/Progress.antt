-- How far an unwinding is: the places below a number are taken.
use Rattle.std.specs.Prelude.{◌≡◌, ℕ, ◌+◌, ◌*◌, ◌^◌, ◌<◌, ◌≤◌, ◌==◌, cond, All, List, [], ◌∷◌, ◌++◌, length, replicate, set, take, Some, None, slice_get, sum_by}
use Rattle.circuit.specs.Wires.{IsWire}
use Rattle.circuit.specs.declared.lit.Gate.{Gate}
use Rattle.circuit.specs.declared.lit.Lit.{Lit}
use Rattle.bit_words.specs.Words.{Grows}
use Rattle.cfa.specs.declared.parts.Function.{Function}
use Rattle.cfa.specs.declared.parts.GraphParts.{GraphParts}
use Rattle.cfa.specs.declared.state.Predicates.{Predicates}
use Rattle.cfa.specs.Contexts.{Pair}
use Rattle.cfa.specs.Each.{Each}
use Rattle.cfa.specs.Predicates.{IsPredicates}
use Rattle.c_meaning.specs.declared.ends.Ends.{Ends}
use Rattle.c_meaning.specs.declared.input.Input.{Input}
use Rattle.unwinder_reach.specs.declared.reached.bounds.Bounds.{Bounds}
use Rattle.unwinder_reach.specs.declared.reached.step.Step.{Step}
use Rattle.unwinder_reach.specs.reached.Reaching.{AreReached}
use Rattle.sym_expr.specs.sym_steps.Steps.{Agrees}
use Rattle.unwinder_reach.specs.unwinding_size.Sizes.{pairs_weight, size_sum, steps_into}
use Rattle.unwinder.specs.input_words.Worlds.{world_of}
use Rattle.unwinder.specs.declared.arrival.Arrival.{Arrival}
use Rattle.unwinder.specs.declared.taking.Place.{Place}
use Rattle.unwinder.specs.declared.unwound.Entry.{Entry}
use Rattle.unwinder.specs.Agenda.{AreArrivals, IsArrival, Stands}
use Rattle.unwinder.specs.Lists.{IsInputFor}
use Rattle.unwinder.specs.Place.{IsPlace, most_place_wires}
use Rattle.unwinder.specs.Putting.{PutCounts, PutFrom}
use Rattle.unwinder.specs.Unwinding.{IsEntry, StartsFirst}

-- how many ways wait
abbrev pub waiting : List (List Arrival) → ℕ
waiting agenda = sum_by (λ (row : List Arrival). length row) agenda

abbrev pub step_count : List (List Step) → ℕ
step_count steps = sum_by (λ (row : List Step). length row) steps

-- What taking the place of a number asks: it is there, with its ways and the places to which its steps lead, and there is
-- room for its wires.
pub record CanTake (parts : GraphParts) (predicates : Predicates) (entry : ℕ) (answers : List (List Lit)) (n : ℕ) (gates : List Gate) (p : Pair) (steps : List Step) (agenda : List (List Arrival)) : Type 0 where
  pub place : n < length agenda
  pub own : entry < length parts.functions
  pub ways : (row : List Arrival) → slice_get agenda n ≡ Some row → Each row (λ k a. IsArrival parts entry gates p a)
  pub meanings : IsPredicates parts predicates
  pub answer_wires : All (All (IsWire gates)) answers
  pub edges : Each steps (λ k s. s.edge < length parts.edges)
  pub places : Each steps (λ k s. s.to < length agenda)
  pub room : (row : List Arrival) → slice_get agenda n ≡ Some row → length gates + most_place_wires parts predicates entry p (length row) (length steps) ≤ 2 ^ 30

-- The place of a number was taken: its entries are behind those that were there, and its onward arrivals are in the rows.
pub record TakesPlace (parts : GraphParts) (predicates : Predicates) (entry : ℕ) (ends : Ends) (answers : List (List Lit)) (n : ℕ) (old new : List Gate) (p : Pair) (steps : List Step) (before after : List Entry) (agenda left : List (List Arrival)) : Type 0 where
  pub row : List Arrival
  pub row_is : slice_get agenda n ≡ Some row
  pub place : Place
  pub is : IsPlace parts predicates entry ends answers old new row p steps place
  pub grows : Grows old new (most_place_wires parts predicates entry p (length row) (length steps))
  pub entries : after ≡ before ++ place.entries
  pub put : PutFrom (set agenda n []) left steps place.onward 0
  pub counts : PutCounts (set agenda n []) left steps place.onward 0

-- The places below a number are taken, and of every input's run there stands what it should.
pub record Unwinds (parts : GraphParts) (predicates : Predicates) (f : Function) (entry : ℕ) (bounds : Bounds) (ends : Ends) (pairs : List Pair) (steps : List (List Step)) (first : List Gate) (n : ℕ) (now : List Gate) (entries : List Entry) (agenda : List (List Arrival)) : Type 0 where
  pub most : ℕ
  pub grows : Grows first now most
  pub entries_are : (i : ℕ) (e : Entry) → slice_get entries i ≡ Some e → IsEntry predicates now e
  pub rows : length agenda ≡ length pairs
  pub arrivals : AreArrivals parts entry now pairs agenda n
  pub stands : (x : Input) → IsInputFor f x → Stands parts predicates f bounds ends pairs now entries agenda n x
  -- the way of the start alone has no edge, and the first entry, which it makes
  pub edged : (j l : ℕ) (row : List Arrival) (a : Arrival) → n ≤ j → slice_get agenda j ≡ Some row → slice_get row l ≡ Some a → a.edge ≡ None → (n ≡ 0) × (j ≡ 0)
  pub starts : StartsFirst entries
  pub emptied : (i : ℕ) (row : List Arrival) → i < n → slice_get agenda i ≡ Some row → row ≡ []
  -- no more ways wait at a place than lead there from those that are taken, and at the first place that of the start
  pub few : (j : ℕ) (row : List Arrival) → n ≤ j → slice_get agenda j ≡ Some row → length row ≤ steps_into (take n steps) j + cond (j == 0) 1 0
  pub wires : length now + waiting agenda ≤ length first + 1 + 32 * pairs_weight parts predicates f steps 0 (take n pairs) + (65 * length predicates.meanings + 75) * n
  pub count : length entries + waiting agenda ≡ 1 + step_count (take n steps)

-- an agenda with one way at the first place, and none at so many others
abbrev pub begun : Arrival → ℕ → List (List Arrival)
begun a others = (a ∷ []) ∷ replicate others []

-- What an unwinding stands on: the pairs that are reached, not too many and of no great size sum, over a circuit whose
-- inputs are few, and words that in each input's world are its answers.
pub record CanUnwind (parts : GraphParts) (predicates : Predicates) (f : Function) (entry : ℕ) (bounds : Bounds) (pairs : List Pair) (steps : List (List Step)) (answers : List (List Lit)) (first : List Gate) : Type 0 where
  pub own : slice_get parts.functions entry ≡ Some f
  pub reached : AreReached parts bounds f pairs steps
  pub few : length pairs ≤ 50000
  pub small : size_sum parts predicates f pairs steps ≤ 4194304
  pub meanings : length predicates.meanings ≤ 64
  pub inputs : length first ≤ 2 ^ 21
  pub answer_wires : All (All (IsWire first)) answers
  pub agree : (x : Input) → IsInputFor f x → (number : ℕ) → number < bounds.answers → Agrees first answers (world_of f.parameters bounds.answers x) x number

-- all places are taken
abbrev pub UnwindsAll : GraphParts → Predicates → Function → ℕ → Bounds → Ends → List Pair → List (List Step) → List Gate → List Gate → List Entry → Type 0
UnwindsAll parts predicates f entry bounds ends pairs steps first now entries =
    (agenda : List (List Arrival)) × Unwinds parts predicates f entry bounds ends pairs steps first (length pairs) now entries agenda

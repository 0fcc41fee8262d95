-- What the ways into a place come to: one state, where any is open.
use Rattle.std.specs.Prelude.{◌≡◌, ℕ, ◌+◌, ◌-◌, ◌*◌, true, false, All, List, [], ◌∷◌, ◌++◌, Option, Some, None, length, slice_get}
use Rattle.circuit.specs.Truth.{World}
use Rattle.circuit.specs.Wires.{IsWire, lit_holds}
use Rattle.circuit.specs.declared.lit.Gate.{Gate}
use Rattle.bit_words.specs.Words.{Grows}
use Rattle.cfa.specs.declared.parts.Function.{Function}
use Rattle.cfa.specs.declared.parts.GraphParts.{GraphParts}
use Rattle.cfa.specs.Contexts.{Pair}
use Rattle.sym_expr.specs.Stores.{cells_in}
use Rattle.sym_expr.specs.declared.sym_steps.state.SymState.{SymState}
use Rattle.unwinder_reach.specs.unwinding_size.Sizes.{store_cells}
use Rattle.unwinder.specs.declared.arrival.Arrival.{Arrival}
use Rattle.unwinder.specs.declared.merging.Met.{Met}
use Rattle.unwinder.specs.Agenda.{IsArrival, IsSymAt, TakenAlone}

-- how many cells the states at a pair have, where runs begin at the function of a number
abbrev pub cells_from : GraphParts → Option Function → Pair → ℕ
cells_from parts None p = 0
cells_from parts (Some f) p = store_cells parts f p.context

abbrev pub cells_at : GraphParts → ℕ → Pair → ℕ
cells_at parts entry p = cells_from parts (slice_get parts.functions entry) p

-- the most wires that so many ways into a pair of so many cells use to become one
abbrev pub most_merge_wires : ℕ → ℕ → ℕ
most_merge_wires cells ways = (256 * cells + 1) * (ways - 1)

-- One state for the ways of a row: its guard holds where one of them is taken, and where one alone is, it is that one's state.
pub record Meets (parts : GraphParts) (entry : ℕ) (p : Pair) (old new : List Gate) (row : List Arrival) (m : Met) : Type 0 where
  pub guard : IsWire new m.guard
  pub at : IsSymAt parts entry new p m.state
  pub none_taken : (w : World) → ((k : ℕ) (a : Arrival) → slice_get row k ≡ Some a → lit_holds old a.guard w ≡ false) → lit_holds new m.guard w ≡ false
  pub one_taken : (w : World) (k : ℕ) (a : Arrival) → slice_get row k ≡ Some a → lit_holds old a.guard w ≡ true → lit_holds new m.guard w ≡ true
  pub frames : (w : World) (k : ℕ) (a : Arrival) (s : SymState) → TakenAlone old row w k a s → m.state.frames ≡ s.frames
  pub cells : (w : World) (k : ℕ) (a : Arrival) (s : SymState) → TakenAlone old row w k a s → cells_in new m.state.store.cells w ≡ cells_in old s.store.cells w

-- none where no way is open
abbrev pub IsMet : GraphParts → ℕ → Pair → List Gate → List Gate → List Arrival → Option Met → Type 0
IsMet parts entry p old new row None = (new ≡ old) × ((k : ℕ) (a : Arrival) → slice_get row k ≡ Some a → a.state ≡ None)
IsMet parts entry p old new row (Some m) = Meets parts entry p old new row m

-- words over a circuit's wires, so many
pub record AreWords (gates : List Gate) (count : ℕ) (s : SymState) : Type 0 where
  pub wires : All (All (IsWire gates)) s.store.cells
  pub count_is : length s.store.cells ≡ count

-- what a state that was met has, and the state of a way
abbrev pub IsWired : List Gate → ℕ → Option Met → Type 0
IsWired gates count o = (m : Met) → o ≡ Some m → IsWire gates m.guard × AreWords gates count m.state

abbrev pub IsWiredWay : List Gate → ℕ → Arrival → Type 0
IsWiredWay gates count a = IsWire gates a.guard × ((s : SymState) → a.state ≡ Some s → AreWords gates count s)

-- one way more comes to what those before come to
abbrev pub Gathers : GraphParts → ℕ → Pair → List Gate → List Gate → Option Met → Arrival → Option Met → Type 0
Gathers parts entry p mid new met a o =
    (old : List Gate) (row : List Arrival) (most : ℕ) → Grows old mid most → ((k : ℕ) (b : Arrival) → slice_get row k ≡ Some b → IsArrival parts entry old p b) → IsArrival parts entry old p a → IsMet parts entry p old mid row met → IsMet parts entry p old new (row ++ a ∷ []) o

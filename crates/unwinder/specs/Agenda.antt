-- What the unwinder keeps, place by place: the agenda has for each pair of node and context the ways into it that wait.
use Rattle.std.specs.Prelude.{◌≡◌, ◌⊎◌, ℕ, ◌<◌, ◌≤◌, true, false, All, List, [], ◌∷◌, ◌++◌, length, map, Some, None, slice_get}
use Rattle.std.specs.List.{AllZip}
use Rattle.circuit.specs.Truth.{World}
use Rattle.circuit.specs.Wires.{IsWire, lit_holds}
use Rattle.circuit.specs.declared.lit.Gate.{Gate}
use Rattle.circuit.specs.declared.lit.Lit.{Lit}
use Rattle.cfa.specs.declared.parts.Function.{Function}
use Rattle.cfa.specs.declared.parts.GraphParts.{GraphParts}
use Rattle.cfa.specs.declared.state.Predicates.{Predicates}
use Rattle.cfa.specs.declared.state.State.{State}
use Rattle.cfa.specs.Contexts.{Pair}
use Rattle.c_meaning.specs.declared.ends.Ends.{Ends}
use Rattle.c_meaning.specs.declared.input.Input.{Input}
use Rattle.c_meaning.specs.declared.stepped.Stepped.TheVariants.{Moved}
use Rattle.c_meaning.specs.Pairs.{IsLongestWithin, IsRunWithin, last_pair_in}
use Rattle.c_meaning.specs.Runs.{IsBeginning, Run, counts, last_in}
use Rattle.c_meaning.specs.Steps.{next}
use Rattle.unwinder_reach.specs.declared.reached.bounds.Bounds.{Bounds}
use Rattle.unwinder_reach.specs.declared.reached.step.Step.{Step}
use Rattle.sym_expr.specs.Stores.{cells_in}
use Rattle.sym_expr.specs.declared.sym_steps.state.SymState.{SymState}
use Rattle.sym_expr.specs.sym_steps.Steps.{Agrees, goes_along, state_in}
use Rattle.unwinder.specs.declared.arrival.Arrival.{Arrival}
use Rattle.unwinder.specs.declared.unwound.Entry.{Entry}
use Rattle.unwinder.specs.Frames.{IsAt}
use Rattle.unwinder.specs.Lists.{Reached, Tells, entries_in, reached_in, truths_in}
use Rattle.unwinder.specs.input_words.Worlds.{world_of}

-- ---- arrivals

-- In every world the symbolic state is a state at the pair, and its words are over the circuit's wires.
pub record IsSymAt (parts : GraphParts) (entry : ℕ) (gates : List Gate) (p : Pair) (s : SymState) : Type 0 where
  pub at : (w : World) → IsAt parts entry p (state_in gates s w)
  pub cells : All (All (IsWire gates)) s.store.cells

-- A way into a pair: an open one has a state there, and one without a state is taken in no world.
pub record IsArrival (parts : GraphParts) (entry : ℕ) (gates : List Gate) (p : Pair) (a : Arrival) : Type 0 where
  pub guard : IsWire gates a.guard
  pub opened : (s : SymState) → a.state ≡ Some s → IsSymAt parts entry gates p s
  pub closed : a.state ≡ None → (w : World) → lit_holds gates a.guard w ≡ false

-- the arrivals at the places from a number on are ways into their pairs
abbrev pub AreArrivals : GraphParts → ℕ → List Gate → List Pair → List (List Arrival) → ℕ → Type 0
AreArrivals parts entry gates pairs agenda n =
    (i l : ℕ) (row : List Arrival) (a : Arrival) (p : Pair) → n ≤ i → slice_get agenda i ≡ Some row → slice_get row l ≡ Some a → slice_get pairs i ≡ Some p → IsArrival parts entry gates p a

-- no arrival at a place from a number on is taken in a world
abbrev pub NoneArrives : List Gate → List (List Arrival) → ℕ → World → Type 0
NoneArrives gates agenda n w =
    (i l : ℕ) (row : List Arrival) (a : Arrival) → n ≤ i → slice_get agenda i ≡ Some row → slice_get row l ≡ Some a → lit_holds gates a.guard w ≡ false

-- of the arrivals at places from a number on, one alone is taken in a world: that of a number at a place
pub record ArrivesAlone (gates : List Gate) (agenda : List (List Arrival)) (n : ℕ) (w : World) (j k : ℕ) (a : Arrival) : Type 0 where
  pub later : n ≤ j
  pub row : List Arrival
  pub row_is : slice_get agenda j ≡ Some row
  pub arrival_is : slice_get row k ≡ Some a
  pub taken : lit_holds gates a.guard w ≡ true
  pub alone : (i l : ℕ) (other : List Arrival) (b : Arrival) → n ≤ i → slice_get agenda i ≡ Some other → slice_get other l ≡ Some b → lit_holds gates b.guard w ≡ true → (i ≡ j) × (l ≡ k)

-- ---- an input's run, after the places below a number were taken

module _ (parts : GraphParts) (predicates : Predicates) (f : Function) (bounds : Bounds) (ends : Ends) (pairs : List Pair) (gates : List Gate) (entries : List Entry) (agenda : List (List Arrival)) (n : ℕ) (input : Input) where
  abbrev pub world : World
  world = world_of f.parameters bounds.answers input

  -- the entries that hold tell of these states
  abbrev pub Told : List Reached → Type 0
  Told states = AllZip (Tells parts predicates ends gates world input) (entries_in gates entries world) states

  -- The run waits: a beginning within the bounds, all of whose states but the last are told, and the last one is where
  -- the one arrival that is taken brings it.
  pub record IsWaiting : Type 0 where
    pub run : Run
    pub begins : IsBeginning parts f input run
    pub within : IsRunWithin bounds.turns bounds.frames bounds.answers parts f run
    pub place : ℕ
    pub number : ℕ
    pub arrival : Arrival
    pub arrives : ArrivesAlone gates agenda n world place number arrival
    pub pair : slice_get pairs place ≡ Some (last_pair_in parts f run)
    pub state : SymState
    pub opened : arrival.state ≡ Some state
    pub frames : state.frames ≡ (last_in run).frames
    pub cells : cells_in gates state.store.cells world ≡ (last_in run).cells
    pub before : List Reached
    pub split : reached_in run ≡ before ++ (arrival.edge, last_in run) ∷ []
    pub told : Told before

  -- The run is told: its longest beginning within the bounds, and no arrival is taken.
  pub record IsTold : Type 0 where
    pub run : Run
    pub longest : IsLongestWithin bounds.turns bounds.frames bounds.answers parts f input run
    pub none : NoneArrives gates agenda n world
    pub told : Told (reached_in run)

  abbrev pub Stands : Type 0
  Stands = IsWaiting ⊎ IsTold

-- ---- taking a place

-- the entry of an arrival at a node
abbrev pub entry_at : ℕ → List Lit → Lit → Arrival → Entry
entry_at node predicates ended a = record { edge = a.edge; node = node; guard = a.guard; predicates = predicates; ended = ended }

-- The arrivals of a row were put behind those that an agenda has, one for each step, at the places to which these lead.
pub record Puts (n : ℕ) (old new : List (List Arrival)) (steps : List Step) (onward : List Arrival) : Type 0 where
  pub long : length onward ≡ length steps
  pub rows : length new ≡ length old
  -- the number at its place of what is put for a step
  pub number : ℕ → ℕ
  pub kept : (i l : ℕ) (row : List Arrival) (a : Arrival) → n < i → slice_get old i ≡ Some row → slice_get row l ≡ Some a → (more : List Arrival) × (slice_get new i ≡ Some more) × (slice_get more l ≡ Some a)
  pub put : (m : ℕ) (s : Step) (a : Arrival) → slice_get steps m ≡ Some s → slice_get onward m ≡ Some a → (more : List Arrival) × (slice_get new s.to ≡ Some more) × (slice_get more (number m) ≡ Some a)
  pub only : (i l : ℕ) (more : List Arrival) (a : Arrival) → n < i → slice_get new i ≡ Some more → slice_get more l ≡ Some a
      → ((row : List Arrival) × (slice_get old i ≡ Some row) × (slice_get row l ≡ Some a)) ⊎ ((m : ℕ) × (s : Step) × (slice_get steps m ≡ Some s) × (slice_get onward m ≡ Some a) × (i ≡ s.to) × (l ≡ number m))

-- one arrival of a row alone is taken in a world
pub record TakenAlone (gates : List Gate) (row : List Arrival) (w : World) (k : ℕ) (a : Arrival) (s : SymState) : Type 0 where
  pub there : slice_get row k ≡ Some a
  pub opened : a.state ≡ Some s
  pub taken : lit_holds gates a.guard w ≡ true
  pub alone : (l : ℕ) (b : Arrival) → slice_get row l ≡ Some b → lit_holds gates b.guard w ≡ true → l ≡ k

-- the state of an arrival at a pair in a world
abbrev pub state_at : List Gate → Pair → SymState → World → State
state_at gates p s w = record { node = p.node; frames = s.frames; cells = cells_in gates s.store.cells w; taken = p.context.taken }

-- What an onward arrival along the edge of a step says of a state where it is taken: what comes next there.
pub record IsOnward (parts : GraphParts) (old new : List Gate) (answers : List (List Lit)) (w : World) (at : State) (s : Step) (a : Arrival) : Type 0 where
  pub edge : a.edge ≡ Some s.edge
  pub goes : (input : Input) → lit_holds new a.guard w ≡ goes_along s.edge (next parts input at)
  pub leads : (input : Input) (to : State) → Agrees old answers w input at.taken → next parts input at ≡ Moved s.edge to → (q : SymState) × (a.state ≡ Some q) × (q.frames ≡ to.frames) × (cells_in new q.store.cells w ≡ to.cells)

-- What taking a place says in a world: where none of its arrivals is taken no onward one is, and where one alone is taken
-- the literals tell of its state, and the onward arrivals of what comes next.
pub record TakesIn (parts : GraphParts) (predicates : Predicates) (ends : Ends) (old new : List Gate) (answers : List (List Lit)) (row : List Arrival) (p : Pair) (truths : List Lit) (ended : Lit) (steps : List Step) (onward : List Arrival) (w : World) : Type 0 where
  pub none : ((k : ℕ) (a : Arrival) → slice_get row k ≡ Some a → lit_holds old a.guard w ≡ false) → (m : ℕ) (a : Arrival) → slice_get onward m ≡ Some a → lit_holds new a.guard w ≡ false
  pub truths_are : (k : ℕ) (a : Arrival) (s : SymState) → TakenAlone old row w k a s → map (λ l. lit_holds new l w) truths ≡ truths_in parts predicates (state_at old p s w)
  pub ended_is : (k : ℕ) (a : Arrival) (s : SymState) → TakenAlone old row w k a s → (input : Input) → lit_holds new ended w ≡ counts ends (next parts input (state_at old p s w))
  pub onward_are : (k : ℕ) (a : Arrival) (s : SymState) → TakenAlone old row w k a s → AllZip (IsOnward parts old new answers w (state_at old p s w)) steps onward

-- The contexts of control: for each frame the call that it comes from and the counters of the loops that it is in, and
-- how many answers were taken.
use Rattle.std.specs.Prelude.{◌≡◌, ◌≢◌, ℕ, ◌+◌, ◌≤◌, Bool, true, false, min, List, [], ◌∷◌, ◌++◌, length, take, Option, Some, None, slice_get, IsTrue}
use Rattle.std.specs.Option.{IsSomeAnd}
use Rattle.cfa.specs.declared.parts.Edge.{Edge}
use Rattle.cfa.specs.declared.parts.Function.{Function}
use Rattle.cfa.specs.declared.parts.GraphParts.{GraphParts}
use Rattle.cfa.specs.declared.parts.Node.{Node}
use Rattle.cfa.specs.declared.parts.Operation.{Operation}
use Rattle.cfa.specs.declared.parts.Operation.TheVariants.{Call, Return, Answer}
use Rattle.cfa.specs.Each.{Each}

-- a frame: the edge of the call that it comes from, none for the first, and the counters of the loops that it is in,
-- that of the outermost first
pub record FrameContext : Type 0 where
  pub call : Option ℕ
  pub counters : List ℕ

-- the frames, the one that runs first and then each one's caller, and the answers taken
pub record Context : Type 0 where
  pub frames : List FrameContext
  pub taken : ℕ

-- a pair of node and context
pub record Pair : Type 0 where
  pub node : ℕ
  pub context : Context

abbrev pub node_depth : Option Node → ℕ
node_depth None = 0
node_depth (Some n) = n.depth

-- how many loops a node lies in
abbrev pub depth_of : GraphParts → ℕ → ℕ
depth_of parts node = node_depth (slice_get parts.nodes node)

-- 1 more in the last counter
abbrev pub last_raised : List ℕ → List ℕ
last_raised [] = []
last_raised (n ∷ []) = (n + 1) ∷ []
last_raised (n ∷ m ∷ ns) = n ∷ last_raised (m ∷ ns)

abbrev pub entered : Bool → List ℕ → List ℕ
entered true counters = counters ++ 0 ∷ []
entered false counters = counters

abbrev pub turned : Bool → List ℕ → List ℕ
turned true counters = last_raised counters
turned false counters = counters

-- the counters of the loops that both ends of an edge lie in, and a new one where it enters a loop
abbrev pub open_counters : GraphParts → Edge → List ℕ → List ℕ
open_counters parts e counters = entered e.enter (take (min (depth_of parts e.source) (depth_of parts e.target)) counters)

-- the counters after an edge within a function: a back edge adds 1 to the last that is open
abbrev pub counters_after : GraphParts → Edge → List ℕ → List ℕ
counters_after parts e counters = turned e.back (open_counters parts e counters)

abbrev pub frames_after : GraphParts → Edge → List FrameContext → List FrameContext
frames_after parts e [] = []
frames_after parts e (f ∷ callers) = record { call = f.call; counters = counters_after parts e f.counters } ∷ callers

abbrev pub callers_of : List FrameContext → List FrameContext
callers_of [] = []
callers_of (f ∷ callers) = callers

abbrev pub along_operation : GraphParts → ℕ → Edge → Operation → Context → Context
along_operation parts at e (Call callee words arrays) c =
    record { frames = record { call = Some at; counters = [] } ∷ c.frames; taken = c.taken }
along_operation parts at e (Return call dest) c = record { frames = callers_of c.frames; taken = c.taken }
along_operation parts at e (Answer input dest) c = record { frames = frames_after parts e c.frames; taken = c.taken + 1 }
along_operation parts at e _ c = record { frames = frames_after parts e c.frames; taken = c.taken }

-- The context after the edge of a number: a call adds a frame without counters, a return goes back to the caller's
-- frame, which is as it was, and any other edge changes the counters of the frame that runs. An answer is one more taken.
abbrev pub along : GraphParts → ℕ → Edge → Context → Context
along parts at e c = along_operation parts at e e.operation c

-- a return goes back to the caller of the frame that runs
abbrev pub ReturnsHome : Operation → Context → Type 0
ReturnsHome (Return call dest) c = IsSomeAnd (slice_get c.frames 0) (λ f. f.call ≡ Some call)
ReturnsHome _ c = Unit {0}

-- one pair follows another along the edge of a number, whatever its guard says
pub record Follows (parts : GraphParts) (at : ℕ) (e : Edge) (p q : Pair) : Type 0 where
  pub edge : slice_get parts.edges at ≡ Some e
  pub leaves : e.source ≡ p.node
  pub home : ReturnsHome e.operation p.context
  pub reaches : q ≡ record { node = e.target; context = along parts at e p.context }

-- one pair follows another along some edge
abbrev pub IsNext : GraphParts → Pair → Pair → Type 0
IsNext parts p q = (at : ℕ) × (e : Edge) × Follows parts at e p q

-- a walk goes on from a pair, one edge for each further pair
abbrev pub IsWalk : GraphParts → Pair → List Pair → Type 0
IsWalk parts p [] = Unit {0}
IsWalk parts p (q ∷ qs) = IsNext parts p q × IsWalk parts q qs

-- a run begins at the entry of a function, with one frame in no loop
abbrev pub first_context : Context
first_context = record { frames = record { call = None; counters = [] } ∷ []; taken = 0 }

abbrev pub first_pair : Function → Pair
first_pair f = record { node = f.entry; context = first_context }

-- a back edge has a counter that it raises
abbrev pub HasCounter : GraphParts → Edge → Context → Type 0
HasCounter parts e c = IsSomeAnd (slice_get c.frames 0) (λ f. open_counters parts e f.counters ≢ [])

-- No walk from the entry of a function comes to one pair twice, and none takes a back edge with no counter to raise.
pub record IsOnce (parts : GraphParts) : Type 0 where
  pub apart : (k : ℕ) (f : Function) (walk : List Pair) → slice_get parts.functions k ≡ Some f → IsWalk parts (first_pair f) walk → (i j : ℕ) (p : Pair) → slice_get (first_pair f ∷ walk) i ≡ Some p → slice_get (first_pair f ∷ walk) j ≡ Some p → i ≡ j
  pub counted : (k : ℕ) (f : Function) (walk : List Pair) → slice_get parts.functions k ≡ Some f → IsWalk parts (first_pair f) walk → (i at : ℕ) (e : Edge) (p q : Pair) → slice_get (first_pair f ∷ walk) i ≡ Some p → Follows parts at e p q → IsTrue e.back → HasCounter parts e p.context

-- a context is within bounds: no counter is above the turns, and the frames and answers are at most as many
pub record IsWithin (turns frames answers : ℕ) (c : Context) : Type 0 where
  pub turns_kept : Each c.frames (λ i f. Each f.counters (λ j n. n ≤ turns))
  pub frames_kept : length c.frames ≤ frames
  pub answers_kept : c.taken ≤ answers

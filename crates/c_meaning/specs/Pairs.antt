-- The pairs of node and context along a run.
use Rattle.std.specs.Prelude.{◌≡◌, ℕ, ◌≤◌, List, [], ◌∷◌, length, map, reverse, Option, Some, None, slice_get}
use Rattle.cfa.specs.declared.parts.Edge.{Edge}
use Rattle.cfa.specs.declared.parts.Function.{Function}
use Rattle.cfa.specs.declared.parts.GraphParts.{GraphParts}
use Rattle.cfa.specs.declared.state.Frame.{Frame}
use Rattle.cfa.specs.declared.state.State.{State}
use Rattle.cfa.specs.Contexts.{FrameContext, Pair, along, first_pair, IsWithin}
use Rattle.cfa.specs.Each.{Each}
use Rattle.c_meaning.specs.declared.input.Input.{Input}
use Rattle.c_meaning.specs.Runs.{Run, IsBeginning, edges_in}

-- an edge leads a pair to its target, and the context along it
abbrev pub pair_after : GraphParts → ℕ → Pair → Option Edge → Pair
pair_after parts at p None = p
pair_after parts at p (Some e) = record { node = e.target; context = along parts at e p.context }

-- the pair after the edge of a number
abbrev pub pair_along : GraphParts → Pair → ℕ → Pair
pair_along parts p at = pair_after parts at p (slice_get parts.edges at)

-- the pair after each of these edges
abbrev pub pairs_along : GraphParts → Pair → List ℕ → List Pair
pairs_along parts p [] = []
pairs_along parts p (at ∷ edges) = pair_along parts p at ∷ pairs_along parts (pair_along parts p at) edges

-- the pair of each state of a run: its edges lead from the first pair of the entry
abbrev pub pairs_in : GraphParts → Function → Run → List Pair
pairs_in parts entry r = first_pair entry ∷ pairs_along parts (first_pair entry) (edges_in r)

-- the calls that a state's frames come from, that of the frame that runs first
abbrev pub calls_of : State → List (Option ℕ)
calls_of s = reverse (map (λ (f : Frame). f.call) s.frames)

-- a pair and a state have one node, the same calls, and as many answers taken
pub record Fits (p : Pair) (s : State) : Type 0 where
  pub node : p.node ≡ s.node
  pub calls : map (λ (f : FrameContext). f.call) p.context.frames ≡ calls_of s
  pub taken : p.context.taken ≡ s.taken

-- A run is within bounds: at each state no loop's counter is above the turns, and the frames and the answers taken are at
-- most as many.
abbrev pub IsRunWithin : (turns frames answers : ℕ) → GraphParts → Function → Run → Type 0
IsRunWithin turns frames answers parts entry r = Each (pairs_in parts entry r) (λ n p. IsWithin turns frames answers p.context)

-- the pair at the end of these edges
abbrev pub pair_along_all : GraphParts → Pair → List ℕ → Pair
pair_along_all parts p [] = p
pair_along_all parts p (at ∷ edges) = pair_along_all parts (pair_along parts p at) edges

-- the pair of a run's last state
abbrev pub last_pair_in : GraphParts → Function → Run → Pair
last_pair_in parts entry r = pair_along_all parts (first_pair entry) (edges_in r)

-- The longest beginning of an input's run all of whose states are within bounds: the whole run, or as far as the state
-- before the first that isn't.
pub record IsLongestWithin (turns frames answers : ℕ) (parts : GraphParts) (entry : Function) (input : Input) (r : Run) : Type 0 where
  pub begins : IsBeginning parts entry input r
  pub within : IsRunWithin turns frames answers parts entry r
  pub longest : (q : Run) → IsBeginning parts entry input q → IsRunWithin turns frames answers parts entry q → length q.moves ≤ length r.moves

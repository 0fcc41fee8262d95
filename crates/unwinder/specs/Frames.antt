-- What all states at one pair of node and context have in common: their frames, and how many cells they have.
use Rattle.std.specs.Prelude.{◌≡◌, ℕ, ◌+◌, List, [], map, Some, slice_get}
use Rattle.cfa.specs.declared.parts.Edge.{Edge}
use Rattle.cfa.specs.declared.parts.GraphParts.{GraphParts}
use Rattle.cfa.specs.declared.parts.Operation.{Operation}
use Rattle.cfa.specs.declared.parts.Operation.TheVariants.{Call}
use Rattle.cfa.specs.declared.state.Frame.{Frame}
use Rattle.cfa.specs.declared.state.State.{State}
use Rattle.cfa.specs.Contexts.{FrameContext, Pair}
use Rattle.cfa.specs.States.{IsState}
use Rattle.cfa.specs.Values.{array_start}
use Rattle.c_meaning.specs.Pairs.{calls_of}

-- the places of the arrays that a call lends, where this frame runs
abbrev pub lent_by : Frame → Operation → List ℕ
lent_by below (Call callee words arrays) = map (array_start [] below) arrays
lent_by below _ = []

-- the first frame is lent nothing, and each other what its call lends, by the frame below
pub record AreLent (parts : GraphParts) (frames : List Frame) : Type 0 where
  pub first : (frame : Frame) → slice_get frames 0 ≡ Some frame → frame.arrays ≡ []
  pub calls : (k at : ℕ) (below frame : Frame) (e : Edge) → slice_get frames k ≡ Some below → slice_get frames (k + 1) ≡ Some frame → frame.call ≡ Some at → slice_get parts.edges at ≡ Some e → frame.arrays ≡ lent_by below e.operation

-- A state of the graph is at a pair: its first frame is of the function of a number, and it has the pair's node, the same
-- calls, and the arrays that these lend.
pub record IsAt (parts : GraphParts) (entry : ℕ) (p : Pair) (s : State) : Type 0 where
  pub state : IsState parts s
  pub owner : slice_get state.owners 0 ≡ Some entry
  pub node : p.node ≡ s.node
  pub calls : map (λ (f : FrameContext). f.call) p.context.frames ≡ calls_of s
  pub lent : AreLent parts s.frames

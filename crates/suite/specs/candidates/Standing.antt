-- What the counters of frames stand for. No public clause needs it.
use Rattle.std.specs.Prelude.{◌≡◌, ℕ, ◌∷◌, List, Some, length, map, slice_get}
use Rattle.cfa.specs.Contexts.{Context, FrameContext, Pair, along}
use Rattle.cfa.specs.declared.parts.Edge.{Edge}
use Rattle.cfa.specs.declared.parts.Function.{Function}
use Rattle.cfa.specs.declared.parts.GraphParts.{GraphParts}
use Rattle.unwinder_reach.specs.reached.Reaching.{IsWithinBounds}
use Rattle.unwinder_reach.specs.declared.reached.bounds.Bounds.{Bounds}
use Rattle.suite.specs.candidates.Within.{AreEdgesWithin, AreWithinFrom}
use Rattle.suite.specs.declared.candidates.standing.Standing.{Standing}

-- the counters of each frame, of that which runs first
abbrev pub counters_of : List FrameContext → List (List ℕ)
counters_of frames = map (λ (f : FrameContext). f.counters) frames

-- it has the counters of a context, and counts its frames and answers
pub record Stands (s : Standing) (c : Context) : Type 0 where
  pub counters : counters_of c.frames ≡ s.counters.items ∷ s.callers
  pub frames : length c.frames ≡ s.frames
  pub taken : c.taken ≡ s.taken

-- it stands for the context after an edge, which is within the bounds
pub record GoesOn (parts : GraphParts) (bounds : Bounds) (at : ℕ) (c : Context) (s : Standing) : Type 0 where
  pub edge : Edge
  pub there : slice_get parts.edges at ≡ Some edge
  pub stands : Stands s (along parts at edge c)
  pub within : IsWithinBounds bounds (along parts at edge c)

-- It stands for a pair within the bounds, from which these edges are left: if they stay within the bounds, all do.
pub record IsOnWay (parts : GraphParts) (bounds : Bounds) (f : Function) (edges rest : List ℕ) (s : Standing) : Type 0 where
  pub pair : Pair
  pub stands : Stands s pair.context
  pub within : IsWithinBounds bounds pair.context
  pub all : AreWithinFrom parts bounds pair rest → AreEdgesWithin parts bounds f edges

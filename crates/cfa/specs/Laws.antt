-- What follows from the definitions, for those who rest on them.
use Rattle.std.specs.Prelude.{◌≡◌, ◌↔◌, ℕ, ◌^◌, ◌<◌, ◌≤◌, List, Contains, IsTrue, Ok, Some, length, slice_get}
use Rattle.std.specs.Option.{IsSomeAnd}
use Rattle.c_values.specs.declared.kinds.Kind.{Kind}
use Rattle.c_values.specs.Kind.{IsValue}
use Rattle.cfa.specs.declared.expr.Expr.{Expr}
use Rattle.cfa.specs.declared.parts.GraphParts.{GraphParts}
use Rattle.cfa.specs.declared.state.Frame.{Frame}
use Rattle.cfa.specs.Graph.{IsGraph, IsExit}
use Rattle.cfa.specs.Kinds.{kind_of}
use Rattle.cfa.specs.Rules.{Room, checked_kind}
use Rattle.cfa.specs.Table.{outgoing_of, ContinuesAt}
use Rattle.cfa.specs.Values.{is_index, valued, value_of}

-- the kind that the rules give an expression is its kind, and the kind at which it is evaluated
pub record KindsAgree (room : Room) (cells : List ℕ) (frame : Frame) (e : Expr) (k : Kind) : Type 0 where
  pub own : kind_of e ≡ k
  pub evaluated : (valued cells frame e).kind ≡ k

abbrev pub FittingKinds : Type 0
FittingKinds =
    (room : Room) (cells : List ℕ) (frame : Frame) (e : Expr) (k : Kind) → checked_kind room e ≡ Some k → KindsAgree room cells frame e k

-- what an expression that meets the rules comes to is a value of its kind, whatever the cells hold
abbrev pub FittingValues : Type 0
FittingValues =
    (room : Room) (cells : List ℕ) (frame : Frame) (e : Expr) (k : Kind) (v : ℕ) → checked_kind room e ≡ Some k → value_of cells frame e ≡ Ok v → IsValue k v

-- the numbers of the edges that leave a node name these edges
abbrev pub OutgoingEdges : Type 0
OutgoingEdges =
    (parts : GraphParts) (node at : ℕ) → Contains (outgoing_of parts node) at ↔ IsSomeAnd (slice_get parts.edges at) (λ e. e.source ≡ node)

-- by these numbers, a node of a graph goes on by one edge that is no guard, or by two guards of one test, that of truth
-- first, unless it is an exit
abbrev pub WaysOn : Type 0
WaysOn =
    (parts : GraphParts) (node : ℕ) → IsGraph parts → node < length parts.nodes → ¬ IsExit parts node → ContinuesAt parts (outgoing_of parts node)

-- an index of at most 2^63 elements names one of them exactly where its pattern is below their number
abbrev pub IndexesOfElements : Type 0
IndexesOfElements =
    (length i : ℕ) (kind : Kind) → length ≤ 2 ^ 63 → IsValue kind i → IsTrue (is_index length kind i) ↔ (i < length)

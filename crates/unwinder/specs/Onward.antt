-- The ways on from a place.
use Rattle.std.specs.Prelude.{◌≡◌, ℕ, ◌&&◌, false, List, Some, None, slice_get}
use Rattle.std.specs.Option.{IsSomeAnd}
use Rattle.circuit.specs.Truth.{World}
use Rattle.circuit.specs.Wires.{IsWire, lit_holds}
use Rattle.circuit.specs.declared.lit.Gate.{Gate}
use Rattle.circuit.specs.declared.lit.Lit.{Lit}
use Rattle.cfa.specs.declared.parts.GraphParts.{GraphParts}
use Rattle.cfa.specs.declared.state.State.{State}
use Rattle.cfa.specs.Each.{Each}
use Rattle.c_meaning.specs.declared.stepped.Stepped.{Stepped}
use Rattle.c_meaning.specs.declared.stepped.Stepped.TheVariants.{Moved}
use Rattle.sym_expr.specs.declared.sym_steps.state.SymState.{SymState}
use Rattle.sym_expr.specs.declared.sym_steps.state.Way.{Way}
use Rattle.sym_expr.specs.sym_steps.Steps.{goes_along}
use Rattle.unwinder.specs.declared.arrival.Arrival.{Arrival}

-- a way along the edge of a number
abbrev pub LeadsAlong : List Way → ℕ → Way → Type 0
LeadsAlong ways at way = ((k : ℕ) × (slice_get ways k ≡ Some way)) × (way.edge ≡ at)

-- what the ways of a step tell in a world of what comes next there
pub record WaysTell (gates : List Gate) (ways : List Way) (w : World) (next : Stepped) : Type 0 where
  pub each : Each ways (λ k way. lit_holds gates way.taken w ≡ goes_along way.edge next)
  pub onward : (at : ℕ) (to : State) → next ≡ Moved at to → (way : Way) × LeadsAlong ways at way

-- An arrival along an edge: its guard holds where that of the place does and the run goes along the edge, and its state is
-- the one behind the step, at the edge's target.
pub record IsAlong (parts : GraphParts) (old new : List Gate) (guard : Lit) (ways : List Way) (behind : SymState) (at : ℕ) (a : Arrival) : Type 0 where
  pub edge : a.edge ≡ Some at
  pub wire : IsWire new a.guard
  pub holds : (w : World) (next : Stepped) → WaysTell old ways w next → lit_holds new a.guard w ≡ (lit_holds old guard w && goes_along at next)
  pub unguarded : (w : World) → lit_holds old guard w ≡ false → lit_holds new a.guard w ≡ false
  pub closed : a.state ≡ None → (w : World) → lit_holds new a.guard w ≡ false
  pub way : (q : SymState) → a.state ≡ Some q → (way : Way) × LeadsAlong ways at way
  pub frames : (q : SymState) → a.state ≡ Some q → q.frames ≡ behind.frames
  pub store : (q : SymState) → a.state ≡ Some q → q.store ≡ behind.store
  pub node : (q : SymState) → a.state ≡ Some q → IsSomeAnd (slice_get parts.edges at) (λ e. q.node ≡ e.target)

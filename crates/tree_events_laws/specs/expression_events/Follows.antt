-- That the states of a run do what a meaning says, and that the edges that it takes tell what happens meanwhile.
use Rattle.std.specs.Prelude.{◌≡◌, ℕ, zero, suc, ◌+◌, ◌≤◌, List, [], ◌++◌, Option, Some, None, slice_get}
use Rattle.cfa.specs.declared.parts.Edge.{Edge}
use Rattle.cfa.specs.declared.parts.GraphParts.{GraphParts}
use Rattle.cfa.specs.declared.state.State.{State}
use Rattle.c_meaning.specs.declared.input.Input.{Input}
use Rattle.c_meaning.specs.declared.stepped.Stepped.{Stepped}
use Rattle.c_meaning.specs.declared.stepped.Stepped.TheVariants.{Moved, Returned, Trapped, Blocked, TooDeep}
use Rattle.c_meaning.specs.Runs.{state_from}
use Rattle.c_meaning.specs.Steps.{next}
use Rattle.tree_events.specs.declared.edge_events.event.Event.{Event}
use Rattle.tree_events.specs.edge_events.Told.{told}
use Rattle.tree_meaning.specs.Outcomes.{Store, End, Done, Gives, Ends, OutOfTurns}
use Rattle.tree_events.specs.Outcomes.{Told}
use Rattle.tree_meaning_laws.specs.expression_laws.Follows.{Moves, ended}

abbrev pub edge_tells : Option Edge → List Event
edge_tells None = []
edge_tells (Some e) = told e

module _ (parts : GraphParts) (input : Input) where
  -- what the edge tells along which a run goes on, if it does
  abbrev pub step_tells : Stepped → List Event
  step_tells (Moved at to) = edge_tells (slice_get parts.edges at)
  step_tells (Returned value) = []
  step_tells (Trapped trap) = []
  step_tells Blocked = []
  step_tells TooDeep = []

  abbrev pub state_tells : Option State → List Event
  state_tells None = []
  state_tells (Some s) = step_tells (next parts input s)

  -- what the edges of so many moves tell, from a state on
  abbrev pub tells : ℕ → State → List Event
  tells zero from = []
  tells (suc n) from = tells n from ++ state_tells (state_from parts input from n)

  -- A run goes from a state to one where something holds, and its edges tell this. The moves and the turns that are left are as
  -- many as these at least, and the turns that are left at most as many.
  pub record Gets (from : State) (low high : ℕ) (Reach : State → Type 0) (left : ℕ) (es : List Event) : Type 0 where
    pub moves : ℕ
    pub to : State
    pub path : Moves parts input moves from to
    pub tell : tells moves from ≡ es
    pub there : Reach to
    pub enough : low ≤ left + moves
    pub few : left ≤ high

  -- a run ends so
  pub record Stops (from : State) (end : End) (es : List Event) : Type 0 where
    pub moves : ℕ
    pub to : State
    pub path : Moves parts input moves from to
    pub tell : tells moves from ≡ es
    pub stops : next parts input to ≡ ended end

  -- a run goes on for so many moves at least
  pub record Lasts (from : State) (low : ℕ) (es : List Event) : Type 0 where
    pub moves : ℕ
    pub to : State
    pub path : Moves parts input moves from to
    pub tell : tells moves from ≡ es
    pub enough : low ≤ moves

  -- from a state, with so many turns, the run does what was done, and its edges tell these events
  abbrev pub FollowsBy : {A : Type 0} → State → (low high : ℕ) → (A → Store → State → Type 0) → List Event → Done A → Type 0
  FollowsBy from low high Reach es (Gives x s) = Gets from low high (Reach x s) s.turns es
  FollowsBy from low high Reach es (Ends end) = Stops from end es
  FollowsBy from low high Reach es OutOfTurns = Lasts from low es

  abbrev pub Follows : {A : Type 0} → State → (low high : ℕ) → (A → Store → State → Type 0) → Told A → Type 0
  Follows from low high Reach t = FollowsBy from low high Reach t.events t.done

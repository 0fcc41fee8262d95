-- That the states of a run do what a meaning says.
use Rattle.std.specs.Prelude.{◌≡◌, ℕ, ◌+◌, ◌≤◌, Some}
use Rattle.cfa.specs.declared.parts.GraphParts.{GraphParts}
use Rattle.cfa.specs.declared.state.State.{State}
use Rattle.c_meaning.specs.declared.input.Input.{Input}
use Rattle.c_meaning.specs.declared.stepped.Stepped.{Stepped}
use Rattle.c_meaning.specs.declared.stepped.Stepped.TheVariants.{Trapped, Blocked, TooDeep}
use Rattle.c_meaning.specs.Runs.{state_from}
use Rattle.c_meaning.specs.Steps.{next}
use Rattle.tree_meaning.specs.Outcomes.{Store, End, TrapEnd, BlockedEnd, TooDeepEnd, Done, Gives, Ends, OutOfTurns}

-- what comes next at an end
abbrev pub ended : End → Stepped
ended (TrapEnd trap) = Trapped trap
ended BlockedEnd = Blocked
ended TooDeepEnd = TooDeep

module _ (parts : GraphParts) (input : Input) where
  -- so many moves lead from one state to another
  abbrev pub Moves : ℕ → State → State → Type 0
  Moves n from to = state_from parts input from n ≡ Some to

  -- A run goes from a state to one where something holds. The moves and the turns that are left are as many as these at
  -- least, and the turns that are left at most as many.
  pub record Gets (from : State) (low high : ℕ) (Reach : State → Type 0) (left : ℕ) : Type 0 where
    pub moves : ℕ
    pub to : State
    pub path : Moves moves from to
    pub there : Reach to
    pub enough : low ≤ left + moves
    pub few : left ≤ high

  -- a run ends so
  pub record Stops (from : State) (end : End) : Type 0 where
    pub moves : ℕ
    pub to : State
    pub path : Moves moves from to
    pub stops : next parts input to ≡ ended end

  -- a run goes on for so many moves at least
  pub record Lasts (from : State) (low : ℕ) : Type 0 where
    pub moves : ℕ
    pub to : State
    pub path : Moves moves from to
    pub enough : low ≤ moves

  -- From a state, with so many turns, the run does what was done.
  abbrev pub Follows : {A : Type 0} → State → (low high : ℕ) → (A → Store → State → Type 0) → Done A → Type 0
  Follows from low high Reach (Gives x s) = Gets from low high (Reach x s) s.turns
  Follows from low high Reach (Ends end) = Stops from end
  Follows from low high Reach OutOfTurns = Lasts from low

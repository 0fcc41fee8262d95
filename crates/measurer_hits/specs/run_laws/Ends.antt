-- How the states of an input end.
use Rattle.std.specs.Prelude.{◌≡◌, ℕ, Some, None}
use Rattle.cfa.specs.declared.parts.Function.{Function}
use Rattle.cfa.specs.declared.parts.GraphParts.{GraphParts}
use Rattle.cfa.specs.declared.state.State.{State}
use Rattle.c_meaning.specs.Runs.{state_from, state_moved}
use Rattle.c_meaning.specs.Starts.{start_of}
use Rattle.c_meaning.specs.Steps.{next}
use Rattle.c_meaning.specs.declared.input.Input.{Input}
use Rattle.c_meaning.specs.declared.stepped.Stepped.{Stepped}

-- The sequence of states that begins with this one ends: some state is its last, and this is what comes next of it, by
-- which the run doesn't go on.
pub record EndsFrom (parts : GraphParts) (input : Input) (first : State) (end : Stepped) : Type 0 where
  pub number : ℕ
  pub last : State
  pub reached : state_from parts input first number ≡ Some last
  pub comes : next parts input last ≡ end
  pub over : state_moved end ≡ None

-- the same of the states of an input from an entry
abbrev pub EndsIn : GraphParts → Function → Input → Stepped → Type 0
EndsIn parts entry input end = EndsFrom parts input (start_of parts entry input.words) end

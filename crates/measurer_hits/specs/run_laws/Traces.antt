-- Runs by their edges.
use Rattle.std.specs.Prelude.{◌≡◌, ℕ, List}
use Rattle.cfa.specs.declared.parts.Function.{Function}
use Rattle.cfa.specs.declared.parts.GraphParts.{GraphParts}
use Rattle.c_meaning.specs.Runs.{Run, IsRun, edges_in}
use Rattle.c_meaning.specs.declared.ends.Ends.{Ends}
use Rattle.c_meaning.specs.declared.input.Input.{Input}

-- an input has a run from an entry whose end is counted, and these are its edges
pub record RunsAlong (parts : GraphParts) (entry : Function) (input : Input) (ends : Ends) (edges : List ℕ) : Type 0 where
  pub run : Run
  pub is_run : IsRun parts entry input ends run
  pub along : edges_in run ≡ edges

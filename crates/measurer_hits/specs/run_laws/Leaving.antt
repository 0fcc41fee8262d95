-- When an input leaves bounds.
use Rattle.std.specs.Prelude.{ℕ}
use Rattle.cfa.specs.declared.parts.Function.{Function}
use Rattle.cfa.specs.declared.parts.GraphParts.{GraphParts}
use Rattle.c_meaning.specs.Pairs.{IsRunWithin}
use Rattle.c_meaning.specs.Runs.{Run, IsBeginning}
use Rattle.c_meaning.specs.declared.input.Input.{Input}

-- Some state of an input from an entry isn't within the bounds: a beginning of its run comes to one at which a loop's
-- counter is above the turns, or there are more frames, or more answers taken, than the bounds have.
pub record LeavesBounds (turns frames answers : ℕ) (parts : GraphParts) (entry : Function) (input : Input) : Type 0 where
  pub run : Run
  pub begins : IsBeginning parts entry input run
  pub outside : ¬ IsRunWithin turns frames answers parts entry run

-- What a candidate is.
use Rattle.std.specs.Prelude.{ℕ, ◌≤◌, List, length}
use Rattle.std.specs.List.{AllZip}
use Rattle.c_meaning.specs.declared.input.Input.{Input}
use Rattle.c_values.specs.Kind.{IsValue}
use Rattle.c_values.specs.declared.kinds.Kind.{Kind}

-- an input for parameters of these kinds: a value of its kind for each, and at most so many answers
pub record IsCandidate (kinds : List Kind) (most : ℕ) (input : Input) : Type 0 where
  pub words : AllZip IsValue kinds input.words
  pub answers : length input.answers ≤ most

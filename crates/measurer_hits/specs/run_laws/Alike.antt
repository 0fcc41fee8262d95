-- Inputs between which a run makes no difference.
use Rattle.std.specs.Prelude.{◌≡◌, ℕ, List, map, Some, slice_get}
use Rattle.cfa.specs.declared.parts.Function.{Function}
use Rattle.cfa.specs.declared.parts.GraphParts.{GraphParts}
use Rattle.cfa.specs.declared.parts.InputFunction.{InputFunction}
use Rattle.c_meaning.specs.Runs.{Move, Run}
use Rattle.c_meaning.specs.Starts.{fitted_words}
use Rattle.c_meaning.specs.Steps.{answer_of}
use Rattle.c_meaning.specs.declared.input.Input.{Input}
use Rattle.path_runner.specs.Paths.{answer_read}

-- the words of two inputs are the same values of the parameters' kinds
abbrev pub WordsAlike : Function → Input → Input → Type 0
WordsAlike entry x y = fitted_words x.words entry.parameters ≡ fitted_words y.words entry.parameters

-- whichever input function reads the answer of a number, it reads the same value of both inputs
abbrev pub AnswerAlike : GraphParts → Input → Input → ℕ → Type 0
AnswerAlike parts x y number =
    (at : ℕ) (g : InputFunction) → slice_get parts.inputs at ≡ Some g → answer_of x g.result number ≡ answer_of y g.result number

-- these moves read the same values of both inputs
abbrev pub ReadAlike : GraphParts → Input → Input → List Move → Type 0
ReadAlike parts x y moves = map (answer_read parts x) moves ≡ map (answer_read parts y) moves

-- a run, or its beginning, makes no difference between two inputs: neither their words nor the answers that it reads
pub record AreAlike (parts : GraphParts) (entry : Function) (x y : Input) (r : Run) : Type 0 where
  pub words : WordsAlike entry x y
  pub answers : ReadAlike parts x y r.moves

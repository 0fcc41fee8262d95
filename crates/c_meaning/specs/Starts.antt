-- The state in which a run begins.
use Rattle.std.specs.Prelude.{◌≡◌, ℕ, ◌+◌, ◌-◌, List, [], ◌∷◌, ◌++◌, map, length, replicate, None, pos}
use Rattle.c_values.specs.declared.kinds.Kind.{Kind}
use Rattle.c_values.specs.Kind.{wrapped}
use Rattle.cfa.specs.declared.parts.Function.{Function}
use Rattle.cfa.specs.declared.parts.GraphParts.{GraphParts}
use Rattle.cfa.specs.declared.state.Frame.{Frame}
use Rattle.cfa.specs.declared.state.State.{State}

-- what a kind has of a word of 64 bits
abbrev pub fitted : Kind → ℕ → ℕ
fitted kind word = wrapped kind (pos word)

-- each word as a value of its parameter's kind
abbrev pub fitted_words : List ℕ → List Kind → List ℕ
fitted_words [] kinds = []
fitted_words (word ∷ words) [] = []
fitted_words (word ∷ words) (kind ∷ kinds) = fitted kind word ∷ fitted_words words kinds

-- a run can start at a function that has no array parameters, with one word for each parameter
abbrev pub CanStart : Function → List ℕ → Type 0
CanStart f words = (length words ≡ length f.parameters) × (f.arrays ≡ [])

-- the cells of a new frame: the result, the parameters that are integers, and zeros
abbrev pub frame_cells : Function → List ℕ → List ℕ
frame_cells f words = 0 ∷ (words ++ replicate (f.cells - (length words + 1)) 0)

-- the globals at their first values
abbrev pub first_globals : GraphParts → List ℕ
first_globals parts = map (λ (g : Kind × ℕ). g.1) parts.globals

abbrev pub first_frame : GraphParts → Frame
first_frame parts = record { call = None; base = length parts.globals; arrays = [] }

-- A run begins at a function's entry with one frame, whose parameters hold the input's words as values of their kinds,
-- the globals at their first values, and no answer taken.
abbrev pub start_of : GraphParts → Function → List ℕ → State
start_of parts f words = record {
  node = f.entry;
  frames = first_frame parts ∷ [];
  cells = first_globals parts ++ frame_cells f (fitted_words words f.parameters);
  taken = 0;
}

-- The trace file that is written of traces.
use Rattle.std.specs.Prelude.{◌≡◌, ℕ, List, [], ◌∷◌, ◌++◌, codes, length}
use Rattle.std.specs.Fmt.{decimal, signed_decimal}
use Rattle.std.specs.List.{flat_map}
use Rattle.c_values.specs.declared.kinds.Kind.{Kind}
use Rattle.c_values.specs.Kind.{number_of}
use Rattle.c_meaning.specs.Starts.{fitted}
use Rattle.trace_file.specs.declared.trace.Trace.{Trace}
use Rattle.trace_file.specs.Form.{title}

-- the input has a word for each kind
abbrev pub HasWords : List Kind → Trace → Type 0
HasWords kinds trace = length trace.input.words ≡ length kinds

-- the number that a word stands for in a kind, after a space
abbrev pub spaced_value : Kind → ℕ → List ℕ
spaced_value kind word = codes " " ++ signed_decimal (number_of kind word)

-- each argument, converted to its parameter's kind (ISO/IEC 9899:2011, 6.3.1.3)
abbrev pub arguments_text : List ℕ → List Kind → List ℕ
arguments_text [] kinds = []
arguments_text (word ∷ words) [] = []
arguments_text (word ∷ words) (kind ∷ kinds) = spaced_value kind (fitted kind word) ++ arguments_text words kinds

-- the answers that a run took, each as a value of its kind, where there are any
abbrev pub answers_text : List (Kind × ℕ) → List ℕ
answers_text [] = []
answers_text (first ∷ rest) = codes " answers" ++ flat_map (λ answer. spaced_value answer.0 answer.1) (first ∷ rest)

abbrev pub edges_text : List ℕ → List ℕ
edges_text edges = flat_map (λ edge. codes " " ++ decimal edge) edges

abbrev pub trace_line : List Kind → Trace → List ℕ
trace_line kinds trace =
    codes "args" ++ arguments_text trace.input.words kinds ++ answers_text trace.run.taken ++ codes " edges" ++ edges_text trace.run.edges ++ codes "\n"

-- the file of traces of a function with parameters of these kinds
abbrev pub traces_text : List Kind → List Trace → List ℕ
traces_text kinds traces = title ++ codes "\n" ++ flat_map (trace_line kinds) traces

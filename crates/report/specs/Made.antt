-- How an input that was made is written.
use Rattle.std.specs.Prelude.{ℕ, ◌+◌, List, [], ◌∷◌, ◌++◌, codes, slice_get}
use Rattle.std.specs.Fmt.{decimal}
use Rattle.std.specs.List.{flat_map}
use Rattle.std.specs.Option.{option_map_or}
use Rattle.c_meaning.specs.declared.input.Input.{Input}
use Rattle.c_values.specs.declared.kinds.Kind.{Kind}
use Rattle.cfa.specs.declared.parts.Function.{Function}
use Rattle.cfa.specs.declared.parts.GraphParts.{GraphParts}
use Rattle.report.specs.Ends.{spaced_value}

-- the kinds of a function's parameters
abbrev pub parameter_kinds : GraphParts → ℕ → List Kind
parameter_kinds graph entry = option_map_or (λ (f : Function). f.parameters) (slice_get graph.functions entry) []

-- each argument after a space, as a value of its parameter's kind
abbrev pub arguments_text : List ℕ → List Kind → List ℕ
arguments_text [] kinds = []
arguments_text (word ∷ words) [] = []
arguments_text (word ∷ words) (kind ∷ kinds) = spaced_value kind word ++ arguments_text words kinds

-- the answers that were taken, each after a space, as a value of its kind, where there are any
abbrev pub taken_text : List (Kind × ℕ) → List ℕ
taken_text [] = []
taken_text (first ∷ rest) = codes " answers" ++ flat_map (λ answer. spaced_value answer.0 answer.1) (first ∷ rest)

-- the arguments of an input to a function with parameters of these kinds, and the answers that its run takes
abbrev pub made_text : List Kind → Input → List (Kind × ℕ) → List ℕ
made_text kinds input taken = codes " args" ++ arguments_text input.words kinds ++ taken_text taken

abbrev pub made_line : List Kind → ℕ → Input → List (Kind × ℕ) → List ℕ
made_line kinds number input taken = codes "input " ++ decimal number ++ made_text kinds input taken ++ codes "\n"

-- a line for each input, from this number on, with the answers that its run takes
abbrev pub made_lines : List Kind → ℕ → List Input → List (List (Kind × ℕ)) → List ℕ
made_lines kinds number (input ∷ inputs) (taken ∷ rest) = made_line kinds number input taken ++ made_lines kinds (number + 1) inputs rest
made_lines kinds number _ _ = []

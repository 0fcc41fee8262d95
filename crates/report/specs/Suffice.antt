-- The lines that say whether bounds suffice.
use Rattle.std.specs.Prelude.{ℕ, List, [], ◌∷◌, ◌++◌, codes, true}
use Rattle.std.specs.List.{flat_map}
use Rattle.c_meaning.specs.declared.input.Input.{Input}
use Rattle.c_values.specs.declared.kinds.Kind.{Kind}
use Rattle.cfa.specs.declared.parts.GraphParts.{GraphParts}
use Rattle.unwinder_reach.specs.declared.reached.bounds.Bounds.{Bounds}
use Rattle.report.specs.Ends.{spaced_value}
use Rattle.report.specs.Generated.{bounds_text}
use Rattle.report.specs.Made.{arguments_text, parameter_kinds}

-- no input leaves these bounds
abbrev pub suffice_text : Bounds → List ℕ
suffice_text bounds = codes "bounds suffice" ++ bounds_text bounds ++ codes "\n"

-- the kind of signed numbers of 64 bits
abbrev pub long : Kind
long = record { width = 64; signed = true }

-- answers, each as a signed number of 64 bits, where there are any
abbrev pub left_answers_text : List ℕ → List ℕ
left_answers_text [] = []
left_answers_text (first ∷ rest) = codes " answers" ++ flat_map (spaced_value long) (first ∷ rest)

-- an input to this entry leaves the bounds
abbrev pub left_text : GraphParts → ℕ → Input → List ℕ
left_text graph entry input =
    codes "bounds left args" ++ arguments_text input.words (parameter_kinds graph entry) ++ left_answers_text input.answers ++ codes "\n"

-- it is left open
abbrev pub open_bounds_text : List ℕ
open_bounds_text = codes "bounds open\n"

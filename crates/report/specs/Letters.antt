-- How goals are written.
use Rattle.std.specs.Prelude.{ℕ, List, [], ◌∷◌, ◌++◌, Option, None, Some, codes, slice_get, unwrap_or}
use Rattle.std.specs.Fmt.{decimal}
use Rattle.std.specs.List.{flat_map}
use Rattle.cfa.specs.declared.parts.Edge.{Edge}
use Rattle.cfa.specs.declared.parts.GraphParts.{GraphParts}
use Rattle.cfa.specs.declared.parts.Node.{Node}
use Rattle.goals.specs.declared.goal_letter.GoalLetter.{GoalLetter}
use Rattle.goals.specs.declared.goal_letter.GoalLetter.TheVariants as letter
use Rattle.goals.specs.declared.plan.Plan.{Plan}

-- the text of a number in a list, or nothing past its end
abbrev pub text_at : List (List ℕ) → ℕ → List ℕ
text_at texts number = unwrap_or (slice_get texts number) []

-- a line of a file
abbrev pub place_text : List (List ℕ) → ℕ → ℕ → List ℕ
place_text files file line = text_at files file ++ codes ":" ++ decimal line

abbrev pub node_place : List (List ℕ) → Option Node → List ℕ
node_place files None = []
node_place files (Some node) = place_text files node.file node.line

abbrev pub edge_place : List (List ℕ) → Option Edge → List ℕ
edge_place files None = []
edge_place files (Some edge) = place_text files edge.span.file edge.span.line

-- A letter of a goal: a node with its file and line; an edge with those of its first token; the text of a predicate in
-- braces, and `!` before them where it is an absent predicate; the text of a quoted expression in quotation marks. A number that names nothing has no place and no text.
abbrev pub letter_text : GraphParts → Plan → GoalLetter → List ℕ
letter_text graph plan (letter.Node number) =
    codes "n" ++ decimal number ++ codes "@" ++ node_place graph.files (slice_get graph.nodes number)
letter_text graph plan (letter.Edge number) =
    codes "e" ++ decimal number ++ codes "@" ++ edge_place graph.files (slice_get graph.edges number)
letter_text graph plan (letter.Predicate number) = codes "{" ++ text_at plan.predicates number ++ codes "}"
letter_text graph plan (letter.Absent number) = codes "!{" ++ text_at plan.predicates number ++ codes "}"
letter_text graph plan (letter.Quoted number) = codes "\"" ++ text_at plan.quotes number ++ codes "\""

-- each letter after a dot
abbrev pub dotted : GraphParts → Plan → List GoalLetter → List ℕ
dotted graph plan letters = flat_map (λ l. codes " . " ++ letter_text graph plan l) letters

-- the letters of a goal, joined by dots
abbrev pub word_text : GraphParts → Plan → List GoalLetter → List ℕ
word_text graph plan [] = []
word_text graph plan (first ∷ rest) = letter_text graph plan first ++ dotted graph plan rest

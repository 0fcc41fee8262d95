-- An input as JSON.
use Rattle.std.specs.Prelude.{ℕ, List, [], ◌∷◌, codes, map}
use Rattle.serde_json.specs.Data.{Data, array, member, no_members, number, object}
use Rattle.serde_json.specs.Find.{of_integer}
use Rattle.serde_json.specs.View.{items_of}
use Rattle.c_meaning.specs.declared.input.Input.{Input}
use Rattle.c_values.specs.declared.kinds.Kind.{Kind}
use Rattle.c_values.specs.Kind.{number_of}

-- the number that a word stands for in a kind
abbrev pub word_data : Kind → ℕ → Data
word_data kind word = number (of_integer (number_of kind word))

-- the arguments, each as a value of its parameter's kind
abbrev pub arguments_data : List ℕ → List Kind → List Data
arguments_data [] kinds = []
arguments_data (word ∷ words) [] = []
arguments_data (word ∷ words) (kind ∷ kinds) = word_data kind word ∷ arguments_data words kinds

-- the answers, each with its kind
abbrev pub answers_data : List (Kind × ℕ) → List Data
answers_data = map (λ answer. word_data answer.0 answer.1)

-- an object with the keys `answers` and `args`
abbrev pub input_data : Input → List Kind → List (Kind × ℕ) → Data
input_data input kinds answers =
    object (member (codes "answers") (array (items_of (answers_data answers)))
    (member (codes "args") (array (items_of (arguments_data input.words kinds))) no_members))

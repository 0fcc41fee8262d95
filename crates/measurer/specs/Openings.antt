-- The edges that matches take first, and where a run first takes them.
use Rattle.std.specs.Prelude.{◌≡◌, ℕ, ◌<◌, ◌==◌, Bool, false, List, ◌∷◌, length, slice_index, slice_index_or, Option, Some, None}
use Rattle.std.specs.List.{position_or_len}
use Rattle.patterns.specs.Match.{Form, Match}
use Rattle.patterns.specs.Paths.{step_of}
use Rattle.patterns.specs.declared.letter.Letter.{Letter}
use Rattle.patterns.specs.declared.path_view.PathView.{PathView}
use Rattle.goals.specs.Words.{Word}
use Rattle.goals.specs.declared.goal_letter.GoalLetter.TheVariants.{Edge}

-- the edge with which a word begins, where matches may begin anywhere
abbrev pub opening_of : Bool → Word → Option ℕ
opening_of false (Edge e ∷ w) = Some e
opening_of _ _ = None

-- each match of the pattern takes this edge first
abbrev pub BeginsWith : ℕ → Form Letter → Type 0
BeginsWith edge pattern = (path : PathView) (from to : ℕ) → Match (step_of path) pattern from to → (from < to) × (slice_index path.edges from ≡ edge)

-- where there is such an edge, matches may begin anywhere, and each of them takes it first
abbrev pub IsOpening : Option ℕ → Bool → Form Letter → Type 0
IsOpening None first pattern = Unit {0}
IsOpening (Some edge) first pattern = (first ≡ false) × BeginsWith edge pattern

-- the first place of an edge in a run, or the number of the run's edges
abbrev pub first_place : List ℕ → ℕ → ℕ
first_place edges edge = position_or_len (λ e. e == edge) edges

-- a table of the first places of edges, by their numbers
abbrev pub AreFirstPlaces : List ℕ → List ℕ → Type 0
AreFirstPlaces edges table = (edge : ℕ) → slice_index_or table edge (length edges) ≡ first_place edges edge

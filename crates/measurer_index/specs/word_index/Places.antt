-- Places of a path from which words that begin with an edge, or a node, are walked.
use Rattle.std.specs.Prelude.{◌≡◌, ◌≤◌, ℕ, Bool, false, All, List, length, slice_get, Some}
use Rattle.std.specs.List.{Contains}
use Rattle.patterns.specs.declared.path_view.PathView.{PathView}
use Rattle.goals.specs.GoalForm.{GoalForm}
use Rattle.measurer_index.specs.word_index.Groups.{Continues, IsEnded, IsGroup}
use Rattle.measurer_index.specs.word_index.Tables.{IsStep, root}
use Rattle.measurer_index.specs.declared.word_index.group.Group.{Group}

-- walks may end anywhere, and the words of the group of this number end at its depth
abbrev pub IsOnce : List GoalForm → List ℕ → Bool → List Group → ℕ → Type 0
IsOnce goals order last groups number = (last ≡ false) × ((g : Group) × ((slice_get groups number ≡ Some g) × (IsGroup goals order g → IsEnded goals order g)))

-- Each place is a state of the path, and a goal whose word begins with an edge, or a node, and goes on from some state goes
-- on from one of the places.
pub record AreEnough (goals : List GoalForm) (order : List ℕ) (absents : ℕ) (path : PathView) (last edges : Bool) (places : List ℕ) : Type 0 where
  pub within : All (λ at. at ≤ length path.edges) places
  pub enough : (at number : ℕ) → Continues goals order path last (IsStep edges) (root order absents) at number
      → (place : ℕ) × (Contains places place × Continues goals order path last (IsStep edges) (root order absents) place number)

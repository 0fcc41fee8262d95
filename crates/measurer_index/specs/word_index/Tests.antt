-- Words that begin with a predicate or an absent one, and may go along a path.
use Rattle.std.specs.Prelude.{◌≡◌, ◌≤◌, ◌==◌, ◌&&◌, ℕ, Bool, true, not, List, length, slice_get}
use Rattle.std.specs.Int.{bit_at}
use Rattle.std.specs.List.{filter, list_all}
use Rattle.patterns.specs.declared.path_view.PathView.{PathView}
use Rattle.goals.specs.GoalForm.{GoalForm}
use Rattle.goals.specs.Words.{Word}
use Rattle.goals.specs.declared.goal_letter.GoalLetter.{GoalLetter}
use Rattle.goals.specs.declared.goal_letter.GoalLetter.TheVariants.{Node, Edge, Predicate, Absent, Quoted}
use Rattle.measurer_index.specs.word_index.Groups.{IsTest}
use Rattle.measurer_index.specs.word_index.Tables.{begins_with_step}
use Rattle.measurer_index.specs.word_index.Walks.{Walks, word_at}

-- each bit of the one mask is set in the other
abbrev pub AreBitsOf : ℕ → ℕ → Type 0
AreBitsOf mask other = (p : ℕ) → (bit_at mask p == 1) ≡ true → (bit_at other p == 1) ≡ true

-- the letter may be met on a path that has the bits of the first mask at some state, and those of the second at each
abbrev pub may_be_met : ℕ → ℕ → GoalLetter → Bool
may_be_met somewhere everywhere (Edge e) = true
may_be_met somewhere everywhere (Node n) = true
may_be_met somewhere everywhere (Predicate p) = bit_at somewhere p == 1
may_be_met somewhere everywhere (Absent p) = not (bit_at everywhere p == 1)
may_be_met somewhere everywhere (Quoted q) = true

-- the word begins with no edge and no node, and each of its letters may be met
abbrev pub may_go : ℕ → ℕ → Word → Bool
may_go somewhere everywhere w = not (begins_with_step (slice_get w 0)) && list_all (may_be_met somewhere everywhere) w

-- some of these places of goals, in their order, with all those whose words begin with a test and go along the path
pub record AreTestsAlong (goals : List GoalForm) (path : PathView) (order some : List ℕ) : Type 0 where
  pub keeps : ℕ → Bool
  pub filtered : some ≡ filter keeps order
  pub enough : (place from to : ℕ) → IsTest (slice_get (word_at goals place) 0) → Walks path (word_at goals place) from to → to ≤ length path.edges → keeps place ≡ true

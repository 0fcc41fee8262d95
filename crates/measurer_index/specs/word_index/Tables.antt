-- The groups of words that begin alike.
use Rattle.std.specs.Prelude.{◌≡◌, ◌<◌, ℕ, Bool, true, false, List, length, slice_get, Option, Some, None}
use Rattle.std.specs.List.{list_all}
use Rattle.patterns.specs.declared.path_view.PathView.{PathView}
use Rattle.goals.specs.GoalForm.{GoalForm}
use Rattle.goals.specs.Words.{Word}
use Rattle.goals.specs.declared.goal_letter.GoalLetter.{GoalLetter}
use Rattle.goals.specs.declared.goal_letter.GoalLetter.TheVariants.{Node, Edge, Predicate, Absent, Quoted}
use Rattle.measurer_index.specs.word_index.Order.{AreAbsentsBelow, IsOrderOf}
use Rattle.measurer_index.specs.word_index.Groups.{IsNarrowed}
use Rattle.measurer_index.specs.word_index.Walks.{word_at}
use Rattle.measurer_index.specs.declared.word_index.group.Group.{Group}
use Rattle.measurer_index.specs.declared.word_index.index.WordIndex.{WordIndex}

-- an edge, or a node, of this number
abbrev pub step : Bool → ℕ → GoalLetter
step true number = Edge number
step false number = Node number

-- a word goes on with an edge, or a node
abbrev pub IsStep : Bool → Option GoalLetter → Type 0
IsStep edges o = (number : ℕ) × (o ≡ Some (step edges number))

-- the edges, or the nodes, of a path
abbrev pub steps : Bool → PathView → List ℕ
steps true path = path.edges
steps false path = path.nodes

-- the group of all words
abbrev pub root : List ℕ → ℕ → Group
root order absents = record { low = 0; high = length order; depth = 0; absents = absents }

-- a word that begins with an edge, or a node, begins with one below this number
abbrev pub BeginsBelow : Bool → ℕ → Word → Type 0
BeginsBelow edges bound w = (number : ℕ) → slice_get w 0 ≡ Some (step edges number) → number < bound

-- by number, the groups of the words that begin with an edge, or a node; none begins with one past them
pub record AreBegun (goals : List GoalForm) (order : List ℕ) (absents : ℕ) (edges : Bool) (groups : List Group) : Type 0 where
  pub at : (number : ℕ) (g : Group) → slice_get groups number ≡ Some g → IsNarrowed goals order (step edges number) (root order absents) g
  pub all : (g : ℕ) → BeginsBelow edges (length groups) (word_at goals g)

-- the word is empty, or begins with an edge or a node
abbrev pub begins_with_step : Option GoalLetter → Bool
begins_with_step None = true
begins_with_step (Some (Edge e)) = true
begins_with_step (Some (Node n)) = true
begins_with_step (Some (Predicate p)) = false
begins_with_step (Some (Absent p)) = false
begins_with_step (Some (Quoted q)) = false

abbrev pub all_begin_with_steps : List GoalForm → Bool
all_begin_with_steps goals = list_all (λ (g : GoalForm). begins_with_step (slice_get g.word 0)) goals

-- It is an index of these goals: their order, a number above those of their absent predicates, and tables of the words that
-- begin alike.
pub record IsIndexOf (goals : List GoalForm) (index : WordIndex) : Type 0 where
  pub ordered : IsOrderOf goals index.order
  pub absents : AreAbsentsBelow goals index.absents
  pub by_edge : AreBegun goals index.order index.absents true index.by_edge
  pub by_node : AreBegun goals index.order index.absents false index.by_node
  pub only_steps : index.only_steps ≡ all_begin_with_steps goals

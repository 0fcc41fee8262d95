-- What a measurer is made of.
use Rattle.std.specs.Prelude.{◌≡◌, ℕ, suc, ◌<◌, ◌↔◌, Bool, true, false, List, length, Option, Some, None, slice_get}
use Rattle.std.specs.Option.{IsSomeAnd}
use Rattle.patterns.specs.Letters.{form}
use Rattle.patterns.specs.Match.{Form}
use Rattle.patterns.specs.declared.letter.Letter.{Letter}
use Rattle.patterns.specs.declared.path_view.PathView.{PathView}
use Rattle.automata.specs.Standing.{IsOf}
use Rattle.automata.specs.declared.nfa.Nfa.{Nfa}
use Rattle.measurer_index.specs.gap_words.GapWords.{IsGapWordOf}
use Rattle.goals.specs.GoalForm.{GoalForm, HasItsPattern}
use Rattle.goals.specs.declared.plan.PassingPattern.{PassingPattern}
use Rattle.goals.specs.declared.plan.Plan.{Plan}
use Rattle.patterns.specs.Segments.{HasSegment}
use Rattle.measurer_index.specs.word_index.Tables.{IsIndexOf}
use Rattle.measurer_index.specs.word_index.Walks.{is_plain}
use Rattle.measurer.specs.Openings.{IsOpening}
use Rattle.measurer.specs.declared.tables.GoalMatcher.{GoalMatcher}
use Rattle.measurer.specs.declared.tables.Matcher.{Matcher}
use Rattle.measurer.specs.declared.tables.Matcher.TheVariants.{Gaps, Automaton}
use Rattle.measurer.specs.declared.tables.Tables.{Tables}

-- What tells matches of the pattern: the row of letters and gaps that it is, where these are the sets of its gaps, or its
-- automaton and the edge that its matches take first.
abbrev pub IsMatcherOf : List (List ℕ) → Bool → Bool → Form Letter → Matcher → Type 0
IsMatcherOf sets first last pattern (Gaps word) = IsGapWordOf sets pattern word
IsMatcherOf sets first last pattern (Automaton opening automaton) = IsOpening opening first pattern × IsOf automaton pattern first last

-- that of this goal, which isn't one of the index
pub record IsMadeOf (sets : List (List ℕ)) (goal : GoalForm) (first last : Bool) (own : GoalMatcher) : Type 0 where
  pub other : is_plain goal.word ≡ false
  pub matcher : IsMatcherOf sets first last (form goal.pattern) own.matcher

-- the answer for a goal's pattern: whether the path has a match of it
abbrev pub Tells : List (List ℕ) → Bool → Bool → PathView → GoalMatcher → Bool → Type 0
Tells sets first last path own b = (pattern : Form Letter) → IsMatcherOf sets first last pattern own.matcher → (b ≡ true) ↔ HasSegment first last pattern path

-- the one of the goal at a place
pub record IsMatcherAt (sets : List (List ℕ)) (goals : List GoalForm) (first last : Bool) (place : ℕ) (own : GoalMatcher) : Type 0 where
  pub is : own.number ≡ suc place
  pub goal : IsSomeAnd (slice_get goals place) (λ goal. IsMadeOf sets goal first last own)

-- each of them is that of a goal, and each goal at a place below this one that isn't one of the index has one
pub record AreMatchers (sets : List (List ℕ)) (goals : List GoalForm) (first last : Bool) (count : ℕ) (all : List GoalMatcher) : Type 0 where
  pub each : (k : ℕ) (own : GoalMatcher) → slice_get all k ≡ Some own → (place : ℕ) × IsMatcherAt sets goals first last place own
  pub every : (place : ℕ) (goal : GoalForm) → place < count → slice_get goals place ≡ Some goal → is_plain goal.word ≡ false → (k : ℕ) × ((own : GoalMatcher) × ((slice_get all k ≡ Some own) × (own.number ≡ suc place)))

-- a number of a goal that isn't one of the index, of whose pattern the path has a match
pub record HasOtherMatch (goals : List GoalForm) (first last : Bool) (path : PathView) (number : ℕ) : Type 0 where
  pub place : ℕ
  pub is : number ≡ suc place
  pub goal : IsSomeAnd (slice_get goals place) (λ goal. (is_plain goal.word ≡ false) × HasSegment first last (form goal.pattern) path)

abbrev pub IsPassingAutomaton : Option PassingPattern → Option (Nfa Letter) → Type 0
IsPassingAutomaton None None = Unit {0}
IsPassingAutomaton (Some p) (Some automaton) = IsOf automaton (form p.pattern) p.first p.last
IsPassingAutomaton None (Some automaton) = ⊥
IsPassingAutomaton (Some p) None = ⊥

-- the tables were made for this plan
pub record IsFor (plan : Plan) (tables : Tables) : Type 0 where
  pub patterns : (place : ℕ) (goal : GoalForm) → slice_get plan.goals place ≡ Some goal → HasItsPattern goal
  pub index : IsIndexOf plan.goals tables.index
  pub matchers : AreMatchers tables.sets plan.goals plan.first plan.last (length plan.goals) tables.matchers
  pub passing : IsPassingAutomaton plan.passing tables.passing

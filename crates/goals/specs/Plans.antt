-- The plan of a query: its goals, and what a run must also match.
use Rattle.std.specs.Prelude.{◌≡◌, ℕ, Bool, false, ◌||◌, nat_lt, if◌then◌else◌, List, [], ◌∷◌, length, map, Result, Ok, Err, Option, Some, None, option_map, option_and_then}
use Rattle.std.specs.List.{list_any}
use Rattle.std.specs.Option.{option_map_or}
use Rattle.fq_core.specs.declared.refusal.Fault.{Fault}
use Rattle.fq_core.specs.declared.refusal.Fault.TheVariants as fault
use Rattle.fq_core.specs.declared.refusal.Place.{Place}
use Rattle.fq_core.specs.declared.refusal.Place.TheVariants as place
use Rattle.fq_core.specs.declared.refusal.Refusal.{Refusal}
use Rattle.cfa.specs.declared.parts.GraphParts.{GraphParts}
use Rattle.fql_read.specs.declared.query.Clause.{Clause}
use Rattle.fql_read.specs.declared.query.Query.{Query}
use Rattle.filters.specs.Names.{missing_name}
use Rattle.filters.specs.Parts.{whole}
use Rattle.patterns.specs.Letters.{form, letter_count}
use Rattle.goals.specs.applied_clauses.Applied.{applied, base_of}
use Rattle.goals.specs.applied_clauses.Limits.{passed_limit}
use Rattle.goals.specs.applied_clauses.Missing.{missing_in}
use Rattle.goals.specs.applied_clauses.Outcome.{too_many}
use Rattle.goals.specs.applied_clauses.Trees.{Tree, tree_of}
use Rattle.goals.specs.declared.applied_clauses.applied_tree.AppliedTree.{AppliedTree}
use Rattle.goals.specs.Words.{Word, texts, quotes_of, words_of, goal_words}
use Rattle.goals.specs.Forms.{Pattern, pattern_of, quote_patterns, word_pattern}
use Rattle.goals.specs.GoalForm.{GoalForm}
use Rattle.goals.specs.declared.plan.PassingPattern.{PassingPattern}
use Rattle.goals.specs.declared.plan.Plan.{Plan}

-- ---- the plan of a query whose filters have been applied

-- the goals of these words, where these are the patterns of the quoted letters by number
abbrev pub goals_with : List Pattern → List Word → List GoalForm
goals_with patterns ws = map (λ word. record { word = word; pattern = word_pattern patterns word }) ws

-- the goals of a cover clause, in order
abbrev pub goals_of : Tree → List GoalForm
goals_of cover = goals_with (quote_patterns (quotes_of cover)) (goal_words cover)

-- the pattern of the passing clause, with its anchors
abbrev pub passing_of : Option Clause → Option Tree → Option PassingPattern
passing_of (Some c) (Some t) = Some (record { pattern = pattern_of t; first = c.first; last = c.last })
passing_of _ _ = None

-- the trees are those of the cover clause and of the passing clause
abbrev pub plan_with : Query → Tree → Option Tree → Plan
plan_with q cover passing = record {
  goals = goals_of cover;
  first = q.cover.first;
  last = q.cover.last;
  passing = passing_of q.passing passing;
  quotes = texts (quotes_of cover);
  predicates = q.predicates;
}

-- ---- refusals

-- the greatest number of words before duplicates go, and of letters of one pattern, repetitions unrolled
abbrev pub most_words : ℕ
most_words = 10000

abbrev pub most_letters : ℕ
most_letters = 5000

abbrev pub is_too_long : Pattern → Bool
is_too_long p = nat_lt most_letters (letter_count (form p))

-- some goal that is there has a pattern with too many letters, or the passing clause has
abbrev pub has_long_pattern : Tree → Option Tree → Bool
has_long_pattern cover passing = list_any (λ (g : GoalForm). is_too_long g.pattern) (goals_of cover) || option_map_or (λ t. is_too_long (pattern_of t)) passing false

abbrev pub refused : ℕ → Place → Refusal
refused code p = record { code = code; place = p }

-- a filter of this column needs a name that isn't in the graph
abbrev pub no_such_name : ℕ → Refusal
no_such_name column = refused 70 (place.Query column)

-- what a query whose filters have been applied, within the limits of paths, may be refused for, in order: too many words,
-- a pattern with too many letters, no goal
abbrev pub late_causes : Tree → Option Tree → List (Option Refusal)
late_causes cover passing =
    (if nat_lt most_words (length (words_of cover)) then Some (too_many most_words) else None) ∷
    (if has_long_pattern cover passing then Some (refused 73 (place.Limit most_letters)) else None) ∷
    (if nat_lt 0 (length (words_of cover)) then None else Some (refused 72 place.QueryWhole)) ∷ []

-- before these: too many paths, or edges of paths, in the cover clause and then in the passing clause
abbrev pub tree_causes : Tree → Option Tree → List (Option Refusal)
tree_causes cover passing =
    option_map too_many (passed_limit cover) ∷
    option_map too_many (option_and_then passed_limit passing) ∷ late_causes cover passing

-- the first cause that stands
abbrev pub first_cause : List (Option Refusal) → Option Refusal
first_cause [] = None
first_cause (None ∷ causes) = first_cause causes
first_cause (Some r ∷ causes) = Some r

-- the plan, where no cause stands; else the first that does
abbrev pub IsOutcome : List (Option Refusal) → Plan → Result Plan Fault → Type 0
IsOutcome causes wanted (Ok plan) = (first_cause causes ≡ None) × (plan ≡ wanted)
IsOutcome causes wanted (Err (fault.Refused r)) = first_cause causes ≡ Some r
IsOutcome causes wanted (Err fault.Memory) = Unit {0}

abbrev pub IsTreeOutcome : Query → Tree → Option Tree → Result Plan Fault → Type 0
IsTreeOutcome q cover passing result = IsOutcome (tree_causes cover passing) (plan_with q cover passing) result

-- the passing clause, if there is one, within the limits of paths; else code 71
abbrev pub IsPassingOutcome : Option Tree → Result (Option AppliedTree) Fault → Type 0
IsPassingOutcome t (Ok passing) = (option_map tree_of passing ≡ t) × (option_and_then passed_limit t ≡ None)
IsPassingOutcome t (Err (fault.Refused r)) = option_map too_many (option_and_then passed_limit t) ≡ Some r
IsPassingOutcome t (Err fault.Memory) = Unit {0}

module _ (parts : GraphParts) (q : Query) where
  -- the cover clause over its base graph, and the passing clause over the whole graph
  abbrev pub cover_tree : Tree
  cover_tree = applied parts (base_of parts q.base) q.cover.body

  abbrev pub passing_tree : Option Tree
  passing_tree = option_map (λ (c : Clause). applied parts (whole parts) c.body) q.passing

  -- what the query may be refused for, in order: a name that isn't in the graph, in the filter after `in`, in the cover
  -- clause and in the passing clause, and then the causes above
  abbrev pub causes : List (Option Refusal)
  causes =
      option_map no_such_name (option_and_then (missing_name parts) q.base) ∷
      option_map no_such_name (missing_in parts q.cover.body) ∷
      option_map no_such_name (option_and_then (λ (c : Clause). missing_in parts c.body) q.passing) ∷
      tree_causes cover_tree passing_tree

  abbrev pub IsPlanOutcome : Result Plan Fault → Type 0
  IsPlanOutcome result = IsOutcome causes (plan_with q cover_tree passing_tree) result

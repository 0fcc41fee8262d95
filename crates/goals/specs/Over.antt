-- Plans over an automaton: what their letters name is there.
use Rattle.std.specs.Prelude.{◌≡◌, ℕ, ◌<◌, ◌≤◌, Bool, true, false, ◌&&◌, nat_lt, List, [], ◌∷◌, length}
use Rattle.std.specs.List.{list_all}
use Rattle.std.specs.Option.{option_map_or}
use Rattle.cfa.specs.declared.parts.GraphParts.{GraphParts}
use Rattle.patterns.specs.Letters as plain
use Rattle.patterns.specs.Match as form
use Rattle.patterns.specs.Match.{Form}
use Rattle.patterns.specs.declared.letter.Letter.{Letter}
use Rattle.patterns.specs.declared.letter.Letter.TheVariants as letter
use Rattle.goals.specs.applied_clauses.Within.{is_edge, is_node}
use Rattle.goals.specs.Forms.{Pattern}
use Rattle.goals.specs.GoalForm.{GoalForm}
use Rattle.goals.specs.Plans.{most_words}
use Rattle.goals.specs.Words.{Word}
use Rattle.goals.specs.declared.goal_letter.GoalLetter.{GoalLetter}
use Rattle.goals.specs.declared.goal_letter.GoalLetter.TheVariants.{Node, Edge, Predicate, Absent, Quoted}
use Rattle.goals.specs.declared.plan.PassingPattern.{PassingPattern}
use Rattle.goals.specs.declared.plan.Plan.{Plan}

module _ (parts : GraphParts) (quotes predicates : ℕ) where
  -- the node, the edge, the predicate or the quoted expression of a letter is there
  abbrev pub letter_there : GoalLetter → Bool
  letter_there (Node n) = is_node parts n
  letter_there (Edge k) = is_edge parts k
  letter_there (Predicate i) = nat_lt i predicates
  letter_there (Absent i) = nat_lt i predicates
  letter_there (Quoted i) = nat_lt i quotes

  -- a word has a letter, and its letters are there
  abbrev pub word_there : Word → Bool
  word_there [] = false
  word_there (l ∷ ls) = letter_there l && list_all letter_there ls

module _ (parts : GraphParts) (predicates : ℕ) where
  -- the nodes, the edges or the predicate of a pattern's letter are there
  abbrev pub set_there : Letter → Bool
  set_there (letter.Nodes ns) = list_all (is_node parts) ns
  set_there (letter.Edges es) = list_all (is_edge parts) es
  set_there (letter.Predicate i) = nat_lt i predicates
  set_there (letter.Absent i) = nat_lt i predicates

  -- and so are those of all its letters
  abbrev pub form_there : Form Letter → Bool
  form_there form.nothing = true
  form_there (form.letter l) = set_there l
  form_there (form.dot a b) = form_there a && form_there b
  form_there (form.either a b) = form_there a && form_there b
  form_there (form.repeat body least most) = form_there body

  abbrev pub pattern_there : Pattern → Bool
  pattern_there p = form_there (plain.form p)

-- There are from 1 to 10,000 goals. Their words have letters. What these letters name is there, and so is what the letters
-- of the goals' patterns and of the passing clause name.
pub record IsPlanOver (parts : GraphParts) (plan : Plan) : Type 0 where
  pub some : 0 < length plan.goals
  pub few : length plan.goals ≤ most_words
  pub words : list_all (λ (g : GoalForm). word_there parts (length plan.quotes) (length plan.predicates) g.word) plan.goals ≡ true
  pub patterns : list_all (λ (g : GoalForm). pattern_there parts (length plan.predicates) g.pattern) plan.goals ≡ true
  pub passing : option_map_or (λ (p : PassingPattern). pattern_there parts (length plan.predicates) p.pattern) plan.passing true ≡ true

-- The patterns of a plan name what is there.
use Rattle.std.proofs.Common.{◌≡◌, ℕ, zero, suc, ◌&&◌, Bool, true, false, List, [], ◌∷◌, ◌++◌, fold, map, refl, sym, ap, ◌∙◌, true≢false}
use Rattle.std.specs.Prelude.{Option, Some, None, nat_lt, slice_index_or}
use Rattle.std.specs.List.{list_all}
use Rattle.std.specs.Option.{option_map_or}
use Rattle.std.proofs.lemmas.List.Folds.{list_all-append}
use Rattle.cfa.specs.declared.parts.GraphParts.{GraphParts}
use Rattle.fql_read.specs.declared.query.Clause.{Clause}
use Rattle.patterns.specs.declared.pattern.Pattern.TheVariants as pattern
use Rattle.patterns.proofs.Forms.{form_nothing, form_letter, form_dot, form_either, form_repeat}
use Rattle.goals.specs.applied_clauses.Trees as tree
use Rattle.goals.specs.applied_clauses.Trees.{Tree}
use Rattle.goals.specs.applied_clauses.Within.{has_edges, is_edge, is_node, tree_within}
use Rattle.goals.specs.Forms.{Pattern, dots, either_of, edge_pattern, path_pattern, pattern_of, quote_patterns, letter_pattern, word_pattern}
use Rattle.goals.specs.GoalForm.{GoalForm}
use Rattle.goals.specs.Over.{form_there, letter_there, pattern_there, word_there}
use Rattle.goals.specs.Plans.{goals_with, passing_of}
use Rattle.goals.specs.Words.{Quote, Word, quoted}
use Rattle.goals.specs.declared.goal_letter.GoalLetter.{GoalLetter}
use Rattle.goals.specs.declared.goal_letter.GoalLetter.TheVariants.{Node, Edge, Predicate, Absent, Quoted}
use Rattle.goals.specs.declared.plan.PassingPattern.{PassingPattern}
use Rattle.goals.proofs.Seen.{both_true}

module _ (parts : GraphParts) (count : ℕ) where
  abbrev there : Pattern → Bool
  there p = pattern_there parts count p

  abbrev within : Tree → Bool
  within t = tree_within parts count t

  -- ---- patterns one after another, and one of several

  both_there : (p q : Pattern) → there p ≡ true → there q ≡ true → there (pattern.Dot p q) ≡ true
  both_there p q h g = ap (form_there parts count) (form_dot p q) ∙ (λ i. h i && g i)

  either_there : (p q : Pattern) → there p ≡ true → there q ≡ true → there (pattern.Either p q) ≡ true
  either_there p q h g = ap (form_there parts count) (form_either p q) ∙ (λ i. h i && g i)

  dots_from : (p : Pattern) (ps : List Pattern) → there p ≡ true → list_all there ps ≡ true → there (fold pattern.Dot p ps) ≡ true
  dots_from p [] h g = h
  dots_from p (q ∷ qs) h g = both_true (there q) (list_all there qs) g (λ here rest. dots_from (pattern.Dot p q) qs (both_there p q h here) rest)

  dots_there : (ps : List Pattern) → list_all there ps ≡ true → there (dots ps) ≡ true
  dots_there [] h = ap (form_there parts count) form_nothing
  dots_there (p ∷ ps) h = both_true (there p) (list_all there ps) h (dots_from p ps)

  choices_from : (p : Pattern) (ps : List Pattern) → there p ≡ true → list_all there ps ≡ true → there (fold pattern.Either p ps) ≡ true
  choices_from p [] h g = h
  choices_from p (q ∷ qs) h g = both_true (there q) (list_all there qs) g (λ here rest. choices_from (pattern.Either p q) qs (either_there p q h here) rest)

  choices_there : (ps : List Pattern) → list_all there ps ≡ true → there (either_of ps) ≡ true
  choices_there [] h = ap (form_there parts count) form_nothing
  choices_there (p ∷ ps) h = both_true (there p) (list_all there ps) h (choices_from p ps)

  -- ---- clauses

  edge_there : (e : ℕ) → is_edge parts e ≡ true → there (edge_pattern e) ≡ true
  edge_there e h = ap (form_there parts count) (form_letter _) ∙ (λ i. h i && true)

  edges_there : (es : List ℕ) → list_all (is_edge parts) es ≡ true → list_all there (map edge_pattern es) ≡ true
  edges_there [] h = refl
  edges_there (e ∷ es) h = both_true (is_edge parts e) (list_all (is_edge parts) es) h (λ here rest. λ i. edge_there e here i && edges_there es rest i)

  path_there : (path : List ℕ) → has_edges parts path ≡ true → there (path_pattern path) ≡ true
  path_there [] h = absurd (true≢false (sym h))
  path_there (e ∷ es) h = dots_there (map edge_pattern (e ∷ es)) (edges_there (e ∷ es) h)

  paths_there : (ps : List (List ℕ)) → list_all (has_edges parts) ps ≡ true → list_all there (map path_pattern ps) ≡ true
  paths_there [] h = refl
  paths_there (p ∷ ps) h = both_true (has_edges parts p) (list_all (has_edges parts) ps) h (λ here rest. λ i. path_there p here i && paths_there ps rest i)

  pub tree_there : (t : Tree) → within t ≡ true → there (pattern_of t) ≡ true
  tree_there (tree.nodes ns is) h = ap (form_there parts count) (form_letter _) ∙ both_true (list_all (is_node parts) ns) (list_all (λ i. nat_lt i count) is) h (λ here rest. here)
  tree_there (tree.edges es is) h = ap (form_there parts count) (form_letter _) ∙ both_true (list_all (is_edge parts) es) (list_all (λ i. nat_lt i count) is) h (λ here rest. here)
  tree_there (tree.paths ps) h = choices_there (map path_pattern ps) (paths_there ps h)
  tree_there (tree.predicate i) h = ap (form_there parts count) (form_letter _) ∙ h
  tree_there (tree.quoted body text) h = tree_there body h
  tree_there (tree.dot a b) h = both_true (within a) (within b) h (λ x y. both_there (pattern_of a) (pattern_of b) (tree_there a x) (tree_there b y))
  tree_there (tree.plus a b) h = both_true (within a) (within b) h (λ x y. either_there (pattern_of a) (pattern_of b) (tree_there a x) (tree_there b y))
  tree_there (tree.repeat body least most) h = ap (form_there parts count) (form_repeat (pattern_of body) least most) ∙ tree_there body h

  -- the pattern of the passing clause
  pub passing_there : (c : Option Clause) (t : Option Tree) → option_map_or within t true ≡ true → option_map_or (λ (p : PassingPattern). there p.pattern) (passing_of c t) true ≡ true
  passing_there None t h = refl
  passing_there (Some c) None h = refl
  passing_there (Some c) (Some t) h = tree_there t h

  -- ---- quoted letters

  abbrev pub body_within : Quote → Bool
  body_within q = within q.body

  pub quoted_within : (t : Tree) → within t ≡ true → list_all body_within (quoted t) ≡ true
  quoted_within (tree.nodes ns is) h = refl
  quoted_within (tree.edges es is) h = refl
  quoted_within (tree.paths ps) h = refl
  quoted_within (tree.predicate i) h = refl
  quoted_within (tree.quoted body text) h = λ i. h i && true
  quoted_within (tree.dot a b) h = both_true (within a) (within b) h (λ x y. list_all-append body_within (quoted a) (quoted b) ∙ (λ i. quoted_within a x i && quoted_within b y i))
  quoted_within (tree.plus a b) h = both_true (within a) (within b) h (λ x y. list_all-append body_within (quoted a) (quoted b) ∙ (λ i. quoted_within a x i && quoted_within b y i))
  quoted_within (tree.repeat body least most) h = quoted_within body h

  pub quotes_there : (qs : List Quote) → list_all body_within qs ≡ true → list_all there (quote_patterns qs) ≡ true
  quotes_there [] h = refl
  quotes_there (q ∷ qs) h = both_true (body_within q) (list_all body_within qs) h (λ here rest. λ i. tree_there q.body here i && quotes_there qs rest i)

  -- ---- words

  numbered_there : (ps : List Pattern) → list_all there ps ≡ true → (i : ℕ) → there (slice_index_or ps i pattern.Nothing) ≡ true
  numbered_there [] h zero = ap (form_there parts count) form_nothing
  numbered_there [] h (suc i) = ap (form_there parts count) form_nothing
  numbered_there (p ∷ ps) h zero = both_true (there p) (list_all there ps) h (λ here rest. here)
  numbered_there (p ∷ ps) h (suc i) = both_true (there p) (list_all there ps) h (λ here rest. numbered_there ps rest i)

  module _ (ps : List Pattern) (own : list_all there ps ≡ true) (quotes : ℕ) where
    letter_pattern_there : (l : GoalLetter) → letter_there parts quotes count l ≡ true → there (letter_pattern ps l) ≡ true
    letter_pattern_there (Node n) h = ap (form_there parts count) (form_letter _) ∙ (λ i. h i && true)
    letter_pattern_there (Edge e) h = edge_there e h
    letter_pattern_there (Predicate i) h = ap (form_there parts count) (form_letter _) ∙ h
    letter_pattern_there (Absent i) h = ap (form_there parts count) (form_letter _) ∙ h
    letter_pattern_there (Quoted i) h = numbered_there ps own i

    letters_there : (ls : List GoalLetter) → list_all (letter_there parts quotes count) ls ≡ true → list_all there (map (letter_pattern ps) ls) ≡ true
    letters_there [] h = refl
    letters_there (l ∷ ls) h = both_true (letter_there parts quotes count l) (list_all (letter_there parts quotes count) ls) h
        (λ here rest. λ i. letter_pattern_there l here i && letters_there ls rest i)

    word_pattern_there : (w : Word) → word_there parts quotes count w ≡ true → there (word_pattern ps w) ≡ true
    word_pattern_there [] h = absurd (true≢false (sym h))
    word_pattern_there (l ∷ ls) h = dots_there (map (letter_pattern ps) (l ∷ ls)) (letters_there (l ∷ ls) h)

    pub goal_patterns_there : (ws : List Word) → list_all (word_there parts quotes count) ws ≡ true → list_all (λ (g : GoalForm). there g.pattern) (goals_with ps ws) ≡ true
    goal_patterns_there [] h = refl
    goal_patterns_there (w ∷ ws) h = both_true (word_there parts quotes count w) (list_all (word_there parts quotes count) ws) h
        (λ here rest. λ i. word_pattern_there w here i && goal_patterns_there ws rest i)

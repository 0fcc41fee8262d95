-- The edges with which the words of goals begin.
use Rattle.std.proofs.Common.{◌≡◌, ℕ, Bool, true, false, List, [], ◌∷◌, Option, fold, map, refl, sym, ◌∙◌, ap, subst, arith}
use Rattle.patterns.specs.Letters.{form}
use Rattle.patterns.specs.Match.{Match, LetterMatch}
use Rattle.patterns.specs.Match as plain
use Rattle.patterns.specs.Paths.{step_of}
use Rattle.patterns.specs.declared.letter.Letter.TheVariants as letter
use Rattle.patterns.specs.declared.pattern.Pattern.TheVariants as pattern
use Rattle.patterns.proofs.Forms.{form_letter, form_dot}
use Rattle.goals.specs.Forms.{Pattern, edge_pattern, letter_pattern, word_pattern}
use Rattle.goals.specs.GoalForm.{GoalForm, HasItsPattern}
use Rattle.goals.specs.Words.{Word}
use Rattle.goals.specs.declared.goal_letter.GoalLetter.TheVariants.{Node, Edge, Predicate, Absent, Quoted}
use Rattle.measurer_hits.proofs.run_match.Matches.{forward}
use Rattle.measurer.specs.Openings.{BeginsWith, IsOpening, opening_of}
use Rattle.measurer.proofs.Words.{edge_walk}

-- one edge
edge_begins : (edge : ℕ) → BeginsWith edge (form (edge_pattern edge))
edge_begins edge path i j m =
    let one : LetterMatch (step_of path) (letter.Edges (edge ∷ [])) i j = subst (λ f. Match (step_of path) f i j) (form_letter (letter.Edges (edge ∷ []))) m in
    let goes = (edge_walk [] path edge i j).0 one in
    let next = goes.0 in
    (omega arith, goes.1)

-- what goes on after a pattern begins as the pattern does
dots_begin : (edge : ℕ) (ps : List Pattern) (p : Pattern) → BeginsWith edge (form p) → BeginsWith edge (form (fold pattern.Dot p ps))
dots_begin edge [] p h = h
dots_begin edge (q ∷ ps) p h = dots_begin edge ps (pattern.Dot p q) with_next
  where
    with_next : BeginsWith edge (form (pattern.Dot p q))
    with_next path i j m =
        let two : Match (step_of path) (plain.dot (form p) (form q)) i j = subst (λ f. Match (step_of path) f i j) (form_dot p q) m in
        let first = h path i two.0 two.1.0 in
        let ahead = first.0 in
        let rest = forward (step_of path) (form q) two.0 j two.1.1 in
        (omega arith, first.1)

word_opening : (first : Bool) (word : Word) (qs : List Pattern) → IsOpening (opening_of first word) first (form (word_pattern qs word))
word_opening true word qs = tt
word_opening false [] qs = tt
word_opening false (Node n ∷ w) qs = tt
word_opening false (Edge e ∷ w) qs = (refl, dots_begin e (map (letter_pattern qs) w) (edge_pattern e) (edge_begins e))
word_opening false (Predicate p ∷ w) qs = tt
word_opening false (Absent p ∷ w) qs = tt
word_opening false (Quoted q ∷ w) qs = tt

-- the edge with which a goal's word begins is the one that its matches take first
pub goal_opening : (goal : GoalForm) (first : Bool) (word : Word) (opening : Option ℕ) → HasItsPattern goal → word ≡ goal.word → opening ≡ opening_of first word → IsOpening opening first (form goal.pattern)
goal_opening goal first word opening own same is =
    let e : opening_of first goal.word ≡ opening = sym (is ∙ ap (opening_of first) same) in
    subst (λ o. IsOpening o first (form goal.pattern)) e (subst (λ p. IsOpening (opening_of first goal.word) first (form p)) (sym own.1) (word_opening first goal.word own.0))

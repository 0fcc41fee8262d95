-- The words of goals are the different words of the clause.
use Rattle.std.proofs.Common.{◌≡◌, ◌↔◌, ℕ, ◌<◌, Bool, true, false, ◌&&◌, if◌then◌else◌, List, [], ◌∷◌, ◌++◌, length, get_or, map, refl, sym, ap, ◌∙◌, subst, true≢false, eq-eqb, arith}
use Rattle.std.specs.List.{AllPairs, Contains, list_any}
use Rattle.std.proofs.lemmas.List.Folds.{list_any_at}
use Rattle.std.proofs.lemmas.List.Quantifiers.{all_pairs_push}
use Rattle.indexmap.specs.IndexSet.{insert_key, insert_all}
use Rattle.indexmap.proofs.CallerLemmas.{Contains-list_any}
use Rattle.goals.specs.applied_clauses.Trees.{Tree}
use Rattle.goals.specs.GoalForm.{GoalForm}
use Rattle.goals.specs.Forms.{Pattern, quote_patterns, word_pattern}
use Rattle.goals.specs.Plans.{goals_of, goals_with}
use Rattle.goals.specs.Words.{Word, goal_words, quotes_of, same_letter, same_word, words_of}
use Rattle.goals.specs.declared.goal_letter.GoalLetter.{GoalLetter}
use Rattle.goals.specs.declared.goal_letter.GoalLetter.TheVariants.{Node, Edge, Predicate, Absent, Quoted}
use Rattle.goals.proofs.Seen.{any_seen, words_equal}

same_as_itself : (a : GoalLetter) → same_letter a a ≡ true
same_as_itself (Node n) = eq-eqb n n refl
same_as_itself (Edge n) = eq-eqb n n refl
same_as_itself (Predicate n) = eq-eqb n n refl
same_as_itself (Absent n) = eq-eqb n n refl
same_as_itself (Quoted n) = eq-eqb n n refl

word_as_itself : (w : Word) → same_word w w ≡ true
word_as_itself [] = refl
word_as_itself (a ∷ w) = λ i. same_as_itself a i && word_as_itself w i

among : (ws : List Word) (w : Word) → Contains ws w → list_any (same_word w) ws ≡ true
among ws w (k, lt, e) = list_any_at (same_word w) ws k w lt (subst (λ v. same_word w v ≡ true) (sym e) (word_as_itself w))

found : (ws : List Word) (w : Word) → list_any (same_word w) ws ≡ true → Contains ws w
found ws w h = Contains-list_any same_word words_equal ws w h

abbrev AreDifferent : List Word → Type 0
AreDifferent ws = AllPairs (λ (v w : Word). v ≡ w → ⊥) ws

inserted : (ws : List Word) (w : Word) → AreDifferent ws → AreDifferent (insert_key same_word ws w)
inserted ws w h = by (list_any (same_word w) ws) refl
  where
    by : (b : Bool) → list_any (same_word w) ws ≡ b → AreDifferent (insert_key same_word ws w)
    by true e = subst AreDifferent (sym (ap (λ b. if b then ws else ws ++ w ∷ []) e)) h
    by false e = subst AreDifferent (sym (ap (λ b. if b then ws else ws ++ w ∷ []) e))
        (all_pairs_push (λ (v u : Word). v ≡ u → ⊥) ws w h
        (λ k d lt same. true≢false (sym (list_any_at (same_word w) ws k d lt (subst (λ v. same_word w v ≡ true) (sym same) (word_as_itself w))) ∙ e)))

all_inserted : (ws vs : List Word) → AreDifferent ws → AreDifferent (insert_all same_word ws vs)
all_inserted ws [] h = h
all_inserted ws (v ∷ vs) h = all_inserted (insert_key same_word ws v) vs (inserted ws v h)

pub different : (cover : Tree) → AllPairs (λ (v w : Word). v ≡ w → ⊥) (goal_words cover)
different cover = all_inserted [] (words_of cover) (λ i j d lt within. absurd (omega arith))

pub all_words : (cover : Tree) (w : Word) → Contains (words_of cover) w ↔ Contains (goal_words cover) w
all_words cover w =
    let same = any_seen same_word (same_word w) (λ x y e h. subst (λ v. same_word w v ≡ true) (words_equal x y e) h) [] (words_of cover) in
    (λ h. found (goal_words cover) w (same ∙ among (words_of cover) w h), λ h. found (words_of cover) w (sym same ∙ among (goal_words cover) w h))

words_with : (patterns : List Pattern) (ws : List Word) → map (λ (g : GoalForm). g.word) (goals_with patterns ws) ≡ ws
words_with patterns [] = refl
words_with patterns (w ∷ ws) = ap (λ vs. w ∷ vs) (words_with patterns ws)

pub words_kept : (cover : Tree) → map (λ (g : GoalForm). g.word) (goals_of cover) ≡ goal_words cover
words_kept cover = words_with (quote_patterns (quotes_of cover)) (goal_words cover)

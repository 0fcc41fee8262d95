-- The causes of refusals by counts are those by the words and the goals.
use Rattle.std.proofs.Common.{◌≡◌, ◌||◌, Bool, true, false, if◌then◌else◌, List, [], ◌∷◌, refl, sym, ap, ◌∙◌, subst}
use Rattle.std.specs.Prelude.{nat_lt, Option, Some, None, option_map, option_and_then}
use Rattle.std.specs.List.{list_any}
use Rattle.std.specs.Option.{option_map_or}
use Rattle.goals.specs.applied_clauses.Trees.{Tree}
use Rattle.fq_core.specs.declared.refusal.Place.TheVariants as place
use Rattle.goals.specs.applied_clauses.Limits.{passed_limit}
use Rattle.goals.specs.applied_clauses.Outcome.{too_many}
use Rattle.goals.specs.CountedCauses.{counted_causes, is_long_tree}
use Rattle.goals.specs.Counts.{longest}
use Rattle.goals.specs.Forms.{pattern_of, quote_patterns}
use Rattle.goals.specs.GoalForm.{GoalForm}
use Rattle.goals.specs.Plans.{first_cause, goals_of, goals_with, is_too_long, late_causes, most_letters, most_words, refused, tree_causes}
use Rattle.goals.specs.Words.{Quote, Word, goal_words, quotes_of, same_word, texts, words_of}
use Rattle.goals.proofs.Long.{count_tree, count_word, some_long, word_letters}
use Rattle.goals.proofs.Products.{length-words}
use Rattle.goals.proofs.Seen.{any_seen, words_equal}

module _ (cover : Tree) where
  any_goal : (ws : List Word) → list_any (λ (g : GoalForm). is_too_long g.pattern) (goals_with (quote_patterns (quotes_of cover)) ws) ≡ list_any (λ w. nat_lt most_letters (word_letters (quotes_of cover) w)) ws
  any_goal [] = refl
  any_goal (w ∷ ws) = λ i. nat_lt most_letters (count_word (quotes_of cover) w i) || any_goal ws i

  long_goal : list_any (λ (g : GoalForm). is_too_long g.pattern) (goals_of cover) ≡ nat_lt most_letters (longest (quotes_of cover) cover)
  long_goal =
      let p : Word → Bool = λ w. nat_lt most_letters (word_letters (quotes_of cover) w) in
      any_goal (goal_words cover)
      ∙ any_seen same_word p (λ v w h t. subst (λ x. p x ≡ true) (words_equal v w h) t) [] (words_of cover)
      ∙ some_long (quotes_of cover) most_letters cover

long_passing : (passing : Option Tree) → option_map_or (λ t. is_too_long (pattern_of t)) passing false ≡ option_map_or is_long_tree passing false
long_passing None = refl
long_passing (Some t) = ap (nat_lt most_letters) (count_tree t)

-- the same causes
pub counted : (cover : Tree) (passing : Option Tree) → counted_causes (quotes_of cover) cover passing ≡ late_causes cover passing
counted cover passing = λ i.
    (if nat_lt most_words (sym (length-words (texts (quotes_of cover)) cover) i) then Some (too_many most_words) else None) ∷
    (if sym (long_goal cover) i || sym (long_passing passing) i then Some (refused 73 (place.Limit most_letters)) else None) ∷
    (if nat_lt 0 (sym (length-words (texts (quotes_of cover)) cover) i) then None else Some (refused 72 place.QueryWhole)) ∷ []

-- within the limits of paths the first cause is the first by counts
pub first_counted : (cover : Tree) (passing : Option Tree) (qs : List Quote) → qs ≡ quotes_of cover → passed_limit cover ≡ None → option_and_then passed_limit passing ≡ None
    → first_cause (tree_causes cover passing) ≡ first_cause (counted_causes qs cover passing)
first_counted cover passing qs same own other =
    (λ i. first_cause (option_map too_many (own i) ∷ option_map too_many (other i) ∷ late_causes cover passing))
    ∙ ap first_cause (sym (counted cover passing)) ∙ ap (λ x. first_cause (counted_causes x cover passing)) (sym same)

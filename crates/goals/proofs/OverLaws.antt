-- A plan whose trees name what is there is one over the automaton.
use Rattle.std.proofs.Common.{◌≡◌, ℕ, ◌+◌, ◌<◌, ◌≤◌, Bool, true, false, if◌then◌else◌, List, [], ◌∷◌, length, refl, sym, ap, ◌∙◌, subst, true≢false, arith}
use Rattle.std.specs.Prelude.{nat_lt, Option, Some, None, Result, Ok, Err, IfOk, option_and_then, option_map}
use Rattle.std.specs.List.{Contains, list_all}
use Rattle.std.specs.Option.{option_map_or}
use Rattle.std.proofs.lemmas.Bool.Decides.{nat_tests}
use Rattle.std.proofs.lemmas.List.{length-map}
use Rattle.cfa.specs.declared.parts.GraphParts.{GraphParts}
use Rattle.fq_core.specs.declared.refusal.Fault.{Fault}
use Rattle.fq_core.specs.declared.refusal.Fault.TheVariants as fault
use Rattle.fq_core.specs.declared.refusal.Place.TheVariants as place
use Rattle.fq_core.specs.declared.refusal.Refusal.{Refusal}
use Rattle.fql_read.specs.declared.query.Query.{Query}
use Rattle.goals.specs.applied_clauses.Limits.{passed_limit}
use Rattle.goals.specs.applied_clauses.Outcome.{too_many}
use Rattle.goals.specs.applied_clauses.Trees.{Tree, tree_of}
use Rattle.goals.specs.declared.applied_clauses.applied_tree.AppliedTree.{AppliedTree}
use Rattle.goals.specs.applied_clauses.Within.{tree_within}
use Rattle.goals.specs.Forms.{quote_patterns}
use Rattle.goals.specs.Over.{IsPlanOver}
use Rattle.goals.specs.Plans.{IsTreeOutcome, first_cause, goals_of, has_long_pattern, late_causes, most_letters, most_words, plan_with, refused, tree_causes}
use Rattle.goals.specs.Words.{Word, goal_words, quoted, quotes_of, same_text, same_word, texts, words_of}
use Rattle.goals.specs.declared.plan.Plan.{Plan}
use Rattle.goals.proofs.DifferentWords.{all_words}
use Rattle.goals.proofs.OverPatterns.{body_within, goal_patterns_there, passing_there, quoted_within, quotes_there}
use Rattle.goals.proofs.OverWords.{goals_there, quotes_numbered, there, words_there}
use Rattle.goals.proofs.Seen.{all_kept, no_more}

some_is_none : {X P : Type 0} {x : X} → Some x ≡ None → P
some_is_none e = cc

rest_none : (r : Option Refusal) (rs : List (Option Refusal)) → first_cause (r ∷ rs) ≡ None → first_cause rs ≡ None
rest_none None rs h = h
rest_none (Some r) rs h = some_is_none h

no_cause : (b : Bool) (r : Refusal) (rs : List (Option Refusal)) → first_cause ((if b then Some r else None) ∷ rs) ≡ None → b ≡ false
no_cause true r rs h = some_is_none h
no_cause false r rs h = refl

some_words : (b : Bool) (r : Refusal) → first_cause ((if b then None else Some r) ∷ []) ≡ None → b ≡ true
some_words true r h = refl
some_words false r h = some_is_none h

module _ (cover : Tree) (passing : Option Tree) (h : first_cause (tree_causes cover passing) ≡ None) where
  abbrev too_many_words : Option Refusal
  too_many_words = if nat_lt most_words (length (words_of cover)) then Some (too_many most_words) else None

  abbrev too_long : Option Refusal
  too_long = if has_long_pattern cover passing then Some (refused 73 (place.Limit most_letters)) else None

  abbrev none_there : Option Refusal
  none_there = if nat_lt 0 (length (words_of cover)) then None else Some (refused 72 place.QueryWhole)

  late : first_cause (too_many_words ∷ too_long ∷ none_there ∷ []) ≡ None
  late =
      let passing_limit : Option Refusal = option_map too_many (option_and_then passed_limit passing) in
      let causes : List (Option Refusal) = late_causes cover passing in
      rest_none passing_limit causes (rest_none (option_map too_many (passed_limit cover)) (passing_limit ∷ causes) h)

  has_words : nat_lt 0 (length (words_of cover)) ≡ true
  has_words = some_words (nat_lt 0 (length (words_of cover))) (refused 72 place.QueryWhole) (rest_none too_long (none_there ∷ []) (rest_none too_many_words (too_long ∷ none_there ∷ []) late))

  few_words : nat_lt most_words (length (words_of cover)) ≡ false
  few_words = no_cause (nat_lt most_words (length (words_of cover))) (too_many most_words) (too_long ∷ none_there ∷ []) late

some_goal : (cover : Tree) (ws : List Word) → words_of cover ≡ ws → nat_lt 0 (length ws) ≡ true → 0 < length (goal_words cover)
some_goal cover [] e h = absurd (true≢false (sym h))
some_goal cover (w ∷ ws) e h =
    let found : Contains (words_of cover) w = subst (λ vs. Contains vs w) (sym e) (0, omega arith, refl) in
    at_least ((all_words cover w).0 found)
  where
    at_least : Contains (goal_words cover) w → 0 < length (goal_words cover)
    at_least (k, lt, same) = omega arith

module _ (parts : GraphParts) (q : Query) (cover : Tree) (passing : Option Tree) where
  abbrev count : ℕ
  count = length q.predicates

  plan_over : tree_within parts count cover ≡ true → option_map_or (tree_within parts count) passing true ≡ true → first_cause (tree_causes cover passing) ≡ None → IsPlanOver parts (plan_with q cover passing)
  plan_over h g none =
      let ts = texts (quotes_of cover) in
      let listed = words_there parts count ts cover h (quotes_numbered (quoted cover) (quoted cover) (λ r e. e)) in
      let all : list_all (there parts count ts) (goal_words cover) ≡ true = all_kept same_word (there parts count ts) [] (words_of cover) refl listed in
      let quotes : list_all (body_within parts count) (quotes_of cover) ≡ true = all_kept same_text (body_within parts count) [] (quoted cover) refl (quoted_within parts count cover h) in
      let size : length (goals_of cover) ≡ length (goal_words cover) = length-map (goal_words cover) _ in
      let lt = some_goal cover (words_of cover) refl (has_words cover passing none) in
      let fewer : length (goal_words cover) ≤ length (words_of cover) = omega (arith, no_more same_word [] (words_of cover)) in
      let bound : length (words_of cover) ≤ most_words = let e = few_words cover passing none in grind (arith, nat_tests) in
      record {
        some = omega arith;
        few = omega arith;
        words = goals_there parts count ts (quote_patterns (quotes_of cover)) (goal_words cover) ∙ all;
        patterns = goal_patterns_there parts count (quote_patterns (quotes_of cover)) (quotes_there parts count (quotes_of cover) quotes) (length ts) (goal_words cover) all;
        passing = passing_there parts count q.passing passing g;
      }

  pub outcome_over : (r : Result Plan Fault) → tree_within parts count cover ≡ true → option_map_or (tree_within parts count) passing true ≡ true → IsTreeOutcome q cover passing r → IfOk r (λ plan. IsPlanOver parts plan)
  outcome_over (Ok plan) h g o = subst (λ p. IsPlanOver parts p) (sym o.1) (plan_over h g o.0)
  outcome_over (Err fault.Memory) h g o = tt
  outcome_over (Err (fault.Refused c)) h g o = tt

pub mapped : (parts : GraphParts) (count : ℕ) (t : Option AppliedTree) → option_map_or (λ a. tree_within parts count (tree_of a)) t true ≡ true → option_map_or (tree_within parts count) (option_map tree_of t) true ≡ true
mapped parts count None h = h
mapped parts count (Some a) h = h

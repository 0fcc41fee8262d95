-- The greatest number of letters of a word, without its words.
use Rattle.std.proofs.Common.{◌≡◌, ℕ, zero, suc, ◌+◌, ◌*◌, ◌≤◌, ◌==◌, ◌||◌, true, false, max, if◌then◌else◌, List, [], ◌∷◌, ◌++◌, fold, length, map, refl, sym, ap, ◌∙◌, arith}
use Rattle.std.specs.Prelude.{nat_lt, slice_get, slice_index_or}
use Rattle.std.specs.List.{flat_map, list_any}
use Rattle.std.proofs.lemmas.List.Sums.{sum_by-cons}
use Rattle.std.specs.Option.{option_map_or}
use Rattle.std.proofs.lemmas.Bool.Decides.{nat_tests}
use Rattle.patterns.specs.Letters.{form, letter_count, times}
use Rattle.patterns.specs.declared.pattern.Pattern.TheVariants as pattern
use Rattle.patterns.proofs.Forms.{form_nothing, form_letter, form_dot, form_either, form_repeat}
use Rattle.filters_paths.specs.Outcome.{edge_count}
use Rattle.goals.specs.applied_clauses.Trees as tree
use Rattle.goals.specs.applied_clauses.Trees.{Tree}
use Rattle.goals.specs.Counts.{greatest, joined_letters, longest, one_of, tree_letters}
use Rattle.goals.specs.Forms.{Pattern, dots, either_of, edge_pattern, path_pattern, pattern_of, quote_patterns, letter_pattern, word_pattern}
use Rattle.goals.specs.Words.{Quote, Word, edge_words, number_of, product, texts, truth_words, words}
use Rattle.goals.specs.declared.goal_letter.GoalLetter.{GoalLetter}
use Rattle.goals.specs.declared.goal_letter.GoalLetter.TheVariants.{Node, Edge, Predicate, Absent}
use Rattle.goals.proofs.Products.{length-words}

-- ---- letters of patterns

abbrev count : Pattern → ℕ
count p = letter_count (form p)

abbrev pub total : {X : Type 0} → (X → ℕ) → List X → ℕ
total f [] = 0
total f (x ∷ xs) = f x + total f xs

count_dot : (p q : Pattern) → count (pattern.Dot p q) ≡ count p + count q
count_dot p q = ap letter_count (form_dot p q)

count_either : (p q : Pattern) → count (pattern.Either p q) ≡ count p + count q
count_either p q = ap letter_count (form_either p q)

count_dots_from : (p : Pattern) (ps : List Pattern) → count (fold pattern.Dot p ps) ≡ count p + total count ps
count_dots_from p [] = omega arith
count_dots_from p (q ∷ qs) = let rest = count_dots_from (pattern.Dot p q) qs in let one = count_dot p q in omega arith

count_dots : (ps : List Pattern) → count (dots ps) ≡ total count ps
count_dots [] = ap letter_count form_nothing
count_dots (p ∷ ps) = count_dots_from p ps

count_choices_from : (p : Pattern) (ps : List Pattern) → count (fold pattern.Either p ps) ≡ count p + total count ps
count_choices_from p [] = omega arith
count_choices_from p (q ∷ qs) = let rest = count_choices_from (pattern.Either p q) qs in let one = count_either p q in omega arith

count_choices : (ps : List Pattern) → count (either_of ps) ≡ total count ps
count_choices [] = ap letter_count form_nothing
count_choices (p ∷ ps) = count_choices_from p ps

count_edge : (e : ℕ) → count (edge_pattern e) ≡ 1
count_edge e = ap letter_count (form_letter _)

count_path : (path : List ℕ) → count (path_pattern path) ≡ length path
count_path path = count_dots (map edge_pattern path) ∙ each path
  where
    each : (es : List ℕ) → total count (map edge_pattern es) ≡ length es
    each [] = refl
    each (e ∷ es) = let rest = each es in let one = count_edge e in omega arith

count_paths : (ps : List (List ℕ)) → count (either_of (map path_pattern ps)) ≡ edge_count ps
count_paths ps = count_choices (map path_pattern ps) ∙ each ps
  where
    each : (qs : List (List ℕ)) → total count (map path_pattern qs) ≡ edge_count qs
    each [] = refl
    each (q ∷ qs) = let rest = each qs in let one = count_path q in omega (arith, sum_by-cons length q qs)

-- the letters of a clause are counted without its pattern
pub count_tree : (t : Tree) → letter_count (form (pattern_of t)) ≡ tree_letters t
count_tree (tree.nodes ns is) = ap letter_count (form_letter _)
count_tree (tree.edges es is) = ap letter_count (form_letter _)
count_tree (tree.paths ps) = count_paths ps
count_tree (tree.predicate i) = ap letter_count (form_letter _)
count_tree (tree.quoted body text) = count_tree body
count_tree (tree.dot a b) = count_dot (pattern_of a) (pattern_of b) ∙ (λ i. count_tree a i + count_tree b i)
count_tree (tree.plus a b) = count_either (pattern_of a) (pattern_of b) ∙ (λ i. count_tree a i + count_tree b i)
count_tree (tree.repeat body least most) = ap letter_count (form_repeat (pattern_of body) least most) ∙ (λ i. count_tree body i * times least most)

-- ---- letters of words

either_above : (n a b : ℕ) → (nat_lt n a || nat_lt n b) ≡ nat_lt n (max a b)
either_above n a b = grind (arith, nat_tests)

module _ (qs : List Quote) where
  abbrev letters : GoalLetter → ℕ
  letters l = count (letter_pattern (quote_patterns qs) l)

  abbrev pub word_letters : Word → ℕ
  word_letters w = total letters w

  pub count_word : (w : Word) → letter_count (form (word_pattern (quote_patterns qs) w)) ≡ word_letters w
  count_word w = count_dots (map (letter_pattern (quote_patterns qs)) w) ∙ each w
    where
      each : (v : Word) → total count (map (letter_pattern (quote_patterns qs)) v) ≡ word_letters v
      each [] = refl
      each (l ∷ v) = let rest = each v in omega arith

  one_letter : (l : GoalLetter) (p : Pattern) → letter_pattern (quote_patterns qs) l ≡ p → count p ≡ 1 → word_letters (l ∷ []) ≡ 1
  one_letter l p e h = let same : letters l ≡ 1 = ap count e ∙ h in omega arith

  both : (v w : Word) → word_letters (v ++ w) ≡ word_letters v + word_letters w
  both [] w = omega arith
  both (l ∷ v) w = let rest = both v w in omega arith

  abbrev most : List Word → ℕ
  most ws = greatest (map word_letters ws)

  most-append : (vs ws : List Word) → most (vs ++ ws) ≡ max (most vs) (most ws)
  most-append [] ws = omega arith
  most-append (v ∷ vs) ws = let rest = most-append vs ws in omega arith

  most_followed : (v w : Word) (ws : List Word) → most (map (λ x. v ++ x) (w ∷ ws)) ≡ word_letters v + most (w ∷ ws)
  most_followed v w [] = let one = both v w in omega arith
  most_followed v w (x ∷ xs) = let rest = most_followed v x xs in let one = both v w in omega arith

  most_product_some : (v : Word) (vs : List Word) (w : Word) (ws : List Word) → most (product (v ∷ vs) (w ∷ ws)) ≡ most (v ∷ vs) + most (w ∷ ws)
  most_product_some v [] w ws =
      let one = most_followed v w ws in let all = most-append (map (λ x. v ++ x) (w ∷ ws)) [] in omega arith
  most_product_some v (u ∷ us) w ws =
      let one = most_followed v w ws in let all = most-append (map (λ x. v ++ x) (w ∷ ws)) (product (u ∷ us) (w ∷ ws)) in
      let rest = most_product_some u us w ws in omega arith

  no_followed : (vs : List Word) → product vs [] ≡ []
  no_followed [] = refl
  no_followed (v ∷ vs) = no_followed vs

  most_product : (vs ws : List Word) → most (product vs ws) ≡ joined_letters (length vs) (length ws) (most vs) (most ws)
  most_product [] ws = refl
  most_product (v ∷ vs) [] = ap most (no_followed (v ∷ vs)) ∙ sym (no_second (suc (length vs)) (most (v ∷ vs)) 0)
    where
      no_second : (n a b : ℕ) → joined_letters n 0 a b ≡ 0
      no_second n a b = elim (n == 0) as (λ t. (if t || true then 0 else a + b) ≡ 0) [ true ↦ refl | false ↦ refl ]
  most_product (v ∷ vs) (w ∷ ws) = most_product_some v vs w ws ∙ sym (some_both (length vs) (length ws) (most (v ∷ vs)) (most (w ∷ ws)))
    where
      some_both : (n m a b : ℕ) → joined_letters (suc n) (suc m) a b ≡ a + b
      some_both n m a b = grind (arith, nat_tests)

  -- the same number of letters from each part
  each_most : (f : ℕ → List Word) (c : ℕ) → ((n : ℕ) → most (f n) ≡ c) → (ns : List ℕ) → most (flat_map f ns) ≡ one_of ns c
  each_most f c each [] = refl
  each_most f c each (n ∷ ns) = let here = each n in let rest = each_most f c each ns in let few = at_most ns in let both = most-append (f n) (flat_map f ns) in omega arith
    where
      at_most : (ms : List ℕ) → one_of ms c ≤ c
      at_most [] = omega arith
      at_most (m ∷ ms) = omega arith

  -- there are truth words, and each has a letter for each predicate
  some_truths : (is : List ℕ) → (w : Word) × (ws : List Word) × (truth_words is ≡ w ∷ ws)
  some_truths [] = ([], [], refl)
  some_truths (i ∷ is) =
      let rest = some_truths is in
      (Predicate i ∷ rest.0, map (λ w. Predicate i ∷ w) rest.1 ++ product ((Absent i ∷ []) ∷ []) (rest.0 ∷ rest.1), ap (product ((Predicate i ∷ []) ∷ (Absent i ∷ []) ∷ [])) rest.2)

  truths_most : (is : List ℕ) → most (truth_words is) ≡ length is
  truths_most [] = omega arith
  truths_most (i ∷ is) =
      let rest = some_truths is in
      let own = truths_most is in
      let known : most (rest.0 ∷ rest.1) ≡ length is = ap most (sym rest.2) ∙ own in
      let one = one_letter (Predicate i) _ refl (ap letter_count (form_letter _)) in
      let other = one_letter (Absent i) _ refl (ap letter_count (form_letter _)) in
      let all = most_product_some (Predicate i ∷ []) ((Absent i ∷ []) ∷ []) rest.0 rest.1 in
      let parts : most (truth_words (i ∷ is)) ≡ most (product ((Predicate i ∷ []) ∷ (Absent i ∷ []) ∷ []) (rest.0 ∷ rest.1)) = ap (λ ws. most (product ((Predicate i ∷ []) ∷ (Absent i ∷ []) ∷ []) ws)) rest.2 in
      omega arith

  behind_most : (l : GoalLetter) → word_letters (l ∷ []) ≡ 1 → (is : List ℕ) → most (map (λ t. l ∷ t) (truth_words is)) ≡ length is + 1
  behind_most l one is =
      let rest = some_truths is in
      let own = truths_most is in
      let known : most (rest.0 ∷ rest.1) ≡ length is = ap most (sym rest.2) ∙ own in
      let all = most_followed (l ∷ []) rest.0 rest.1 in
      let parts : most (map (λ t. l ∷ t) (truth_words is)) ≡ most (map (λ t. l ∷ t) (rest.0 ∷ rest.1)) = ap (λ ws. most (map (λ t. l ∷ t) ws)) rest.2 in
      omega arith

  edge_most : (is : List ℕ) (e : ℕ) → most (edge_words (truth_words is) e) ≡ 2 * length is + 1
  edge_most is e =
      let rest = some_truths is in
      let own = truths_most is in
      let known : most (rest.0 ∷ rest.1) ≡ length is = ap most (sym rest.2) ∙ own in
      let behind = behind_most (Edge e) (one_letter (Edge e) _ refl (count_edge e)) is in
      let later : most (map (λ t. Edge e ∷ t) (rest.0 ∷ rest.1)) ≡ length is + 1 = ap (λ ws. most (map (λ t. Edge e ∷ t) ws)) (sym rest.2) ∙ behind in
      let all = most_product_some rest.0 rest.1 (Edge e ∷ rest.0) (map (λ t. Edge e ∷ t) rest.1) in
      let parts : most (edge_words (truth_words is) e) ≡ most (edge_words (rest.0 ∷ rest.1) e) = ap (λ ws. most (edge_words ws e)) rest.2 in
      omega arith

  edges_of_path : (path : List ℕ) → word_letters (map Edge path) ≡ length path
  edges_of_path [] = refl
  edges_of_path (e ∷ es) = let rest = edges_of_path es in let one = count_edge e in omega arith

  paths_most : (ps : List (List ℕ)) → most (map (λ path. map Edge path) ps) ≡ greatest (map length ps)
  paths_most [] = refl
  paths_most (p ∷ ps) = let rest = paths_most ps in let one = edges_of_path p in omega arith

  quote_at : (rs : List Quote) (n : ℕ) → count (slice_index_or (quote_patterns rs) n pattern.Nothing) ≡ option_map_or (λ (q : Quote). tree_letters q.body) (slice_get rs n) 0
  quote_at [] n = ap letter_count form_nothing
  quote_at (r ∷ rs) zero = count_tree r.body
  quote_at (r ∷ rs) (suc n) = quote_at rs n

  -- the greatest number of letters of a word
  most_words : (t : Tree) → most (words (texts qs) t) ≡ longest qs t
  most_words (tree.nodes ns is) = each_most (λ n. map (λ t. Node n ∷ t) (truth_words is)) (length is + 1) (λ n. behind_most (Node n) (one_letter (Node n) _ refl (ap letter_count (form_letter _))) is) ns
  most_words (tree.edges es is) = each_most (edge_words (truth_words is)) (2 * length is + 1) (edge_most is) es
  most_words (tree.paths ps) = paths_most ps
  most_words (tree.predicate i) = let one = one_letter (Predicate i) _ refl (ap letter_count (form_letter _)) in omega arith
  most_words (tree.quoted body text) = let one = quote_at qs (number_of (texts qs) text) in omega arith
  most_words (tree.dot a b) = most_product (words (texts qs) a) (words (texts qs) b)
      ∙ (λ i. joined_letters (length-words (texts qs) a i) (length-words (texts qs) b i) (most_words a i) (most_words b i))
  most_words (tree.plus a b) = most-append (words (texts qs) a) (words (texts qs) b) ∙ (λ i. max (most_words a i) (most_words b i))
  most_words (tree.repeat body least most) = refl

  some_above : (n : ℕ) (ws : List Word) → list_any (λ w. nat_lt n (word_letters w)) ws ≡ nat_lt n (most ws)
  some_above n [] = grind (arith, nat_tests)
  some_above n (w ∷ ws) = ap (λ b. nat_lt n (word_letters w) || b) (some_above n ws) ∙ either_above n (word_letters w) (most ws)

  -- some word has more letters than this exactly where the longest has
  pub some_long : (n : ℕ) (t : Tree) → list_any (λ w. nat_lt n (word_letters w)) (words (texts qs) t) ≡ nat_lt n (longest qs t)
  some_long n t = some_above n (words (texts qs) t) ∙ ap (nat_lt n) (most_words t)

-- The words of a plan name what is there.
use Rattle.std.proofs.Common.{◌≡◌, ℕ, zero, suc, ◌+◌, ◌<◌, ◌≤◌, ◌==◌, ◌||◌, ◌&&◌, Bool, true, false, if◌then◌else◌, cond, not, List, [], ◌∷◌, ◌++◌, length, map, refl, sym, ap, ◌∙◌, subst, true≢false, eqb-true, eq-eqb, arith}
use Rattle.std.specs.Prelude.{nat_lt, slice_index_or, Option, Some, None, Result, Ok, Err, IfOk, option_map, option_and_then}
use Rattle.std.specs.Cmp.Lexicographic.{pointwise}
use Rattle.std.specs.List.{Contains, flat_map, list_all, list_any, position_or_len}
use Rattle.std.specs.Str.{bytes_eq}
use Rattle.std.proofs.lemmas.Bool.Decides.{nat_tests}
use Rattle.std.proofs.lemmas.List.{length-map}
use Rattle.std.proofs.lemmas.List.Folds.{list_all-append}
use Rattle.indexmap.specs.IndexSet.{insert_key, insert_all}
use Rattle.cfa.specs.declared.parts.GraphParts.{GraphParts}
use Rattle.goals.specs.applied_clauses.Trees as tree
use Rattle.goals.specs.applied_clauses.Trees.{Tree}
use Rattle.goals.specs.applied_clauses.Within.{has_edges, is_edge, is_node, tree_within}
use Rattle.goals.specs.Forms.{Pattern, quote_patterns, word_pattern}
use Rattle.goals.specs.GoalForm.{GoalForm}
use Rattle.goals.specs.Over.{IsPlanOver, letter_there, word_there}
use Rattle.goals.specs.Plans.{goals_with}
use Rattle.goals.specs.Words.{Quote, Text, Word, edge_words, goal_words, number_of, product, quoted, quotes_of, same_text, same_word, texts, truth_words, words, words_of}
use Rattle.goals.specs.declared.goal_letter.GoalLetter.{GoalLetter}
use Rattle.goals.specs.declared.goal_letter.GoalLetter.TheVariants.{Node, Edge, Predicate, Absent, Quoted}
use Rattle.goals.proofs.Seen.{any_seen, both_true, or_cases, or_true}

-- ---- texts of quoted letters

texts_equal : (v w : Text) → bytes_eq v w ≡ true → v ≡ w
texts_equal [] [] h = refl
texts_equal [] (b ∷ w) h = absurd (true≢false (sym h))
texts_equal (a ∷ v) [] h = absurd (true≢false (sym h))
texts_equal (a ∷ v) (b ∷ w) h = both_true (a == b) (bytes_eq v w) h (λ x y. λ i. eqb-true a b x i ∷ texts_equal v w y i)

text_as_itself : (v : Text) → bytes_eq v v ≡ true
text_as_itself [] = refl
text_as_itself (a ∷ v) = λ i. eq-eqb a a refl i && text_as_itself v i

-- a text that is among those of quoted letters has a number
numbered : (q : Quote) (qs : List Quote) → list_any (same_text q) qs ≡ true → number_of (texts qs) q.text < length (texts qs)
numbered q [] h = absurd (true≢false (sym h))
numbered q (r ∷ rs) h = by (bytes_eq r.text q.text) refl (numbered q rs)
  where
    by : (b : Bool) → bytes_eq r.text q.text ≡ b → (list_any (same_text q) rs ≡ true → number_of (texts rs) q.text < length (texts rs)) → number_of (texts (r ∷ rs)) q.text < length (texts (r ∷ rs))
    by true e more = let first : number_of (texts (r ∷ rs)) q.text ≡ 0 = ap (λ b. cond (not b) (1 + number_of (texts rs) q.text) 0) e in omega arith
    by false e more =
        let later : number_of (texts (r ∷ rs)) q.text ≡ 1 + number_of (texts rs) q.text = ap (λ b. cond (not b) (1 + number_of (texts rs) q.text) 0) e in
        or_cases (bytes_eq q.text r.text) (list_any (same_text q) rs) h
        (λ here. absurd (true≢false (sym (subst (λ t. bytes_eq t q.text ≡ true) (texts_equal q.text r.text here) (text_as_itself q.text)) ∙ e)))
        (λ rest. let lt = more rest in omega arith)

-- each quoted letter of a list has a number among those of the different ones
pub all_numbered : (qs : List Quote) → (q : Quote) → list_any (same_text q) qs ≡ true → number_of (texts (insert_all same_text [] qs)) q.text < length (texts (insert_all same_text [] qs))
all_numbered qs q h =
    let same = any_seen same_text (same_text q) (λ x y e t. subst (λ v. bytes_eq q.text v ≡ true) (texts_equal x.text y.text e) t) [] qs in
    numbered q (insert_all same_text [] qs) (same ∙ h)

-- ---- words

module _ (parts : GraphParts) (count : ℕ) (ts : List Text) where
  abbrev pub there : Word → Bool
  there w = word_there parts (length ts) count w

  abbrev letter : GoalLetter → Bool
  letter l = letter_there parts (length ts) count l

  edge_letters : (es : List ℕ) → list_all (is_edge parts) es ≡ true → list_all letter (map Edge es) ≡ true
  edge_letters [] h = refl
  edge_letters (e ∷ es) h = both_true (is_edge parts e) (list_all (is_edge parts) es) h (λ here rest. λ i. here i && edge_letters es rest i)

  path_word : (path : List ℕ) → has_edges parts path ≡ true → there (map Edge path) ≡ true
  path_word [] h = absurd (true≢false (sym h))
  path_word (e ∷ es) h = both_true (is_edge parts e) (list_all (is_edge parts) es) h (λ here rest. λ i. here i && edge_letters es rest i)

  path_words : (ps : List (List ℕ)) → list_all (has_edges parts) ps ≡ true → list_all there (map (λ path. map Edge path) ps) ≡ true
  path_words [] h = refl
  path_words (p ∷ ps) h = both_true (has_edges parts p) (list_all (has_edges parts) ps) h (λ here rest. λ i. path_word p here i && path_words ps rest i)

  all_letters : (w : Word) → there w ≡ true → list_all letter w ≡ true
  all_letters [] h = refl
  all_letters (l ∷ ls) h = h

  followed : (v w : Word) → there v ≡ true → there w ≡ true → there (v ++ w) ≡ true
  followed [] w h g = absurd (true≢false (sym h))
  followed (l ∷ ls) w h g = both_true (letter l) (list_all letter ls) h
      (λ here rest. λ i. here i && (list_all-append letter ls w ∙ (λ j. rest j && all_letters w g j)) i)

  -- what holds of the parts of words holds of all products
  module _ (p q r : Word → Bool) (joins : (v w : Word) → p v ≡ true → q w ≡ true → r (v ++ w) ≡ true) where
    all_followed : (v : Word) → p v ≡ true → (ws : List Word) → list_all q ws ≡ true → list_all r (map (λ w. v ++ w) ws) ≡ true
    all_followed v h [] g = refl
    all_followed v h (w ∷ ws) g = both_true (q w) (list_all q ws) g (λ here rest. λ i. joins v w h here i && all_followed v h ws rest i)

    all_products : (vs ws : List Word) → list_all p vs ≡ true → list_all q ws ≡ true → list_all r (product vs ws) ≡ true
    all_products [] ws h g = refl
    all_products (v ∷ vs) ws h g = both_true (p v) (list_all p vs) h
        (λ here rest. list_all-append r (map (λ w. v ++ w) ws) (product vs ws) ∙ (λ i. all_followed v here ws g i && all_products vs ws rest g i))

  -- ---- truth words

  abbrev letters : Word → Bool
  letters w = list_all letter w

  letters_joined : (v w : Word) → letters v ≡ true → letters w ≡ true → letters (v ++ w) ≡ true
  letters_joined v w h g = list_all-append letter v w ∙ (λ i. h i && g i)

  behind_letters : (v w : Word) → letters v ≡ true → there w ≡ true → there (v ++ w) ≡ true
  behind_letters [] w h g = g
  behind_letters (l ∷ ls) w h g = letters_joined (l ∷ ls) w h (all_letters w g)

  truth_letters : (is : List ℕ) → list_all (λ i. nat_lt i count) is ≡ true → list_all letters (truth_words is) ≡ true
  truth_letters [] h = refl
  truth_letters (i ∷ is) h = both_true (nat_lt i count) (list_all (λ i. nat_lt i count) is) h
      (λ here rest. all_products letters letters letters letters_joined ((Predicate i ∷ []) ∷ (Absent i ∷ []) ∷ []) (truth_words is)
      (λ j. (here j && true) && ((here j && true) && true)) (truth_letters is rest))

  behind_letter : (l : GoalLetter) → letter l ≡ true → (ws : List Word) → list_all letters ws ≡ true → list_all there (map (λ w. l ∷ w) ws) ≡ true
  behind_letter l h [] g = refl
  behind_letter l h (w ∷ ws) g = both_true (letters w) (list_all letters ws) g (λ here rest. λ i. (h i && here i) && behind_letter l h ws rest i)

  all_mapped : (f : ℕ → List Word) (p : ℕ → Bool) → ((n : ℕ) → p n ≡ true → list_all there (f n) ≡ true) → (ns : List ℕ) → list_all p ns ≡ true → list_all there (flat_map f ns) ≡ true
  all_mapped f p each [] h = refl
  all_mapped f p each (n ∷ ns) h = both_true (p n) (list_all p ns) h
      (λ here rest. list_all-append there (f n) (flat_map f ns) ∙ (λ i. each n here i && all_mapped f p each ns rest i))

  node_words : (ns is : List ℕ) → list_all (is_node parts) ns ≡ true → list_all (λ i. nat_lt i count) is ≡ true → list_all there (words ts (tree.nodes ns is)) ≡ true
  node_words ns is h g = all_mapped (λ n. map (λ t. Node n ∷ t) (truth_words is)) (is_node parts) (λ n e. behind_letter (Node n) e (truth_words is) (truth_letters is g)) ns h

  all_edge_words : (es is : List ℕ) → list_all (is_edge parts) es ≡ true → list_all (λ i. nat_lt i count) is ≡ true → list_all there (words ts (tree.edges es is)) ≡ true
  all_edge_words es is h g =
      let truths = truth_letters is g in
      all_mapped (edge_words (truth_words is)) (is_edge parts)
      (λ k e. all_products letters there there behind_letters (truth_words is) (map (λ t. Edge k ∷ t) (truth_words is)) truths (behind_letter (Edge k) e (truth_words is) truths)) es h

  abbrev has_number : Quote → Bool
  has_number q = nat_lt (number_of ts q.text) (length ts)

  pub words_there : (t : Tree) → tree_within parts count t ≡ true → list_all has_number (quoted t) ≡ true → list_all there (words ts t) ≡ true
  words_there (tree.nodes ns is) h g = both_true (list_all (is_node parts) ns) (list_all (λ i. nat_lt i count) is) h (node_words ns is)
  words_there (tree.edges es is) h g = both_true (list_all (is_edge parts) es) (list_all (λ i. nat_lt i count) is) h (all_edge_words es is)
  words_there (tree.paths ps) h g = path_words ps h
  words_there (tree.predicate i) h g = λ j. (h j && true) && true
  words_there (tree.quoted body text) h g = g_of g
    where
      g_of : (nat_lt (number_of ts text) (length ts) && true) ≡ true → ((nat_lt (number_of ts text) (length ts) && true) && true) ≡ true
      g_of e = λ j. e j && true
  words_there (tree.dot a b) h g = both_true (tree_within parts count a) (tree_within parts count b) h
      (λ ha hb. both_true (list_all has_number (quoted a)) (list_all has_number (quoted b)) (sym (list_all-append has_number (quoted a) (quoted b)) ∙ g)
      (λ ga gb. all_products there there there followed (words ts a) (words ts b) (words_there a ha ga) (words_there b hb gb)))
  words_there (tree.plus a b) h g = both_true (tree_within parts count a) (tree_within parts count b) h
      (λ ha hb. both_true (list_all has_number (quoted a)) (list_all has_number (quoted b)) (sym (list_all-append has_number (quoted a) (quoted b)) ∙ g)
      (λ ga gb. list_all-append there (words ts a) (words ts b) ∙ (λ i. words_there a ha ga i && words_there b hb gb i)))
  words_there (tree.repeat body least most) h g = refl

  pub goals_there : (patterns : List Pattern) (ws : List Word) → list_all (λ (g : GoalForm). there g.word) (goals_with patterns ws) ≡ list_all there ws
  goals_there patterns [] = refl
  goals_there patterns (w ∷ ws) = ap (λ b. there w && b) (goals_there patterns ws)

pub quotes_numbered : (qs rs : List Quote) → ((q : Quote) → list_any (same_text q) rs ≡ true → list_any (same_text q) qs ≡ true) → list_all (λ (q : Quote). nat_lt (number_of (texts (insert_all same_text [] qs)) q.text) (length (texts (insert_all same_text [] qs)))) rs ≡ true
quotes_numbered qs [] f = refl
quotes_numbered qs (r ∷ rs) f =
    let lt = all_numbered qs r (f r (ap (λ b. b || list_any (same_text r) rs) (text_as_itself r.text))) in
    let here : nat_lt (number_of (texts (insert_all same_text [] qs)) r.text) (length (texts (insert_all same_text [] qs))) ≡ true = grind (arith, nat_tests) in
    λ i. here i && quotes_numbered qs rs (λ q h. f q (ap (λ b. same_text q r || b) h ∙ or_true (same_text q r))) i

-- Queries whose goals ask for the edges that a filter keeps: for all at once, or for each.
use Rattle.std.proofs.Common.{rules, ◌≡◌, ℕ, zero, suc, ◌+◌, ◌<◌, Bool, true, false, not, cond, ◌==◌, ◌&&◌, ◌||◌, if◌then◌else◌, List, [], ◌∷◌, ◌++◌, length, map, filter, refl, sym, ap, ◌∙◌, append-nil, append_assoc, arith}
use Rattle.std.specs.List.{AllByRecursion, flat_map, list_any, range_with_len}
use Rattle.std.proofs.lemmas.Bool.{ne_eqb}
use Rattle.std.proofs.lemmas.List.{map-append}
use Rattle.std.proofs.lemmas.Slice.Eq.{bytes_eq-Decides}
use Rattle.cfa.specs.declared.parts.GraphParts.{GraphParts}
use Rattle.fql_read.specs.declared.cover.CoverTree.{the_lemmas as cover_lemmas}
use Rattle.fql_read.specs.declared.cover.CoverTree.TheVariants as cover
use Rattle.fql_read.specs.declared.cover.Split.{Split}
use Rattle.indexmap.specs.IndexSet.{insert_all, insert_key}
use Rattle.filters.specs.Kept.{kept_by}
use Rattle.patterns.specs.declared.letter.Letter.TheVariants as letter
use Rattle.patterns.specs.declared.pattern.Pattern.TheVariants as pattern
use Rattle.filters.specs.Parts.{Part, whole}
use Rattle.goals.specs.applied_clauses.Applied.{applied, base_of, kept, numbers}
use Rattle.goals.specs.applied_clauses.Trees.{Tree, edges, quoted}
use Rattle.goals.specs.Forms.{Pattern}
use Rattle.goals.specs.GoalForm.{GoalForm}
use Rattle.goals.specs.Words.{Word, edge_words, same_word}
use Rattle.goals.specs.Plans.{cover_tree, goals_of, goals_with, passing_of, passing_tree}
use Rattle.goals.specs.declared.goal_letter.GoalLetter.TheVariants.{Edge, Quoted}
use Rattle.measurer_laws.specs.covered_laws.Queries.{FilterAsks, QuotedFilterAsks, edge_goal}

applied_quoted : (parts : GraphParts) (base : Part) (s : Split) (text : List ℕ) → applied parts base (cover.Quoted (cover.Edges s) text) ≡ quoted (edges (kept parts base s.filter).edges s.predicates) text
unfolding applied
applied_quoted parts base s text = search (rules, cover_lemmas)

abbrev letter_of : List ℕ → Pattern
letter_of es = pattern.Letter (letter.Edges es)

abbrev goal_of : List ℕ → GoalForm
goal_of es = record { word = Quoted 0 ∷ []; pattern = letter_of es }

one_goal : (es text : List ℕ) → goals_of (quoted (edges es []) text) ≡ goal_of es ∷ []
one_goal es text = ap (λ (b : Bool). goals_with (letter_of es ∷ []) ((Quoted (cond (not b) (1 + 0) 0) ∷ []) ∷ [])) ((bytes_eq-Decides text text).1 refl)

pub quoted_filter_asks : QuotedFilterAsks
quoted_filter_asks parts q s text base first last passing body plain =
    let es = (kept parts (whole parts) s.filter).edges in
    let tree_is : cover_tree parts q ≡ quoted (edges es []) text =
    ap (applied parts (base_of parts q.base)) body ∙ ap (λ b. applied parts (base_of parts b) (cover.Quoted (cover.Edges s) text)) base ∙ applied_quoted parts (whole parts) s text
    ∙ ap (λ (is : List ℕ). quoted (edges es is) text) plain in (
      goal_of es,
      ap (λ (t : Tree). goals_of t) tree_is ∙ one_goal es text,
      record { first = first; last = last; passing = ap (λ o. passing_of o (passing_tree parts q)) passing; pattern = refl },
    )

-- ---- without quotation marks: a goal for each edge

applied_edges : (parts : GraphParts) (base : Part) (s : Split) → applied parts base (cover.Edges s) ≡ edges (kept parts base s.filter).edges s.predicates
unfolding applied
applied_edges parts base s = search (rules, cover_lemmas)

-- the word of an edge
abbrev one : ℕ → Word
one e = Edge e ∷ []

words_each : (es : List ℕ) → flat_map (edge_words ([] ∷ [])) es ≡ map one es
words_each [] = refl
words_each (e ∷ es) = ap (λ ws. one e ∷ ws) (words_each es)

abbrev AllBelow : ℕ → List ℕ → Type 0
AllBelow a ks = AllByRecursion (λ k. k < a) ks

below_more : (a : ℕ) (ks : List ℕ) → AllBelow a ks → AllBelow (a + 1) ks
below_more a [] h = tt
below_more a (k ∷ ks) h = let lt = h.0 in (omega (arith, lt), below_more a ks h.1)

below_last : (a : ℕ) (ks : List ℕ) → AllBelow a ks → AllBelow (a + 1) (ks ++ a ∷ [])
below_last a [] h = (omega arith, tt)
below_last a (k ∷ ks) h = let lt = h.0 in (omega (arith, lt), below_last a ks h.1)

-- the word of a number above others isn't one of theirs
none_same : (a : ℕ) (ks : List ℕ) → AllBelow a ks → list_any (same_word (one a)) (map one ks) ≡ false
none_same a [] h = refl
none_same a (k ∷ ks) h =
    let lt = h.0 in
    let other : (a == k) ≡ false = ne_eqb a k (λ same. absurd (omega (arith, lt, same))) in
    ap (λ b. (b && true) || list_any (same_word (one a)) (map one ks)) other ∙ none_same a ks h.1

-- inserted behind others, the words of these numbers are all there
abbrev Same : List ℕ → List ℕ → Type 0
Same ks es = insert_all same_word (map one ks) (map one es) ≡ map one (ks ++ es)

fresh : (a : ℕ) (ks : List ℕ) → AllBelow a ks → insert_key same_word (map one ks) (one a) ≡ map one (ks ++ a ∷ [])
fresh a ks h = ap (λ b. if b then map one ks else map one ks ++ one a ∷ []) (none_same a ks h) ∙ sym (map-append one ks (a ∷ []))

-- one more, if it is there
one_more : (a : ℕ) (ks rest : List ℕ) (b : Bool) → AllBelow a ks → Same (ks ++ a ∷ []) rest → Same ks rest → Same ks (cond b (a ∷ rest) rest)
one_more a ks rest true h with without = ap (λ ws. insert_all same_word ws (map one rest)) (fresh a ks h) ∙ with ∙ ap (map one) (append_assoc ks (a ∷ []) rest)
one_more a ks rest false h with without = without

-- so rising numbers have different words
all_different : (p : ℕ → Bool) (n a : ℕ) (ks : List ℕ) → AllBelow a ks → Same ks (filter p (range_with_len a n))
all_different p zero a ks h = ap (map one) (sym (append-nil ks))
all_different p (suc n) a ks h =
    one_more a ks (filter p (range_with_len (a + 1) n)) (p a) h (all_different p n (a + 1) (ks ++ a ∷ []) (below_last a ks h)) (all_different p n (a + 1) ks (below_more a ks h))

each_goal : (es : List ℕ) → goals_with [] (map one es) ≡ map edge_goal es
each_goal [] = refl
each_goal (e ∷ es) = ap (λ gs. edge_goal e ∷ gs) (each_goal es)

goals_each : (p : ℕ → Bool) (n : ℕ) → goals_of (edges (numbers p n) []) ≡ map edge_goal (numbers p n)
goals_each p n = ap (λ ws. goals_with [] (insert_all same_word [] ws)) (words_each (numbers p n)) ∙ ap (goals_with []) (all_different p n 0 [] tt) ∙ each_goal (numbers p n)

pub filter_asks : FilterAsks
filter_asks parts q s base first last passing body plain =
    let tree_is : cover_tree parts q ≡ edges (kept parts (whole parts) s.filter).edges [] =
    ap (applied parts (base_of parts q.base)) body ∙ ap (λ b. applied parts (base_of parts b) (cover.Edges s)) base ∙ applied_edges parts (whole parts) s
    ∙ ap (edges (kept parts (whole parts) s.filter).edges) plain in (
      ap goals_of tree_is ∙ goals_each (kept_by parts s.filter (whole parts)).edge (length parts.edges),
      λ k. record { first = first; last = last; passing = ap (λ o. passing_of o (passing_tree parts q)) passing; pattern = refl },
    )

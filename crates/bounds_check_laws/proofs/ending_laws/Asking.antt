-- Which queries ask for each end.
use Rattle.std.proofs.Common.{◌≡◌, ◌≢◌, ℕ, zero, suc, ◌+◌, ◌<◌, ◌≤◌, Bool, true, false, cond, List, [], ◌∷◌, length, filter, flat_map, Option, Some, None, refl, sym, ap, subst, ◌∙◌, ⊎_elim, arith, rules}
use Rattle.std.specs.Prelude.{slice_get}
use Rattle.std.specs.List.{Contains, range_with_len}
use Rattle.std.proofs.lemmas.Bool.{cases_eq, lt-ltb}
use Rattle.std.proofs.lemmas.Option.{get_or_from_slice_get, slice_get-get_or, slice_get_within}
use Rattle.cfa.proofs.Exits.{taken}
use Rattle.cfa.specs.Graph.{IsGraph}
use Rattle.cfa.specs.declared.parts.Function.{Function}
use Rattle.cfa.specs.declared.parts.GraphParts.{GraphParts}
use Rattle.cfa.specs.declared.parts.Node.{Node as GraphNode}
use Rattle.fql_read.specs.declared.cover.CoverTree.{the_lemmas as cover_lemmas}
use Rattle.fql_read.specs.declared.cover.CoverTree.TheVariants as cover
use Rattle.fql_read.specs.declared.cover.Split.{Split}
use Rattle.fql_read.specs.declared.filter.Filter.{Filter, the_lemmas as filter_lemmas}
use Rattle.fql_read.specs.declared.filter.FilterForm.{FilterForm}
use Rattle.fql_read.specs.declared.filter.FilterForm.TheVariants as form
use Rattle.fql_read.specs.declared.query.Query.{Query}
use Rattle.filters.specs.Kept.{kept_by}
use Rattle.filters.specs.Parts.{Part, whole}
use Rattle.goals.specs.applied_clauses.Applied.{applied, base_of, kept, numbers}
use Rattle.goals.specs.applied_clauses.Trees.{Tree, nodes}
use Rattle.goals.proofs.DifferentWords.{all_words}
use Rattle.goals.specs.Forms.{Pattern, quote_patterns, word_pattern}
use Rattle.goals.specs.GoalForm.{GoalForm}
use Rattle.goals.specs.Plans.{cover_tree, goals_of, goals_with, passing_of, passing_tree, plan_with}
use Rattle.goals.specs.Words.{Word, goal_words, quotes_of, words_of}
use Rattle.goals.specs.declared.goal_letter.GoalLetter.TheVariants.{Node}
use Rattle.bounds_check_laws.specs.ending_laws.Asking.{AsksFor, AsksForEachEnd, IsLedTo}
use Rattle.bounds_check_laws.specs.ending_laws.Laws.{AllNodesAsk, KeptNodesAsk}

-- an element has a place
abbrev Has : {X : Type 0} → List X → X → Type 0
Has {X} xs x = (i : ℕ) × (slice_get xs i ≡ Some x)

-- ---- the numbers that are there

kept_of : (test : ℕ → Bool) (x n : ℕ) (xs : List ℕ) → Has (filter test xs) n → Has (filter test (x ∷ xs)) n
kept_of test x n xs h = by (test x) refl
  where
    by : (b : Bool) → test x ≡ b → Has (filter test (x ∷ xs)) n
    by true e = (suc h.0, ap (λ b. slice_get (cond b (x ∷ filter test xs) (filter test xs)) (suc h.0)) e ∙ h.1)
    by false e = (h.0, ap (λ b. slice_get (cond b (x ∷ filter test xs) (filter test xs)) h.0) e ∙ h.1)

number_kept : (test : ℕ → Bool) (n : ℕ) → test n ≡ true → (from count : ℕ) → from ≤ n → n < from + count → Has (filter test (range_with_len from count)) n
number_kept test n is_kept from zero le lt = absurd (omega arith)
number_kept test n is_kept from (suc count) le lt =
    ⊎_elim
    (λ same.
    let here : test from ≡ true = ap test same ∙ is_kept in
    (0, ap (λ b. slice_get (cond b (from ∷ filter test (range_with_len (from + 1) count)) (filter test (range_with_len (from + 1) count))) 0) here ∙ ap Some same))
    (λ other. kept_of test from n (range_with_len (from + 1) count) (number_kept test n is_kept (from + 1) count (omega (arith, other)) (omega arith)))
    (cases_eq from n)

-- ---- words and goals

word_there : (ns : List ℕ) (i n : ℕ) → slice_get ns i ≡ Some n → slice_get (words_of (nodes ns [])) i ≡ Some (Node n ∷ [])
word_there ns i n there = by ns i there
  where
    by : (ms : List ℕ) (j : ℕ) → slice_get ms j ≡ Some n → slice_get (flat_map (λ m. (Node m ∷ []) ∷ []) ms) j ≡ Some (Node n ∷ [])
    by [] j e = absurd cc
    by (m ∷ ms) zero e = ap (λ (o : Option ℕ). word_of o) e
      where
        word_of : Option ℕ → Option Word
        word_of None = None
        word_of (Some x) = Some (Node x ∷ [])
    by (m ∷ ms) (suc j) e = by ms j e

goal_there : (patterns : List Pattern) (ws : List Word) (i : ℕ) (w : Word) → slice_get ws i ≡ Some w → slice_get (goals_with patterns ws) i ≡ Some (record { word = w; pattern = word_pattern patterns w })
goal_there patterns [] i w e = absurd cc
goal_there patterns (v ∷ ws) zero w e = ap (goal_of patterns) e
  where
    goal_of : List Pattern → Option Word → Option GoalForm
    goal_of ps None = None
    goal_of ps (Some x) = Some (record { word = x; pattern = word_pattern ps x })
goal_there patterns (v ∷ ws) (suc i) w e = goal_there patterns ws i w e

-- each node of a clause has its goal
node_goal : (ns : List ℕ) (n : ℕ) → Has ns n → (place : ℕ) × (goal : GoalForm) × (slice_get (goals_of (nodes ns [])) place ≡ Some goal) × AsksFor n goal
node_goal ns n h =
    let t : Tree = nodes ns [] in
    let w : Word = Node n ∷ [] in
    let there = word_there ns h.0 n h.1 in
    let has : Contains (words_of t) w = (h.0, slice_get_within (words_of t) h.0 w there, get_or_from_slice_get (words_of t) h.0 w w there) in
    let at = (all_words t w).0 has in
    let is : slice_get (goal_words t) at.0 ≡ Some w = slice_get-get_or (goal_words t) at.0 w at.1 ∙ ap Some at.2 in
    (at.0, record { word = w; pattern = word_pattern (quote_patterns (quotes_of t)) w }, goal_there (quote_patterns (quotes_of t)) (goal_words t) at.0 w is, refl)

-- ---- clauses

applied_nodes : (parts : GraphParts) (base : Part) (s : Split) → applied parts base (cover.Nodes s) ≡ nodes (kept parts base s.filter).nodes s.predicates
unfolding applied
applied_nodes parts base s = search (rules, cover_lemmas)

abbrev filter_of : ℕ → FilterForm → Filter
filter_of column f = record { column = column; form = f }

kept_whole : (parts : GraphParts) (column : ℕ) (a : Part) → kept_by parts (filter_of column form.Id) a ≡ a
unfolding kept_by
kept_whole parts column a = search (rules, filter_lemmas)

module _ (parts : GraphParts) (k : ℕ) (entry : Function) (g : IsGraph parts) (own : slice_get parts.functions k ≡ Some entry) where
  -- the nodes to which control comes are there
  led_there : (n : ℕ) → IsLedTo parts entry n → n < length parts.nodes
  led_there n led =
      ⊎_elim
      (λ first.
      let f = taken (λ (x : GraphNode). x.function ≡ k) (slice_get parts.nodes entry.entry) (g.rest.functions k entry own).entry in
      let within = slice_get_within parts.nodes entry.entry f.0 f.1 in
      omega (arith, within, first))
      (λ e. let target = (g.edges e.0 e.1 e.2).target in let same = e.3 in omega (arith, target, same))
      led

  module _ (q : Query) (s : Split) (body : q.cover.body ≡ cover.Nodes s) (plain : s.predicates ≡ []) where
    tree_is : cover_tree parts q ≡ nodes (kept parts (base_of parts q.base) s.filter).nodes []
    tree_is =
        ap (applied parts (base_of parts q.base)) body ∙ applied_nodes parts (base_of parts q.base) s
        ∙ ap (λ (is : List ℕ). nodes (kept parts (base_of parts q.base) s.filter).nodes is) plain

    asks : q.cover.first ≡ false → q.cover.last ≡ true → q.passing ≡ None
        → ((node : ℕ) → IsLedTo parts entry node → node ≢ entry.exit → (kept_by parts s.filter (base_of parts q.base)).node node ≡ true)
        → AsksForEachEnd parts entry (plan_with q (cover_tree parts q) (passing_tree parts q))
    asks first last passing keeps = record {
      first = first;
      last = last;
      passing = ap (λ o. passing_of o (passing_tree parts q)) passing;
      each = λ n led other.
          let a = kept_by parts s.filter (base_of parts q.base) in
          let there = number_kept a.node n (keeps n led other) 0 (length parts.nodes) (omega arith) (let within = led_there n led in omega (arith, within)) in
          subst (λ (t : Tree). (place : ℕ) × (goal : GoalForm) × (slice_get (goals_of t) place ≡ Some goal) × AsksFor n goal) (sym tree_is) (node_goal (numbers a.node (length parts.nodes)) n there);
    }

pub kept_nodes_ask : KeptNodesAsk
kept_nodes_ask parts k entry q s g own first last passing body plain keeps = asks parts k entry g own q s body plain first last passing keeps

pub all_nodes_ask : AllNodesAsk
all_nodes_ask parts k entry q s g own first last passing base body plain id =
    let same : kept_by parts s.filter (base_of parts q.base) ≡ whole parts =
    ap (λ f. kept_by parts (filter_of s.filter.column f) (base_of parts q.base)) id ∙ kept_whole parts s.filter.column (base_of parts q.base) ∙ ap (base_of parts) base in
    asks parts k entry g own q s body plain first last passing (λ n led other. ap (λ (p : Part). p.node n) same ∙ lt-ltb n (length parts.nodes) (led_there parts k entry g own n led))

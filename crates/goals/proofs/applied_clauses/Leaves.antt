-- The letters of a clause name what is in the graph.
use Rattle.std.proofs.Common.{rules, ◌≡◌, ℕ, zero, suc, ◌+◌, ◌*◌, ◌<◌, ◌≤◌, ◌==◌, ◌||◌, ◌&&◌, Bool, true, false, cond, List, [], ◌∷◌, length, refl, sym, ap, IsTrue, IfOk, Result, Ok, Err, ◌∙◌, subst, true≢false, eqb-true, arith}
use Rattle.std.specs.Prelude.{nat_lt}
use Rattle.std.specs.List.{filter, list_all, list_any, range_with_len}
use Rattle.std.proofs.lemmas.Bool.Decides.{nat_tests}
use Rattle.cfa.specs.declared.parts.GraphParts.{GraphParts}
use Rattle.fq_core.specs.declared.refusal.Fault.{Fault}
use Rattle.fq_core.specs.declared.refusal.Fault.TheVariants as fault
use Rattle.goals.specs.declared.applied_clauses.applied_tree.AppliedTree.{AppliedTree}
use Rattle.fql_read.specs.Usable.{is_within}
use Rattle.fql_read.specs.declared.cover.CoverTree.{CoverTree, the_lemmas}
use Rattle.fql_read.specs.declared.cover.CoverTree.TheVariants.{Nodes, Edges, Dot, Plus, Arrow}
use Rattle.fql_read.specs.declared.cover.Split.{Split}
use Rattle.fql_read.specs.declared.filter.Filter.{Filter}
use Rattle.filters.specs.Kept.{kept_by}
use Rattle.filters.specs.Parts.{Part, is_among, part_of}
use Rattle.filters_paths.specs.Paths.{are_joined, begins_at_start, ends_at_end, is_bounded, is_path, ordered_lists, paths_of}
use Rattle.goals.specs.applied_clauses.Applied.{anywhere, kept, numbers, target_of}
use Rattle.goals.specs.applied_clauses.Outcome.{IsClauseOutcome}
use Rattle.goals.specs.applied_clauses.Trees.{Tree, nodes, edges, paths, tree_of}
use Rattle.goals.specs.applied_clauses.Within.{has_edges, is_edge, is_node, tree_within}

both_true : (a b : Bool) {P : Type 0} → (a && b) ≡ true → (a ≡ true → b ≡ true → P) → P
both_true true b h f = f refl h
both_true false b h f = absurd (true≢false (sym h))

-- what holds of all that pass a test holds of all that a filter keeps
all_kept : {X : Type 0} (p q : X → Bool) (xs : List X) → ((x : X) → p x ≡ true → q x ≡ true) → list_all q (filter p xs) ≡ true
all_kept p q [] f = refl
all_kept p q (x ∷ xs) f = by (p x) refl (all_kept p q xs f)
  where
    by : (b : Bool) → p x ≡ b → list_all q (filter p xs) ≡ true → list_all q (filter p (x ∷ xs)) ≡ true
    by true e rest = ap (λ b. list_all q (cond b (x ∷ filter p xs) (filter p xs))) e ∙ (λ i. f x e i && rest i)
    by false e rest = ap (λ b. list_all q (cond b (x ∷ filter p xs) (filter p xs))) e ∙ rest

range_below : (n a m : ℕ) → a + n ≤ m → list_all (λ k. nat_lt k m) (range_with_len a n) ≡ true
range_below zero a m h = refl
range_below (suc n) a m h =
    let here : nat_lt a m ≡ true = grind (arith, nat_tests) in
    λ i. here i && range_below n (a + 1) m (omega arith) i

all_filtered : {X : Type 0} (p q : X → Bool) (xs : List X) → list_all q xs ≡ true → list_all q (filter p xs) ≡ true
all_filtered p q [] h = refl
all_filtered p q (x ∷ xs) h = both_true (q x) (list_all q xs) h (λ here more. by (p x) refl here (all_filtered p q xs more))
  where
    by : (b : Bool) → p x ≡ b → q x ≡ true → list_all q (filter p xs) ≡ true → list_all q (filter p (x ∷ xs)) ≡ true
    by true e here rest = ap (λ b. list_all q (cond b (x ∷ filter p xs) (filter p xs))) e ∙ (λ i. here i && rest i)
    by false e here rest = ap (λ b. list_all q (cond b (x ∷ filter p xs) (filter p xs))) e ∙ rest

pub numbers_below : (is_there : ℕ → Bool) (n : ℕ) → list_all (λ k. nat_lt k n) (numbers is_there n) ≡ true
numbers_below is_there n = all_filtered is_there (λ k. nat_lt k n) (range_with_len 0 n) (range_below n 0 n (omega arith))

-- a number among numbers that pass a test passes it
among_passes : (q : ℕ → Bool) (xs : List ℕ) (k : ℕ) → list_all q xs ≡ true → is_among xs k ≡ true → q k ≡ true
among_passes q [] k h m = absurd (true≢false (sym m))
among_passes q (x ∷ xs) k h m = both_true (q x) (list_all q xs) h (λ here more. by (x == k) refl here (among_passes q xs k more))
  where
    by : (b : Bool) → (x == k) ≡ b → q x ≡ true → (is_among xs k ≡ true → q k ≡ true) → q k ≡ true
    by true e here rest = subst (λ j. q j ≡ true) (eqb-true x k e) here
    by false e here rest = rest (sym (ap (λ b. b || is_among xs k) e) ∙ m)

list_all_by : (p q : ℕ → Bool) (xs : List ℕ) → ((k : ℕ) → p k ≡ true → q k ≡ true) → list_all p xs ≡ true → list_all q xs ≡ true
list_all_by p q [] f h = refl
list_all_by p q (x ∷ xs) f h = both_true (p x) (list_all p xs) h (λ here rest. λ i. f x here i && list_all_by p q xs f rest i)

module _ (parts : GraphParts) (a : Part) where
  edge_there : (k : ℕ) → (part_of (target_of parts a)).edge k ≡ true → is_edge parts k ≡ true
  edge_there k h = among_passes (is_edge parts) (numbers a.edge (length parts.edges)) k (numbers_below a.edge (length parts.edges)) h

  path_there : (bound : ℕ) (path : List ℕ) → is_path parts (part_of (target_of parts a)) bound path ≡ true → has_edges parts path ≡ true
  path_there bound [] h = absurd (true≢false (sym h))
  path_there bound (k ∷ rest) h =
      let p : Part = part_of (target_of parts a) in
      let path : List ℕ = k ∷ rest in
      both_true (begins_at_start parts p path && list_all p.edge path && are_joined parts path && is_bounded bound path) (ends_at_end parts p path) h
      (λ h1 e. both_true (begins_at_start parts p path && list_all p.edge path && are_joined parts path) (is_bounded bound path) h1
      (λ h2 d. both_true (begins_at_start parts p path && list_all p.edge path) (are_joined parts path) h2
      (λ h3 j. both_true (begins_at_start parts p path) (list_all p.edge path) h3
      (λ b l. list_all_by p.edge (is_edge parts) path edge_there l))))

module _ (parts : GraphParts) (base : Part) (f : Filter) (count : ℕ) where
  pub nodes_there : (is : List ℕ) → list_all (λ i. nat_lt i count) is ≡ true → tree_within parts count (nodes (kept parts base f).nodes is) ≡ true
  nodes_there is h = λ i. numbers_below (kept_by parts f base).node (length parts.nodes) i && h i

  pub edges_there : (is : List ℕ) → list_all (λ i. nat_lt i count) is ≡ true → tree_within parts count (edges (kept parts base f).edges is) ≡ true
  edges_there is h = λ i. numbers_below (kept_by parts f base).edge (length parts.edges) i && h i

  pub paths_there : (k : ℕ) → tree_within parts count (paths (paths_of parts (kept parts base f) k)) ≡ true
  paths_there k =
      let a : Part = kept_by parts f base in
      all_kept (is_path parts (part_of (target_of parts a)) k) (has_edges parts) (ordered_lists (length parts.edges) (k * length parts.edges)) (path_there parts a k)

pub anywhere_there : (parts : GraphParts) (base : Part) (count : ℕ) → tree_within parts count (anywhere parts base) ≡ true
anywhere_there parts base count = λ i. numbers_below base.edge (length parts.edges) i && true

-- the predicates of PRED are there where the clause is within its ranges
pub within_nodes : (count : ℕ) (s : Split) → is_within count (Nodes s) ≡ list_all (λ i. nat_lt i count) s.predicates
unfolding is_within
within_nodes count s = search (rules, the_lemmas)

pub within_edges : (count : ℕ) (s : Split) → is_within count (Edges s) ≡ list_all (λ i. nat_lt i count) s.predicates
unfolding is_within
within_edges count s = search (rules, the_lemmas)

-- both parts of a joined clause name what is there
pub both_there : (a b first second : Bool) → IsTrue (first && second) → (IsTrue first → a ≡ true) → (IsTrue second → b ≡ true) → (a && b) ≡ true
both_there a b first second h f g = both_true first second h (λ here rest. λ i. f here i && g rest i)

-- where a clause names what is there, so does an answer that is this clause
pub outcome_there : (parts : GraphParts) (count : ℕ) (t : Tree) (r : Result AppliedTree Fault) → tree_within parts count t ≡ true → IsClauseOutcome t r → IfOk r (λ clause. tree_within parts count (tree_of clause) ≡ true)
outcome_there parts count t (Ok clause) h o = ap (tree_within parts count) o.0 ∙ h
outcome_there parts count t (Err fault.Memory) h o = tt
outcome_there parts count t (Err (fault.Refused r)) h o = tt

pub anywhere_last : (a : Bool) {b : Bool} → b ≡ true → (a && b) ≡ a
anywhere_last true h = h
anywhere_last false h = refl

-- a joined clause is within its ranges where both parts are
pub within_dot : (count : ℕ) (a b : CoverTree) → is_within count (Dot a b) ≡ (is_within count a && is_within count b)
unfolding is_within
within_dot count a b = search (rules, the_lemmas)

pub within_plus : (count : ℕ) (a b : CoverTree) → is_within count (Plus a b) ≡ (is_within count a && is_within count b)
unfolding is_within
within_plus count a b = search (rules, the_lemmas)

pub within_arrow : (count : ℕ) (a b : CoverTree) → is_within count (Arrow a b) ≡ (is_within count a && is_within count b)
unfolding is_within
within_arrow count a b = search (rules, the_lemmas)

-- What goes on from a state, by how the words begin.
use Rattle.std.proofs.Common.{◌≡◌, ℕ, zero, suc, ◌+◌, ◌^◌, ◌≤◌, ◌<◌, ◌⊎◌, inl, inr, Bool, true, false, List, [], ◌∷◌, ◌++◌, length, drop, get_or, Option, Some, None, refl, sym, ◌∙◌, ap, subst, arith}
use Rattle.std.specs.Prelude.{if◌then◌else◌, slice_get, slice_index}
use Rattle.std.proofs.lemmas.Bool.{and_parts, cases_lt, false≢true}
use Rattle.std.proofs.lemmas.Option.{same_Some}
use Rattle.patterns.specs.declared.path_view.PathView.{PathView}
use Rattle.goals.specs.GoalForm.{GoalForm}
use Rattle.goals.specs.Words.{Word}
use Rattle.goals.specs.declared.goal_letter.GoalLetter.{GoalLetter}
use Rattle.goals.specs.declared.goal_letter.GoalLetter.TheVariants.{Node, Edge, Predicate, Absent, Quoted}
use Rattle.measurer_index.specs.word_index.Numbers.{Adds}
use Rattle.measurer_index.specs.word_index.Order.{AreAbsentsBelow, IsOrderOf, IsSortedFrom, ranked}
use Rattle.measurer_index.specs.word_index.Walks.{is_plain, word_at, word_of}
use Rattle.measurer_index.specs.word_index.Groups.{Continues, GoesOn, IsAbsentBelow, IsAny, IsGroup, IsLetter, IsNarrowed, IsPredicateBelow, IsTest, Started}
use Rattle.measurer_index.specs.word_index.Tables.{AreBegun, BeginsBelow, IsIndexOf, IsStep, all_begin_with_steps, begins_with_step, root, step}
use Rattle.measurer_index.specs.declared.word_index.index.WordIndex.{WordIndex}
use Rattle.measurer_index.specs.declared.word_index.group.Group.{Group}
use Rattle.measurer_index.proofs.word_index.Going.{before_letter, first_goes, past_edge}
use Rattle.measurer_index.proofs.word_index.Steps.{adds_both, adds_none, adds_same, any_head, known_as, node_here, predicate_below, with_staying}

pub root_group : (goals : List GoalForm) (order : List ℕ) (absents : ℕ) → IsSortedFrom goals order 0 0 (length order) → AreAbsentsBelow goals absents → IsGroup goals order (root order absents)
root_group goals order absents sorted below = record { range = omega arith; sorted = sorted; absents = λ r d p from to e. below (slice_index order r) d p e }

-- ---- the table, one group more

pushed : (P : ℕ → Group → Type 0) (groups : List Group) (g : Group) → ((k : ℕ) (x : Group) → slice_get groups k ≡ Some x → P k x) → P (length groups) g
    → (k : ℕ) (x : Group) → slice_get (groups ++ g ∷ []) k ≡ Some x → P k x
pushed P [] g h p zero x e = let same : g ≡ x = same_Some g x e in subst (P zero) same p
pushed P [] g h p (suc k) x e = cc
pushed P (y ∷ ys) g h p zero x e = h zero x e
pushed P (y ∷ ys) g h p (suc k) x e = pushed (λ i z. P (suc i) z) ys g (λ i z f. h (suc i) z f) p k x e

-- the groups of the table so far
abbrev pub Tabled : List GoalForm → List ℕ → ℕ → Bool → List Group → Type 0
Tabled goals order absents edges groups = (number : ℕ) (g : Group) → slice_get groups number ≡ Some g → IsNarrowed goals order (step edges number) (root order absents) g

pub begun_more : (goals : List GoalForm) (order : List ℕ) (absents : ℕ) (edges : Bool) (groups more : List Group) (number : ℕ) (g : Group) → length groups ≡ number → Tabled goals order absents edges groups
    → IsNarrowed goals order (step edges number) (root order absents) g → more ≡ groups ++ g ∷ [] → Tabled goals order absents edges more
begun_more goals order absents edges groups more number g long h narrowed e =
    subst (Tabled goals order absents edges) (sym e)
    (pushed (λ k x. IsNarrowed goals order (step edges k) (root order absents) x) groups g h (subst (λ k. IsNarrowed goals order (step edges k) (root order absents) g) (sym long) narrowed))

-- the group of no word, where none begins so
pub none_begun : (goals : List GoalForm) (order : List ℕ) (absents : ℕ) (edges : Bool) (groups : List Group) (number : ℕ) → slice_get groups number ≡ None → AreBegun goals order absents edges groups
    → IsNarrowed goals order (step edges number) (root order absents) (record { low = 0; high = 0; depth = 1; absents = absents })
none_begun goals order absents edges groups number past are = record {
  group = record { range = omega arith; sorted = λ r s f le t. absurd (omega (arith, t)); absents = λ r d p f t e. absurd (omega (arith, t)) };
  deeper = refl;
  small = omega arith;
  from = omega arith;
  to = omega arith;
  with_letter = λ r f t. absurd (omega (arith, t));
  all_with_letter = λ r f t e. absurd (let below = are.all (slice_index order r) number e in there groups number below past);
}
  where
    there : (xs : List Group) (k : ℕ) → k < length xs → slice_get xs k ≡ None → ⊥
    there [] k lt e = omega arith
    there (x ∷ xs) zero lt e = cc
    there (x ∷ xs) (suc k) lt e = there xs k (omega (arith, lt)) e

-- ---- all words begin below a number, one goal more

item_there : {X : Type 0} (xs : List X) (i : ℕ) (x : X) → x ≡ get_or xs i x → i < length xs → slice_get xs i ≡ Some x
item_there [] i x e lt = absurd (omega arith)
item_there (y ∷ xs) zero x e lt = ap Some (sym e)
item_there (y ∷ xs) (suc i) x e lt = item_there xs i x e (omega (arith, lt))

pub first_more : (goals : List GoalForm) (edges : Bool) (i : ℕ) (goal : GoalForm) (word : Word) (below above : ℕ) → goal ≡ get_or goals i goal → i < length goals → word ≡ goal.word
    → ((g : ℕ) → g < i → BeginsBelow edges below (word_at goals g)) → below ≤ above → BeginsBelow edges above word → (g : ℕ) → g < i + 1 → BeginsBelow edges above (word_at goals g)
first_more goals edges i goal word below above is lt same old le here g small n e = elim (cases_lt g i) [
  | inl less ↦ let own = old g less n e in omega (arith, own, le)
  | inr ge ↦
      let at : g ≡ i = omega (arith, ge, small) in
      let own : word_at goals g ≡ word = ap (word_at goals) at ∙ ap word_of (item_there goals i goal is lt) ∙ sym same in
      here n (subst (λ w. slice_get w 0 ≡ Some (step edges n)) own e)
]

no_word : (goals : List GoalForm) (g : ℕ) → length goals ≤ g → word_at goals g ≡ []
no_word [] g le = refl
no_word (x ∷ xs) zero le = absurd (omega (arith, le))
no_word (x ∷ xs) (suc g) le = no_word xs g (omega (arith, le))

pub first_all : (goals : List GoalForm) (edges : Bool) (i bound : ℕ) → length goals ≤ i → ((g : ℕ) → g < i → BeginsBelow edges bound (word_at goals g)) → (g : ℕ) → BeginsBelow edges bound (word_at goals g)
first_all goals edges i bound past old g n e = elim (cases_lt g i) [
  | inl lt ↦ old g lt n e
  | inr ge ↦ absurd (let none : slice_get [] 0 ≡ Some (step edges n) = subst (λ w. slice_get w 0 ≡ Some (step edges n)) (no_word goals g (omega (arith, past, ge))) e in cc)
]

-- ---- words that begin with an edge or a node

first_step : (goals : List GoalForm) → all_begin_with_steps goals ≡ true → (g : ℕ) → begins_with_step (slice_get (word_of (slice_get goals g)) 0) ≡ true
first_step [] all g = refl
first_step (x ∷ xs) all zero = (and_parts _ _ all).0
first_step (x ∷ xs) all (suc g) = first_step xs (and_parts _ _ all).1 g

plain_begins : (w : Word) → is_plain w ≡ true → slice_get w 0 ≡ None → ⊥
plain_begins [] plain e = let both : false ≡ true = plain in cc
plain_begins (l ∷ w) plain e = cc

module _ (goals : List GoalForm) (order : List ℕ) (absents : ℕ) (path : PathView) (last : Bool) (at : ℕ) where
  abbrev all : Group
  all = root order absents

  abbrev At : (Option GoalLetter → Type 0) → ℕ → Type 0
  At H n = Continues goals order path last H all at n

  -- those that go on with the edge of the state are all that go on with an edge
  pub by_edge : (edge : ℕ) (narrow : Group) → IsNarrowed goals order (Edge edge) all narrow → slice_index path.edges at ≡ edge → (xs ys : List ℕ)
      → Adds (Continues goals order path last IsAny narrow (suc at)) xs ys → Adds (At (IsStep true)) xs ys
  by_edge edge narrow narrowed here xs ys h = adds_same _ (At (IsStep true)) xs ys to from h
    where
      to : (n : ℕ) → Continues goals order path last IsAny narrow (suc at) n → At (IsStep true) n
      to n c =
          let a : narrow.low ≤ c.rank = c.from in
          let b : c.rank < narrow.high = c.below in
          let t = narrowed.to in
          let e = narrowed.with_letter c.rank a b in
          let deep : GoesOn path last (drop 1 (ranked goals order c.rank)) (suc at) = subst (λ d. GoesOn path last (drop d (ranked goals order c.rank)) (suc at)) narrowed.deeper c.goes in
          record { rank = c.rank; from = omega arith; below = omega (arith, b, t); is = c.is; head = (edge, e); goes = before_letter path last (ranked goals order c.rank) 0 at (Edge edge) (suc at) e (refl, here) deep }

      from : (n : ℕ) → At (IsStep true) n → Continues goals order path last IsAny narrow (suc at) n
      from n c =
          let head = c.head in
          let f = past_edge path last (ranked goals order c.rank) 0 at head.0 head.1 c.goes in
          let same : head.0 ≡ edge = sym f.0 ∙ here in
          let inside = narrowed.all_with_letter c.rank c.from c.below (head.1 ∙ ap (λ x. Some (Edge x)) same) in
          record { rank = c.rank; from = inside.0; below = inside.1; is = c.is; head = tt; goes = subst (λ d. GoesOn path last (drop d (ranked goals order c.rank)) (suc at)) (sym narrowed.deeper) f.1.0 }

  -- those that go on with the node of the state are all that go on with a node
  pub by_node : (node : ℕ) (narrow : Group) → IsNarrowed goals order (Node node) all narrow → slice_index path.nodes at ≡ node → (xs ys : List ℕ)
      → Adds (Continues goals order path last IsAny narrow at) xs ys → Adds (At (IsStep false)) xs ys
  by_node node narrow narrowed here xs ys h = adds_same _ (At (IsStep false)) xs ys to from (with_staying goals order path last all at (Node node) narrow narrowed (refl, here) xs ys h)
    where
      to : (n : ℕ) → At (IsLetter (Node node)) n → At (IsStep false) n
      to n c = known_as goals order path last all at (IsLetter (Node node)) (IsStep false) n c (node, c.head)

      from : (n : ℕ) → At (IsStep false) n → At (IsLetter (Node node)) n
      from n c = let head = c.head in subst (λ m. At (IsLetter (Node m)) n) here (node_here goals order path last all at (IsStep false) n head.0 c head.1)

  -- past the last edge there are none
  pub no_edge : (xs : List ℕ) → length path.edges ≤ at → Adds (At (IsStep true)) xs xs
  no_edge xs past = adds_none _ xs (λ n c. let head = c.head in let f = past_edge path last (ranked goals order c.rank) 0 at head.0 head.1 c.goes in let lt = f.1.1 in omega (arith, past, lt))

  -- where all words begin with an edge or a node, none begins with a predicate or an absent one
  pub no_tests : all_begin_with_steps goals ≡ true → (n : ℕ) → At IsTest n → ⊥
  no_tests steps n c = by_head (slice_get (ranked goals order c.rank) 0) (first_step goals steps (slice_index order c.rank)) c.head
    where
      by_head : (o : Option GoalLetter) → begins_with_step o ≡ true → IsTest o → ⊥
      by_head None b h = h
      by_head (Some (Node m)) b h = h
      by_head (Some (Edge m)) b h = h
      by_head (Some (Predicate p)) b h = false≢true b
      by_head (Some (Absent p)) b h = false≢true b
      by_head (Some (Quoted q)) b h = h

  module _ (group : IsGroup goals order all) where
    -- those that go on with a predicate, and those that go on with an absent one
    pub both_tests : slice_index path.masks at < 2 ^ 64 → (xs ys zs : List ℕ) → Adds (At (IsPredicateBelow 64)) xs ys → Adds (At (IsAbsentBelow absents)) ys zs → Adds (At IsTest) xs zs
    both_tests small xs ys zs a b = adds_same _ (At IsTest) xs zs to from (adds_both _ _ xs ys zs a b)
      where
        to : (n : ℕ) → (At (IsPredicateBelow 64) n ⊎ At (IsAbsentBelow absents) n) → At IsTest n
        to n (inl c) = let h = c.head in known_as goals order path last all at (IsPredicateBelow 64) IsTest n c (subst IsTest (sym h.1.1) tt)
        to n (inr c) = let h = c.head in known_as goals order path last all at (IsAbsentBelow absents) IsTest n c (subst IsTest (sym h.1.1) tt)

        from : (n : ℕ) → At IsTest n → (At (IsPredicateBelow 64) n ⊎ At (IsAbsentBelow absents) n)
        from n c = by_head (slice_get (ranked goals order c.rank) 0) refl c.head
          where
            by_head : (o : Option GoalLetter) → slice_get (ranked goals order c.rank) 0 ≡ o → IsTest o → (At (IsPredicateBelow 64) n ⊎ At (IsAbsentBelow absents) n)
            by_head None e h = absurd h
            by_head (Some (Node m)) e h = absurd h
            by_head (Some (Edge m)) e h = absurd h
            by_head (Some (Predicate p)) e h = inl (predicate_below goals order path last all at small IsTest n p c e)
            by_head (Some (Absent p)) e h = inr (known_as goals order path last all at IsTest (IsAbsentBelow absents) n c (p, (group.absents c.rank 0 p c.from c.below e, e)))
            by_head (Some (Quoted q)) e h = absurd h

  abbrev Parts : ℕ → Type 0
  Parts n = (At (IsStep false) n ⊎ At (IsStep true) n) ⊎ At IsTest n

  module _ (ordered : IsOrderOf goals order) where
    -- each word goes on with a node, an edge, a predicate or an absent one
    parts_from : (n : ℕ) → At IsAny n → Parts n
    parts_from n c = by_head (slice_get (ranked goals order c.rank) 0) refl
      where
        by_head : (o : Option GoalLetter) → slice_get (ranked goals order c.rank) 0 ≡ o → Parts n
        by_head None e = absurd (plain_begins (ranked goals order c.rank) (ordered.plain c.rank c.below) e)
        by_head (Some (Node m)) e = inl (inl (known_as goals order path last all at IsAny (IsStep false) n c (m, e)))
        by_head (Some (Edge m)) e = inl (inr (known_as goals order path last all at IsAny (IsStep true) n c (m, e)))
        by_head (Some (Predicate p)) e = inr (known_as goals order path last all at IsAny IsTest n c (subst IsTest (sym e) tt))
        by_head (Some (Absent p)) e = inr (known_as goals order path last all at IsAny IsTest n c (subst IsTest (sym e) tt))
        by_head (Some (Quoted q)) e = let f = first_goes path last (ranked goals order c.rank) 0 at (Quoted q) e c.goes in absurd f.1.0

    parts_to : (n : ℕ) → Parts n → At IsAny n
    parts_to n (inl (inl c)) = any_head goals order path last all at (IsStep false) n c
    parts_to n (inl (inr c)) = any_head goals order path last all at (IsStep true) n c
    parts_to n (inr c) = any_head goals order path last all at IsTest n c

    pub all_parts : (xs ys zs us : List ℕ) → Adds (At (IsStep false)) xs ys → Adds (At (IsStep true)) ys zs → Adds (At IsTest) zs us → Adds (At IsAny) xs us
    all_parts xs ys zs us a b c = adds_same _ (At IsAny) xs us parts_to parts_from (adds_both _ _ xs zs us (adds_both _ _ xs ys zs a b) c)

-- the same from so many first states
module _ (goals : List GoalForm) (order : List ℕ) (absents : ℕ) (path : PathView) (last : Bool) (ordered : IsOrderOf goals order) (count : ℕ) where
  abbrev From : (Option GoalLetter → Type 0) → ℕ → Type 0
  From H n = Started goals order path last H (root order absents) count n

  pub all_started : (xs ys zs us : List ℕ) → Adds (From (IsStep false)) xs ys → Adds (From (IsStep true)) ys zs → Adds (From IsTest) zs us → Adds (From IsAny) xs us
  all_started xs ys zs us a b c = adds_same _ (From IsAny) xs us to from (adds_both _ _ xs zs us (adds_both _ _ xs ys zs a b) c)
    where
      to : (n : ℕ) → ((From (IsStep false) n ⊎ From (IsStep true) n) ⊎ From IsTest n) → From IsAny n
      to n (inl (inl (at, (lt, h)))) = (at, (lt, parts_to goals order absents path last at ordered n (inl (inl h))))
      to n (inl (inr (at, (lt, h)))) = (at, (lt, parts_to goals order absents path last at ordered n (inl (inr h))))
      to n (inr (at, (lt, h))) = (at, (lt, parts_to goals order absents path last at ordered n (inr h)))

      from : (n : ℕ) → From IsAny n → ((From (IsStep false) n ⊎ From (IsStep true) n) ⊎ From IsTest n)
      from n (at, (lt, h)) = elim (parts_from goals order absents path last at ordered n h) [
        | inl x ↦ elim x [ inl y ↦ inl (inl (at, (lt, y))) | inr y ↦ inl (inr (at, (lt, y))) ]
        | inr x ↦ inr (at, (lt, x))
      ]

-- the table of an index
pub chosen : (goals : List GoalForm) (index : WordIndex) → IsIndexOf goals index → (edges : Bool) → AreBegun goals index.order index.absents edges (if edges then index.by_edge else index.by_node)
chosen goals index is true = is.by_edge
chosen goals index is false = is.by_node

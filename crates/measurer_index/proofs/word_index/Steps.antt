-- What each step of a walk adds.
use Rattle.std.proofs.Common.{◌≡◌, ℕ, suc, ◌+◌, ◌^◌, ◌≤◌, ◌<◌, ◌⊎◌, ◌↔◌, ◌==◌, inl, inr, Bool, true, false, List, length, drop, Option, Some, None, Result, Ok, Err, OnOk, refl, sym, ◌∙◌, ap, subst, arith, eqb-true}
use Rattle.std.specs.Prelude.{slice_get, slice_index}
use Rattle.std.specs.Int.{bit_at}
use Rattle.std.specs.List.{Contains}
use Rattle.std.proofs.lemmas.Bool.{cases_lt, false≢true}
use Rattle.std.proofs.lemmas.Nat.Bits.{bit_at_above, bit_at-zero}
use Rattle.patterns.specs.declared.path_view.PathView.{PathView}
use Rattle.goals.specs.GoalForm.{GoalForm}
use Rattle.goals.specs.Words.{Word}
use Rattle.goals.specs.declared.goal_letter.GoalLetter.{GoalLetter}
use Rattle.goals.specs.declared.goal_letter.GoalLetter.TheVariants.{Node, Edge, Predicate, Absent, Quoted}
use Rattle.measurer_index.specs.word_index.Numbers.{Adds}
use Rattle.measurer_index.specs.word_index.Order.{ranked}
use Rattle.measurer_index.specs.word_index.Walks.{Goes}
use Rattle.measurer_index.specs.word_index.Groups.{IsGroup, IsNarrowed, GoesOn, Continues, IsAny, IsEnd, IsLetter, IsBelow, IsPastEnds, IsPredicateBelow, IsAbsentBelow, IsNoEdge, IsStaying}
use Rattle.measurer_index.specs.declared.word_index.group.Group.{Group}
use Rattle.measurer_index.proofs.word_index.Going.{past_staying, before_letter, first_goes, past_edge, at_end, ends_here}

pub on_ok : {T E : Type 0} (r : Result T E) (A B : Type 0) → (A → B) → OnOk r A → OnOk r B
on_ok (Ok x) A B f h = f h
on_ok (Err e) A B f h = tt

-- ---- sets of numbers

pub adds_none : (P : ℕ → Type 0) (xs : List ℕ) → ((n : ℕ) → P n → ⊥) → Adds P xs xs
adds_none P xs none n = (λ h. inl h, λ h. elim h [ inl x ↦ x | inr y ↦ absurd (none n y) ])

pub adds_same : (P Q : ℕ → Type 0) (xs ys : List ℕ) → ((n : ℕ) → P n → Q n) → ((n : ℕ) → Q n → P n) → Adds P xs ys → Adds Q xs ys
adds_same P Q xs ys to from h n = (
  λ c. elim ((h n).0 c) [ inl x ↦ inl x | inr y ↦ inr (to n y) ],
  λ c. elim c [ inl x ↦ (h n).1 (inl x) | inr y ↦ (h n).1 (inr (from n y)) ],
)

pub adds_both : (P Q : ℕ → Type 0) (xs ys zs : List ℕ) → Adds P xs ys → Adds Q ys zs → Adds (λ n. P n ⊎ Q n) xs zs
adds_both P Q xs ys zs g h n = (
  λ c. elim ((h n).0 c) [ inl x ↦ elim ((g n).0 x) [ inl y ↦ inl y | inr y ↦ inr (inl y) ] | inr x ↦ inr (inr x) ],
  λ c. elim c [
    | inl x ↦ (h n).1 (inl ((g n).1 (inl x)))
    | inr x ↦ elim x [ inl y ↦ (h n).1 (inl ((g n).1 (inr y))) | inr y ↦ (h n).1 (inr y) ]
  ],
)

-- the numbers of which this holds at one of so many first places
abbrev pub Below : (ℕ → ℕ → Type 0) → ℕ → ℕ → Type 0
Below P count n = (k : ℕ) × ((k < count) × P k n)

pub below_none : (P : ℕ → ℕ → Type 0) (xs : List ℕ) → Adds (Below P 0) xs xs
below_none P xs = adds_none _ xs (λ n (k, (lt, h)). absurd (omega arith))

-- one more place
pub below_more : (P : ℕ → ℕ → Type 0) (count : ℕ) (xs ys zs : List ℕ) → Adds (Below P count) xs ys → Adds (P count) ys zs → Adds (Below P (count + 1)) xs zs
below_more P count xs ys zs a b = adds_same _ (Below P (count + 1)) xs zs to from (adds_both _ _ xs ys zs a b)
  where
    to : (n : ℕ) → (Below P count n ⊎ P count n) → Below P (count + 1) n
    to n (inl (k, (lt, h))) = (k, (omega arith, h))
    to n (inr h) = (count, (omega arith, h))

    from : (n : ℕ) → Below P (count + 1) n → (Below P count n ⊎ P count n)
    from n (k, (lt, h)) = elim (cases_lt k count) [ inl below ↦ inl (k, (below, h)) | inr above ↦ let e : k ≡ count = omega arith in inr (subst (λ i. P i n) e h) ]

-- ---- ranks

-- the numbers of goals of these ranks
abbrev pub RankNumbers : List ℕ → ℕ → ℕ → ℕ → Type 0
RankNumbers order low high n = (r : ℕ) × ((low ≤ r) × ((r < high) × (n ≡ suc (slice_index order r))))

pub ranks_none : (order : List ℕ) (low : ℕ) (xs : List ℕ) → Adds (RankNumbers order low low) xs xs
ranks_none order low xs = adds_none _ xs (λ n (r, (from, (to, e))). absurd (omega arith))

pub ranks_more : (order : List ℕ) (low rank number : ℕ) (xs ys zs : List ℕ) → low ≤ rank → number ≡ slice_index order rank + 1 → Adds (RankNumbers order low rank) xs ys → Adds (λ n. n ≡ number) ys zs → Adds (RankNumbers order low (rank + 1)) xs zs
ranks_more order low rank number xs ys zs le is a b = adds_same _ (RankNumbers order low (rank + 1)) xs zs to from (adds_both _ _ xs ys zs a b)
  where
    to : (n : ℕ) → (RankNumbers order low rank n ⊎ (n ≡ number)) → RankNumbers order low (rank + 1) n
    to n (inl (r, (f, (t, e)))) = (r, (f, (omega arith, e)))
    to n (inr e) = (rank, (le, (omega arith, omega arith)))

    from : (n : ℕ) → RankNumbers order low (rank + 1) n → (RankNumbers order low rank n ⊎ (n ≡ number))
    from n (r, (f, (t, e))) = elim (cases_lt r rank) [
      | inl below ↦ inl (r, (f, (below, e)))
      | inr above ↦ let same : r ≡ rank = omega arith in let i : slice_index order r ≡ slice_index order rank = ap (slice_index order) same in inr (omega arith)
    ]

-- ---- steps of a walk

module _ (goals : List GoalForm) (order : List ℕ) (path : PathView) (last : Bool) (g : Group) (at : ℕ) where
  -- the same number, with another fact of how its word goes on
  pub known_as : (H K : Option GoalLetter → Type 0) (n : ℕ) (c : Continues goals order path last H g at n) → K (slice_get (ranked goals order c.rank) g.depth) → Continues goals order path last K g at n
  known_as H K n c k = record { rank = c.rank; from = c.from; below = c.below; is = c.is; head = k; goes = c.goes }

  pub any_head : (H : Option GoalLetter → Type 0) (n : ℕ) → Continues goals order path last H g at n → Continues goals order path last IsAny g at n
  any_head H n c = known_as H IsAny n c tt

  -- where no walk may end, no word ends
  pub no_ends : (xs : List ℕ) → last ≡ true → (at ≡ length path.edges → ⊥) → Adds (Continues goals order path last IsEnd g at) xs xs
  no_ends xs is far = adds_none _ xs (λ n c. far (at_end path last (ranked goals order c.rank) g.depth at c.head c.goes is))

  -- the words that end are those that don't go on
  pub ends : (rest : Group) (xs ys : List ℕ) → IsPastEnds goals order g rest → at ≤ length path.edges → (last ≡ true → at ≡ length path.edges)
      → Adds (λ n. (r : ℕ) × ((g.low ≤ r) × ((r < rest.low) × (n ≡ suc (slice_index order r))))) xs ys → Adds (Continues goals order path last IsEnd g at) xs ys
  ends rest xs ys past within at_last h =
      let range = past.group in
      let le = range.range in
      let same = past.high in
      adds_same _ (Continues goals order path last IsEnd g at) xs ys
      (λ n (r, (from, (to, is))).
      let e : slice_get (ranked goals order r) g.depth ≡ None = past.ended r from to in
      record { rank = r; from = from; below = omega (arith, to, le, same); is = is; head = e; goes = ends_here path last (ranked goals order r) g.depth at e within at_last })
      (λ n c.
      let to : c.rank < rest.low = elim (cases_lt c.rank rest.low) [ inl x ↦ x | inr y ↦ absurd (past.going c.rank y c.below c.head) ] in
      (c.rank, (c.from, (to, c.is))))
      h

  module _ (l : GoalLetter) (narrow : Group) (narrowed : IsNarrowed goals order l g narrow) (stays : Goes path l at at) where
    staying_to : (n : ℕ) → Continues goals order path last IsAny narrow at n → Continues goals order path last (IsLetter l) g at n
    staying_to n c =
        let a : narrow.low ≤ c.rank = c.from in
        let b : c.rank < narrow.high = c.below in
        let f = narrowed.from in
        let t = narrowed.to in
        let e = narrowed.with_letter c.rank a b in
        let deep : GoesOn path last (drop (suc g.depth) (ranked goals order c.rank)) at = subst (λ d. GoesOn path last (drop d (ranked goals order c.rank)) at) narrowed.deeper c.goes in
        record { rank = c.rank; from = omega arith; below = omega arith; is = c.is; head = e; goes = before_letter path last (ranked goals order c.rank) g.depth at l at e stays deep }

    staying_from : (n : ℕ) → Continues goals order path last (IsLetter l) g at n → Continues goals order path last IsAny narrow at n
    staying_from n c =
        let inside = narrowed.all_with_letter c.rank c.from c.below c.head in
        let rest = past_staying path last (ranked goals order c.rank) g.depth at l c.head stays c.goes in
        record { rank = c.rank; from = inside.0; below = inside.1; is = c.is; head = tt; goes = subst (λ d. GoesOn path last (drop d (ranked goals order c.rank)) at) (sym narrowed.deeper) rest }

    -- what goes on with a letter that stays is what goes on past it
    pub with_staying : (xs ys : List ℕ) → Adds (Continues goals order path last IsAny narrow at) xs ys → Adds (Continues goals order path last (IsLetter l) g at) xs ys
    with_staying xs ys h = adds_same _ (Continues goals order path last (IsLetter l) g at) xs ys staying_to staying_from h

    -- nothing, where no word goes on with it
    pub with_none : (xs : List ℕ) → narrow.high ≤ narrow.low → Adds (Continues goals order path last (IsLetter l) g at) xs xs
    with_none xs empty = adds_none _ xs (λ n c. let i = narrowed.all_with_letter c.rank c.from c.below c.head in let a = i.0 in let b = i.1 in absurd (omega arith))

  -- ---- predicates

  pub none_below : (kind : ℕ → GoalLetter) (xs : List ℕ) → Adds (Continues goals order path last (IsBelow kind 0) g at) xs xs
  none_below kind xs = adds_none _ xs (λ n c. let h = c.head in let lt = h.1.0 in absurd (omega arith))

  pub predicate_absent : (p : ℕ) (xs : List ℕ) (b : Bool) → b ≡ (bit_at (slice_index path.masks at) p == 1) → b ≡ false → Adds (Continues goals order path last (IsLetter (Predicate p)) g at) xs xs
  predicate_absent p xs b e f = adds_none _ xs (λ n c. let h = first_goes path last (ranked goals order c.rank) g.depth at (Predicate p) c.head c.goes in false≢true (sym f ∙ e ∙ h.1.0.1))

  predicate_holds : (p : ℕ) (w : Word) → slice_get w g.depth ≡ Some (Predicate p) → GoesOn path last (drop g.depth w) at → (bit_at (slice_index path.masks at) p == 1) ≡ true
  predicate_holds p w e goes = let f = first_goes path last w g.depth at (Predicate p) e goes in f.1.0.1

  pub predicate_there : (p : ℕ) (xs : List ℕ) (b : Bool) → b ≡ (bit_at (slice_index path.masks at) p == 1) → b ≡ true → Adds (Continues goals order path last (IsLetter (Absent p)) g at) xs xs
  predicate_there p xs b e f = adds_none _ xs (λ n c. let h = first_goes path last (ranked goals order c.rank) g.depth at (Absent p) c.head c.goes in false≢true (sym h.1.0.1 ∙ sym e ∙ f))

  module _ (kind : ℕ → GoalLetter) where
    more_to : (p n : ℕ) → (Continues goals order path last (IsBelow kind p) g at n ⊎ Continues goals order path last (IsLetter (kind p)) g at n) → Continues goals order path last (IsBelow kind (p + 1)) g at n
    more_to p n (inl c) = known_as (IsBelow kind p) (IsBelow kind (p + 1)) n c (let h = c.head in let lt = h.1.0 in (h.0, (omega arith, h.1.1)))
    more_to p n (inr c) = known_as (IsLetter (kind p)) (IsBelow kind (p + 1)) n c (p, (omega arith, c.head))

    more_from : (p n : ℕ) → Continues goals order path last (IsBelow kind (p + 1)) g at n → (Continues goals order path last (IsBelow kind p) g at n ⊎ Continues goals order path last (IsLetter (kind p)) g at n)
    more_from p n c =
        let h = c.head in
        let lt = h.1.0 in
        elim (cases_lt h.0 p) [
          | inl below ↦ inl (known_as (IsBelow kind (p + 1)) (IsBelow kind p) n c (h.0, (below, h.1.1)))
          | inr above ↦ let e : h.0 ≡ p = omega arith in inr (known_as (IsBelow kind (p + 1)) (IsLetter (kind p)) n c (h.1.1 ∙ ap (λ q. Some (kind q)) e))
        ]

    -- one more letter of the kind
    pub letter_more : (p : ℕ) (xs ys zs : List ℕ) → Adds (Continues goals order path last (IsBelow kind p) g at) xs ys → Adds (Continues goals order path last (IsLetter (kind p)) g at) ys zs
        → Adds (Continues goals order path last (IsBelow kind (p + 1)) g at) xs zs
    letter_more p xs ys zs a b = adds_same _ (Continues goals order path last (IsBelow kind (p + 1)) g at) xs zs (more_to p) (more_from p) (adds_both _ _ xs ys zs a b)

  -- where no bit is set none holds
  pub none_hold : (p : ℕ) (xs : List ℕ) → slice_index path.masks at ≡ 0 → Adds (Continues goals order path last (IsPredicateBelow p) g at) xs xs
  none_hold p xs zero_mask = adds_none _ xs (λ n c.
      let h = c.head in
      let bit = predicate_holds h.0 (ranked goals order c.rank) h.1.1 c.goes in
      let one : bit_at (slice_index path.masks at) h.0 ≡ 1 = eqb-true _ 1 bit in
      let none : bit_at (slice_index path.masks at) h.0 ≡ 0 = ap (λ m. bit_at m h.0) zero_mask ∙ bit_at-zero h.0 in
      absurd (omega arith))

  -- ---- all that stay

  -- a word goes on with the node, a predicate or an absent predicate
  abbrev Stays : ℕ → Type 0
  Stays n =
      (Continues goals order path last (IsLetter (Node (slice_index path.nodes at))) g at n ⊎ Continues goals order path last (IsPredicateBelow 64) g at n)
      ⊎ Continues goals order path last (IsAbsentBelow g.absents) g at n

  pub predicate_below : slice_index path.masks at < 2 ^ 64 → (H : Option GoalLetter → Type 0) (n p : ℕ) (c : Continues goals order path last H g at n) → slice_get (ranked goals order c.rank) g.depth ≡ Some (Predicate p)
      → Continues goals order path last (IsPredicateBelow 64) g at n
  predicate_below small H n p c e =
      let bit = predicate_holds p (ranked goals order c.rank) e c.goes in
      let one : bit_at (slice_index path.masks at) p ≡ 1 = eqb-true _ 1 bit in
      let lt : p < 64 = elim (cases_lt p 64) [ inl x ↦ x | inr y ↦ let none = bit_at_above (slice_index path.masks at) 64 p small y in absurd (omega arith) ] in
      known_as H (IsPredicateBelow 64) n c (p, (lt, e))

  pub node_here : (H : Option GoalLetter → Type 0) (n m : ℕ) (c : Continues goals order path last H g at n) → slice_get (ranked goals order c.rank) g.depth ≡ Some (Node m)
      → Continues goals order path last (IsLetter (Node (slice_index path.nodes at))) g at n
  node_here H n m c e =
      let f = first_goes path last (ranked goals order c.rank) g.depth at (Node m) e c.goes in
      known_as H (IsLetter (Node (slice_index path.nodes at))) n c (e ∙ ap (λ x. Some (Node x)) (sym f.1.0.1))

  module _ (small : slice_index path.masks at < 2 ^ 64) (group : IsGroup goals order g) where
    stay_from : (n : ℕ) → Continues goals order path last IsStaying g at n → Stays n
    stay_from n c = by_head (slice_get (ranked goals order c.rank) g.depth) refl c.head
      where
        by_head : (o : Option GoalLetter) → slice_get (ranked goals order c.rank) g.depth ≡ o → IsStaying o → Stays n
        by_head None e h = absurd h
        by_head (Some (Node m)) e h = inl (inl (node_here IsStaying n m c e))
        by_head (Some (Edge m)) e h = absurd h
        by_head (Some (Predicate p)) e h = inl (inr (predicate_below small IsStaying n p c e))
        by_head (Some (Absent p)) e h = inr (known_as IsStaying (IsAbsentBelow g.absents) n c (p, (group.absents c.rank g.depth p c.from c.below e, e)))
        by_head (Some (Quoted q)) e h = let f = first_goes path last (ranked goals order c.rank) g.depth at (Quoted q) e c.goes in absurd f.1.0

    stay_to : (n : ℕ) → Stays n → Continues goals order path last IsStaying g at n
    stay_to n (inl (inl c)) = known_as (IsLetter (Node (slice_index path.nodes at))) IsStaying n c (subst IsStaying (sym c.head) tt)
    stay_to n (inl (inr c)) = let h = c.head in known_as (IsPredicateBelow 64) IsStaying n c (subst IsStaying (sym h.1.1) tt)
    stay_to n (inr c) = let h = c.head in known_as (IsAbsentBelow g.absents) IsStaying n c (subst IsStaying (sym h.1.1) tt)

    pub staying : (letter : GoalLetter) → letter ≡ Node (slice_index path.nodes at) → (xs ys zs us : List ℕ) → Adds (Continues goals order path last (IsLetter letter) g at) xs ys
        → Adds (Continues goals order path last (IsPredicateBelow 64) g at) ys zs → Adds (Continues goals order path last (IsAbsentBelow g.absents) g at) zs us → Adds (Continues goals order path last IsStaying g at) xs us
    staying letter e xs ys zs us a b c =
        let a' : Adds (Continues goals order path last (IsLetter (Node (slice_index path.nodes at))) g at) xs ys = subst (λ l. Adds (Continues goals order path last (IsLetter l) g at) xs ys) e a in
        adds_same _ (Continues goals order path last IsStaying g at) xs us stay_to stay_from (adds_both _ _ xs zs us (adds_both _ _ xs ys zs a' b) c)

  pub none_stay : (xs : List ℕ) → g.high ≤ g.low → Adds (Continues goals order path last IsStaying g at) xs xs
  none_stay xs empty = adds_none _ xs (λ n c. let a = c.from in let b = c.below in omega arith)

  -- ---- past the ends

  module _ (rest : Group) (past : IsPastEnds goals order g rest) where
    rest_to : (H : Option GoalLetter → Type 0) (n : ℕ) → Continues goals order path last H rest at n → Continues goals order path last H g at n
    rest_to H n c =
        let a : rest.low ≤ c.rank = c.from in
        let b : c.rank < rest.high = c.below in
        let f = past.from in
        let h = past.high in
        record {
          rank = c.rank;
          from = omega arith;
          below = omega arith;
          is = c.is;
          head = subst (λ d. H (slice_get (ranked goals order c.rank) d)) past.depth c.head;
          goes = subst (λ d. GoesOn path last (drop d (ranked goals order c.rank)) at) past.depth c.goes;
        }

    -- what goes on is past the ends
    rest_from : (H : Option GoalLetter → Type 0) → (H None → ⊥) → (n : ℕ) → Continues goals order path last H g at n → Continues goals order path last H rest at n
    rest_from H ended n c =
        let below : c.rank < g.high = c.below in
        let h = past.high in
        let from : rest.low ≤ c.rank = elim (cases_lt c.rank rest.low) [ inl x ↦ absurd (ended (subst H (past.ended c.rank c.from x) c.head)) | inr y ↦ y ] in
        record {
          rank = c.rank;
          from = from;
          below = omega arith;
          is = c.is;
          head = subst (λ d. H (slice_get (ranked goals order c.rank) d)) (sym past.depth) c.head;
          goes = subst (λ d. GoesOn path last (drop d (ranked goals order c.rank)) at) (sym past.depth) c.goes;
        }

    split_from : (n : ℕ) → Continues goals order path last IsNoEdge g at n → (Continues goals order path last IsEnd g at n ⊎ Continues goals order path last IsStaying rest at n)
    split_from n c = by_head (slice_get (ranked goals order c.rank) g.depth) refl c.head
      where
        stays : (o : Option GoalLetter) → slice_get (ranked goals order c.rank) g.depth ≡ o → IsStaying o → Continues goals order path last IsStaying rest at n
        stays o e h = rest_from IsStaying (λ x. x) n (known_as IsNoEdge IsStaying n c (subst IsStaying (sym e) h))

        by_head : (o : Option GoalLetter) → slice_get (ranked goals order c.rank) g.depth ≡ o → IsNoEdge o → (Continues goals order path last IsEnd g at n ⊎ Continues goals order path last IsStaying rest at n)
        by_head None e h = inl (known_as IsNoEdge IsEnd n c e)
        by_head (Some (Node m)) e h = inr (stays (Some (Node m)) e tt)
        by_head (Some (Edge m)) e h = absurd h
        by_head (Some (Predicate p)) e h = inr (stays (Some (Predicate p)) e tt)
        by_head (Some (Absent p)) e h = inr (stays (Some (Absent p)) e tt)
        by_head (Some (Quoted q)) e h = inr (stays (Some (Quoted q)) e tt)

    no_edge : (o : Option GoalLetter) → IsStaying o → IsNoEdge o
    no_edge None h = absurd h
    no_edge (Some (Node m)) h = tt
    no_edge (Some (Edge m)) h = absurd h
    no_edge (Some (Predicate p)) h = tt
    no_edge (Some (Absent p)) h = tt
    no_edge (Some (Quoted q)) h = tt

    split_to : (n : ℕ) → (Continues goals order path last IsEnd g at n ⊎ Continues goals order path last IsStaying rest at n) → Continues goals order path last IsNoEdge g at n
    split_to n (inl c) = known_as IsEnd IsNoEdge n c (subst IsNoEdge (sym c.head) tt)
    split_to n (inr c) = let d = rest_to IsStaying n c in known_as IsStaying IsNoEdge n d (no_edge (slice_get (ranked goals order d.rank) g.depth) d.head)

    -- those that end, and those that stay past them
    pub ended_and_staying : (xs ys zs : List ℕ) → Adds (Continues goals order path last IsEnd g at) xs ys → Adds (Continues goals order path last IsStaying rest at) ys zs → Adds (Continues goals order path last IsNoEdge g at) xs zs
    ended_and_staying xs ys zs a b = adds_same _ (Continues goals order path last IsNoEdge g at) xs zs split_to split_from (adds_both _ _ xs ys zs a b)

    -- the words past the ends that go on with a letter are all that do
    pub narrowed_past : (l : GoalLetter) (narrow : Group) → IsNarrowed goals order l rest narrow → IsNarrowed goals order l g narrow
    narrowed_past l narrow h =
        let f = past.from in
        let t = past.high in
        let nf = h.from in
        let nt = h.to in
        let deep = h.deeper in
        let small = h.small in
        let d = past.depth in
        record {
          group = h.group;
          deeper = omega (arith, deep, d);
          small = omega (arith, small, d);
          from = omega (arith, f, nf);
          to = omega (arith, t, nt);
          with_letter = λ r a b. ap (slice_get (ranked goals order r)) (sym past.depth) ∙ h.with_letter r a b;
          all_with_letter = λ r a b e. h.all_with_letter r (going_from r a e) (omega (arith, b, t)) (ap (slice_get (ranked goals order r)) past.depth ∙ e);
        }
      where
        going_from : (r : ℕ) → g.low ≤ r → slice_get (ranked goals order r) g.depth ≡ Some l → rest.low ≤ r
        going_from r a e = elim (cases_lt r rest.low) [ inl x ↦ absurd (let none : Some l ≡ None = sym e ∙ past.ended r a x in cc) | inr y ↦ y ]

  -- ---- edges

  -- after the last state no word goes on with an edge
  pub last_state : (xs ys : List ℕ) → length path.edges ≤ at → Adds (Continues goals order path last IsNoEdge g at) xs ys → Adds (Continues goals order path last IsAny g at) xs ys
  last_state xs ys past h = adds_same _ (Continues goals order path last IsAny g at) xs ys (λ n c. known_as IsNoEdge IsAny n c tt) from h
    where
      from : (n : ℕ) → Continues goals order path last IsAny g at n → Continues goals order path last IsNoEdge g at n
      from n c = by_head (slice_get (ranked goals order c.rank) g.depth) refl
        where
          by_head : (o : Option GoalLetter) → slice_get (ranked goals order c.rank) g.depth ≡ o → Continues goals order path last IsNoEdge g at n
          by_head None e = known_as IsAny IsNoEdge n c (subst IsNoEdge (sym e) tt)
          by_head (Some (Node m)) e = known_as IsAny IsNoEdge n c (subst IsNoEdge (sym e) tt)
          by_head (Some (Edge m)) e = let f = past_edge path last (ranked goals order c.rank) g.depth at m e c.goes in let lt = f.1.1 in absurd (omega arith)
          by_head (Some (Predicate p)) e = known_as IsAny IsNoEdge n c (subst IsNoEdge (sym e) tt)
          by_head (Some (Absent p)) e = known_as IsAny IsNoEdge n c (subst IsNoEdge (sym e) tt)
          by_head (Some (Quoted q)) e = known_as IsAny IsNoEdge n c (subst IsNoEdge (sym e) tt)

  -- a group of which nothing is left
  pub nothing_left : (H : Option GoalLetter → Type 0) (n : ℕ) → g.high ≤ g.low → Continues goals order path last H g at n → ⊥
  nothing_left H n empty c = let a = c.from in let b = c.below in omega arith

  module _ (edge : ℕ) (narrow : Group) (narrowed : IsNarrowed goals order (Edge edge) g narrow) (here : slice_index path.edges at ≡ edge) where
    pub edge_to : (n : ℕ) → Continues goals order path last IsAny narrow (suc at) n → Continues goals order path last IsAny g at n
    edge_to n c =
        let a : narrow.low ≤ c.rank = c.from in
        let b : c.rank < narrow.high = c.below in
        let f = narrowed.from in
        let t = narrowed.to in
        let e = narrowed.with_letter c.rank a b in
        let deep : GoesOn path last (drop (suc g.depth) (ranked goals order c.rank)) (suc at) = subst (λ d. GoesOn path last (drop d (ranked goals order c.rank)) (suc at)) narrowed.deeper c.goes in
        record { rank = c.rank; from = omega arith; below = omega arith; is = c.is; head = tt; goes = before_letter path last (ranked goals order c.rank) g.depth at (Edge edge) (suc at) e (refl, here) deep }

    pub edge_from : (n : ℕ) → Continues goals order path last IsAny g at n → (Continues goals order path last IsNoEdge g at n ⊎ Continues goals order path last IsAny narrow (suc at) n)
    edge_from n c = by_head (slice_get (ranked goals order c.rank) g.depth) refl
      where
        by_head : (o : Option GoalLetter) → slice_get (ranked goals order c.rank) g.depth ≡ o → (Continues goals order path last IsNoEdge g at n ⊎ Continues goals order path last IsAny narrow (suc at) n)
        by_head None e = inl (known_as IsAny IsNoEdge n c (subst IsNoEdge (sym e) tt))
        by_head (Some (Node m)) e = inl (known_as IsAny IsNoEdge n c (subst IsNoEdge (sym e) tt))
        by_head (Some (Edge m)) e =
            let f = past_edge path last (ranked goals order c.rank) g.depth at m e c.goes in
            let same : m ≡ edge = sym f.0 ∙ here in
            let inside = narrowed.all_with_letter c.rank c.from c.below (e ∙ ap (λ x. Some (Edge x)) same) in
            inr (record { rank = c.rank; from = inside.0; below = inside.1; is = c.is; head = tt; goes = subst (λ d. GoesOn path last (drop d (ranked goals order c.rank)) (suc at)) (sym narrowed.deeper) f.1.0 })
        by_head (Some (Predicate p)) e = inl (known_as IsAny IsNoEdge n c (subst IsNoEdge (sym e) tt))
        by_head (Some (Absent p)) e = inl (known_as IsAny IsNoEdge n c (subst IsNoEdge (sym e) tt))
        by_head (Some (Quoted q)) e = inl (known_as IsAny IsNoEdge n c (subst IsNoEdge (sym e) tt))

-- ---- a walk from its beginning

module _ (goals : List GoalForm) (order : List ℕ) (path : PathView) (last : Bool) (g0 : Group) (at0 : ℕ) (xs0 : List ℕ) where
  -- what is known and what is still to come are together what is wanted
  abbrev pub Same : Group → ℕ → List ℕ → Type 0
  Same g at xs = (n : ℕ) → (Contains xs n ⊎ Continues goals order path last IsAny g at n) ↔ (Contains xs0 n ⊎ Continues goals order path last IsAny g0 at0 n)

  pub same_first : Same g0 at0 xs0
  same_first n = (λ h. h, λ h. h)

  -- one edge further
  pub same_more : (g narrow : Group) (at : ℕ) (letter : GoalLetter) (xs ys : List ℕ) → Same g at xs → Adds (Continues goals order path last IsNoEdge g at) xs ys
      → letter ≡ Edge (slice_index path.edges at) → IsNarrowed goals order letter g narrow → Same narrow (at + 1) ys
  same_more g narrow at letter xs ys same h e narrowed n =
      let k : suc at ≡ at + 1 = omega arith in
      let narrowed' : IsNarrowed goals order (Edge (slice_index path.edges at)) g narrow = subst (λ l. IsNarrowed goals order l g narrow) e narrowed in
      subst (λ i. (Contains ys n ⊎ Continues goals order path last IsAny narrow i n) ↔ (Contains xs0 n ⊎ Continues goals order path last IsAny g0 at0 n)) k (
        λ c. elim c [
          | inl x ↦ elim ((h n).0 x) [ inl y ↦ (same n).0 (inl y) | inr y ↦ (same n).0 (inr (any_head goals order path last g at IsNoEdge n y)) ]
          | inr x ↦ (same n).0 (inr (edge_to goals order path last g at (slice_index path.edges at) narrow narrowed' refl n x))
        ],
        λ c. elim ((same n).1 c) [
          | inl x ↦ inl ((h n).1 (inl x))
          | inr x ↦ elim (edge_from goals order path last g at (slice_index path.edges at) narrow narrowed' refl n x) [ inl y ↦ inl ((h n).1 (inr y)) | inr y ↦ inr y ]
        ],
      )

  -- at the last state
  pub same_last : (g : Group) (at : ℕ) (xs ys : List ℕ) → Same g at xs → Adds (Continues goals order path last IsNoEdge g at) xs ys → length path.edges ≤ at → Adds (Continues goals order path last IsAny g0 at0) xs0 ys
  same_last g at xs ys same h past n =
      let all = last_state goals order path last g at xs ys past h n in
      (λ c. (same n).0 (all.0 c), λ c. all.1 ((same n).1 c))

  -- where nothing is left
  pub same_done : (g : Group) (at : ℕ) (xs : List ℕ) → Same g at xs → g.high ≤ g.low → Adds (Continues goals order path last IsAny g0 at0) xs0 xs
  same_done g at xs same empty n = (
    λ c. (same n).0 (inl c),
    λ c. elim ((same n).1 c) [ inl x ↦ x | inr x ↦ absurd (nothing_left goals order path last g at IsAny n empty x) ],
  )

pub node_stays : (path : PathView) (at : ℕ) (letter : GoalLetter) → letter ≡ Node (slice_index path.nodes at) → Goes path letter at at
node_stays path at letter e = subst (λ l. Goes path l at at) (sym e) (refl, refl)

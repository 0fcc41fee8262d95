-- The order of an index, and walks from each state.
use Rattle.std.proofs.Common.{◌≡◌, ℕ, suc, ◌+◌, ◌≤◌, ◌<◌, Bool, true, false, List, length, get_or, drop, Ordering, refl, sym, ◌∙◌, ap, subst, arith}
use Rattle.std.specs.Prelude.{slice_index}
use Rattle.std.specs.Cmp.{IsStrictWeakOrder}
use Rattle.std.specs.Cmp.Lexicographic.{slice_cmp}
use Rattle.std.specs.Fn.{Called, ComparesAs}
use Rattle.std.specs.List.{filter}
use Rattle.std.specs.List.Sorted.{IsSortedBy}
use Rattle.std.specs.Ordering.{is_lt, nat_cmp}
use Rattle.std.proofs.lemmas.Cmp.{nat_list_cmp_total}
use Rattle.std.proofs.lemmas.Fn.{always_returns_same}
use Rattle.std.proofs.lemmas.List.{get_or_default}
use Rattle.std.proofs.lemmas.List.Kept.{IsSortedBy-filter}
use Rattle.std.proofs.lemmas.List.Sorted.{ranks_by, sorted_far}
use denote.Param.Members.{Mut}
use denote.Ref.{Bor}
use Rattle.patterns.specs.declared.path_view.PathView.{PathView}
use Rattle.goals.specs.GoalForm.{GoalForm}
use Rattle.measurer_index.specs.word_index.Numbers.{Adds}
use Rattle.measurer_index.specs.word_index.Order.{AreAbsentsBelow, keys, ranked, IsSortedFrom, IsOrderOf}
use Rattle.measurer_index.specs.word_index.Walks.{word_at, HasGoalWalk}
use Rattle.measurer_index.specs.word_index.Groups.{GoesOn, Continues, IsAny, Started}
use Rattle.measurer_index.specs.declared.word_index.group.Group.{Group}
use Rattle.measurer_index.proofs.word_index.Going.{walks_forward}
use Rattle.measurer_index.proofs.word_index.Steps.{adds_same}

-- the word of one place comes before that of another
abbrev before : List GoalForm → ℕ → ℕ → Bool
before goals x y = is_lt (slice_cmp nat_cmp (keys (word_at goals x)) (keys (word_at goals y)))

before_weak : (goals : List GoalForm) → IsStrictWeakOrder (before goals)
before_weak goals = ranks_by nat_list_cmp_total (λ x. keys (word_at goals x))

in_order : (goals : List GoalForm) (xs : List ℕ) → IsSortedBy (before goals) xs → IsSortedFrom goals xs 0 0 (length xs)
in_order goals xs sorted r s from le to = sorted_far (before goals) (before_weak goals) xs sorted r s 0 le to

-- a sort by words puts them in order
pub sorted_words : (goals : List GoalForm) {F : Type 0} {g : Mut F (Bor ℕ × (Bor ℕ × Unit {0})) Ordering} {f : F} (xs : List ℕ)
    → ((lt : ℕ → ℕ → Bool) → IsStrictWeakOrder lt → ComparesAs g lt f → IsSortedBy lt xs)
    → ((a : Bor ℕ × (Bor ℕ × Unit {0})) (r : Ordering) (f' : F) → Called g f a r f' → (r ≡ slice_cmp nat_cmp (keys (word_at goals a.0.now)) (keys (word_at goals a.1.0.now))) × (f' ≡ f))
    → IsSortedFrom goals xs 0 0 (length xs)
sorted_words goals {g = g} {f = f} xs up calls =
    in_order goals xs (up (before goals) (before_weak goals) (always_returns_same g (λ a r. is_lt r ≡ before goals a.0.now a.1.0.now) f (λ a r f' k. (ap is_lt (calls a r f' k).0, (calls a r f' k).1))))

-- words that are picked out stay in order
pub sorted_filter : (goals : List GoalForm) (keeps : ℕ → Bool) (xs : List ℕ) → IsSortedFrom goals xs 0 0 (length xs) → IsSortedFrom goals (filter keeps xs) 0 0 (length (filter keeps xs))
sorted_filter goals keeps xs sorted = in_order goals (filter keeps xs) (IsSortedBy-filter (before goals) (before_weak goals) keeps xs adjacent)
  where
    adjacent : IsSortedBy (before goals) xs
    adjacent k d from lt =
        let a : get_or xs k 0 ≡ get_or xs k d = get_or_default xs k 0 d (omega (arith, lt)) in
        let b : get_or xs (k + 1) 0 ≡ get_or xs (k + 1) d = get_or_default xs (k + 1) 0 d lt in
        let h : before goals (get_or xs (k + 1) 0) (get_or xs k 0) ≡ false = sorted k (k + 1) from (omega arith) lt in
        rw (a, b) at h

-- ---- from any state

module _ (goals : List GoalForm) (order : List ℕ) (path : PathView) (first last : Bool) (all : Group) (at_low : all.low ≡ 0) (at_high : all.high ≡ length order) (shallow : all.depth ≡ 0) (ordered : IsOrderOf goals order) (absents : AreAbsentsBelow goals all.absents) where
  walk_of : (i n : ℕ) → (first ≡ true → i ≡ 0) → Continues goals order path last IsAny all i n → HasGoalWalk goals first last path n
  walk_of i n begins c =
      let below : c.rank < all.high = c.below in
      let goes : GoesOn path last (ranked goals order c.rank) i = subst (λ d. GoesOn path last (drop d (ranked goals order c.rank)) i) shallow c.goes in
      record {
        place = slice_index order c.rank;
        is = c.is;
        plain = ordered.plain c.rank (omega arith);
        walk = record { from = i; to = goes.to; within = goes.within; at_first = begins; at_last = goes.at_last; walks = goes.walks };
      }

  continues_of : (n : ℕ) (h : HasGoalWalk goals first last path n) → Continues goals order path last IsAny all h.walk.from n
  continues_of n h =
      let found = ordered.all h.place h.plain in
      let lt : found.0 < length order = found.1 in
      let e : slice_index order found.0 ≡ h.place = get_or_default order found.0 0 h.place lt ∙ found.2 in
      let goes : GoesOn path last (word_at goals h.place) h.walk.from = record { to = h.walk.to; within = h.walk.within; at_last = h.walk.at_last; walks = h.walk.walks } in
      let goes' : GoesOn path last (ranked goals order found.0) h.walk.from = subst (λ p. GoesOn path last (word_at goals p) h.walk.from) (sym e) goes in
      record {
        rank = found.0;
        from = omega arith;
        below = omega arith;
        is = h.is ∙ ap suc (sym e);
        head = tt;
        goes = subst (λ d. GoesOn path last (drop d (ranked goals order found.0)) h.walk.from) (sym shallow) goes';
      }

  begins_within : (n : ℕ) (h : HasGoalWalk goals first last path n) → h.walk.from ≤ length path.edges
  begins_within n h = let f = walks_forward path (word_at goals h.place) h.walk.from h.walk.to h.walk.walks in let w = h.walk.within in omega arith

  -- from the first state alone
  pub from_first : (xs ys : List ℕ) → first ≡ true → Adds (Continues goals order path last IsAny all 0) xs ys → Adds (HasGoalWalk goals first last path) xs ys
  from_first xs ys is h = adds_same _ (HasGoalWalk goals first last path) xs ys (λ n c. walk_of 0 n (λ e. refl) c)
      (λ n g. subst (λ i. Continues goals order path last IsAny all i n) (g.walk.at_first is) (continues_of n g)) h

  -- from all states
  pub from_all : (count : ℕ) (xs ys : List ℕ) → first ≡ false → count ≡ length path.edges + 1 → Adds (Started goals order path last IsAny all count) xs ys → Adds (HasGoalWalk goals first last path) xs ys
  from_all count xs ys is size h = adds_same _ (HasGoalWalk goals first last path) xs ys
      (λ n (i, (lt, c)). walk_of i n (λ e. absurd (let f : true ≡ false = sym e ∙ is in cc)) c)
      (λ n g. let w = begins_within n g in (g.walk.from, (omega arith, continues_of n g))) h

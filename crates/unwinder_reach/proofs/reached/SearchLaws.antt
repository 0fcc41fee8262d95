-- The steps of a search in depth.
use Rattle.std.proofs.Common.{◌≡◌, ℕ, ◌+◌, ◌^◌, ◌<◌, ◌≤◌, List, [], ◌∷◌, ◌++◌, length, Option, Some, None, refl, sym, ap, ◌∙◌, subst, inl, inr, ⊎_elim, arith, length-append}
use Rattle.std.proofs.lemmas.List.{length-map}
use Rattle.std.specs.Prelude.{slice_get, Contains}
use Rattle.std.proofs.lemmas.List.Elements.{Contains-push_cases}
use Rattle.std.proofs.lemmas.Option.{same_Some}
use Rattle.cfa.specs.declared.parts.Edge.{Edge}
use Rattle.cfa.specs.declared.parts.Function.{Function}
use Rattle.cfa.specs.declared.parts.GraphParts.{GraphParts}
use Rattle.cfa.specs.Contexts.{Pair, IsOnce, along, first_pair}
use Rattle.unwinder_reach.specs.declared.reached.bounds.Bounds.{Bounds}
use Rattle.unwinder_reach.specs.declared.reached.search.Open.{Open}
use Rattle.unwinder_reach.specs.reached.Reaching.{AreTooMany, FollowsWithin, IsReachedWithin}
use Rattle.unwinder_reach.specs.reached.Searching.{AreInOrder, AreWays, IsApart, IsFound, IsIn, IsNextAlong, IsOrdered, IsSearching, IsTrail, pairs_of, ways_left, work_left}
use Rattle.unwinder_reach.proofs.reached.Lists.{apart_append, apart_places, in_at, in_left, in_parts, in_right}
use Rattle.unwinder_reach.proofs.reached.Trails.{tail_trail, trail_apart, trail_once, trail_reached}

-- an edge leads from a pair to one pair alone
pub one_target : (parts : GraphParts) (bounds : Bounds) (at : ℕ) (d e : Edge) (p q r : Pair) → FollowsWithin parts bounds at d p q → FollowsWithin parts bounds at e p r → q ≡ r
one_target parts bounds at d e p q r one two =
    let same : d ≡ e = same_Some d e (sym one.follows.edge ∙ two.follows.edge) in
    one.follows.reaches ∙ ap (λ (g : Edge). record { node = g.target; context = along parts at g p.context }) same ∙ sym two.follows.reaches

pub ordered_apart : (parts : GraphParts) (bounds : Bounds) (ps : List Pair) → IsOrdered parts bounds ps → IsApart ps
ordered_apart parts bounds [] h = tt
ordered_apart parts bounds (p ∷ ps) h = (h.0, ordered_apart parts bounds ps h.2)

module _ (parts : GraphParts) (bounds : Bounds) (f : Function) where
  -- where a search begins: nothing was found, and the first pair comes next
  pub begun : IsSearching parts bounds f (Some (first_pair f)) [] [] []
  begun = record {
    trail = tt;
    ordered = tt;
    reached = λ p h. absurd h;
    apart = λ p h. absurd h;
    looked = λ o h. absurd h;
    listed = λ p h. absurd (⊎_elim (λ a. a) (λ b. b) h);
    known = λ p h. absurd h;
    counted = refl;
    few = omega arith;
    small = λ o h. absurd h;
    ends = λ e n. absurd (cc);
  }

  module _ (done : List Pair) (way : List Open) (found : List Pair) where
    -- where all is finished, the pairs are in order
    pub ended : IsSearching parts bounds f None done way found → way ≡ [] → AreInOrder parts bounds f done
    ended s e = record { first = s.ends e refl; ordered = s.ordered; reached = s.reached; few = let counted = s.counted in let few = s.few in omega arith }

    -- the pair that comes next was found before
    pub known : (q : Pair) → IsSearching parts bounds f (Some q) done way found → (way ≡ [] → ⊥) → IsIn found q → IsSearching parts bounds f None done way found
    known q s some there = record {
      trail = s.trail;
      ordered = s.ordered;
      reached = s.reached;
      apart = s.apart;
      looked = λ o i at e r follows.
          ⊎_elim (λ left. inl left)
          (λ rest. inr (⊎_elim (λ is. inl is) (λ next. inl (let same : q ≡ r = same_Some q r next in subst (IsFound done way) same (s.known q there))) rest))
          (s.looked o i at e r follows);
      listed = s.listed;
      known = s.known;
      counted = s.counted;
      few = s.few;
      small = s.small;
      ends = λ e n. absurd (some e);
    }

    module _ (k : ℕ) (there : slice_get parts.functions k ≡ Some f) (once : IsOnce parts) where
      unfound : (next : Option Pair) (q : Pair) → IsSearching parts bounds f next done way found → ¬ IsIn found q → ¬ IsFound done way q
      unfound next q s new is = new (s.listed q is)

      -- one more pair would be too many
      pub too_many : (q : Pair) → IsSearching parts bounds f (Some q) done way found → IsTrail parts bounds f (q ∷ pairs_of way) → ¬ IsIn found q → 50000 < length found + 1 → AreTooMany parts bounds f
      too_many q s trail new many =
          let unknown = unfound (Some q) q s new in
          let other : (p : Pair) → IsIn (q ∷ pairs_of way) p → ¬ IsIn done p = λ p i. ⊎_elim (λ e d. unknown (inl (subst (IsIn done) (sym e) d))) (λ r. s.apart p r) i in
          let apart = apart_append (q ∷ pairs_of way) done (trail_apart parts bounds f k there once (q ∷ pairs_of way) trail) (ordered_apart parts bounds done s.ordered) other in
          let counted = s.counted in let few = s.few in
          let long = length-append (q ∷ pairs_of way) done in
          let same = length-map way (λ (o : Open). o.pair) in
          record {
            pairs = (q ∷ pairs_of way) ++ done;
            many = omega arith;
            distinct = apart_places ((q ∷ pairs_of way) ++ done) apart;
            reached = λ i p e.
                ⊎_elim (λ a. trail_reached parts bounds f (q ∷ pairs_of way) p trail a) (λ b. s.reached p b)
                (in_parts (q ∷ pairs_of way) done p (in_at ((q ∷ pairs_of way) ++ done) i p e));
          }

      -- the pair that comes next is new, and goes onto the way
      pub visited : (q : Pair) (ways : List ℕ) (o : Open) → o.pair ≡ q → o.ways ≡ ways → IsSearching parts bounds f (Some q) done way found → IsTrail parts bounds f (q ∷ pairs_of way) → ¬ IsIn found q → length found + 1 ≤ 50000 → AreWays parts q ways → length ways < 2 ^ 64
          → IsSearching parts bounds f None done (o ∷ way) (found ++ q ∷ [])
      visited q ways o own own_ways s trail new room all short =
          let unknown = unfound (Some q) q s new in
          let counted = s.counted in
          let long = length-append found (q ∷ []) in
          let wider : (p : Pair) → IsFound done way p → IsFound done (o ∷ way) p = λ p h. ⊎_elim (λ a. inl a) (λ b. inr (inr b)) h in
          record {
            trail = subst (λ p. IsTrail parts bounds f (p ∷ pairs_of way)) (sym own) trail;
            ordered = s.ordered;
            reached = s.reached;
            apart = λ p i. ⊎_elim (λ e d. unknown (inl (subst (IsIn done) (sym e ∙ own) d))) (λ r. s.apart p r) i;
            looked = λ w i at e r follows.
                ⊎_elim
                (λ same.
                let same_pair : w.pair ≡ q = ap (λ (x : Open). x.pair) (sym same) ∙ own in
                let same_ways : ways ≡ w.ways = sym own_ways ∙ ap (λ (x : Open). x.ways) same in
                inl (subst (λ l. Contains l at) same_ways (all at e r (subst (λ p. FollowsWithin parts bounds at e p r) same_pair follows).follows)))
                (λ older.
                ⊎_elim (λ left. inl left)
                (λ rest. inr (⊎_elim (λ h. inl (wider r h)) (λ next. inl (inr (inl (own ∙ same_Some q r next)))) rest))
                (s.looked w older at e r follows))
                i;
            listed = λ p h.
                ⊎_elim (λ a. in_left found (q ∷ []) p (s.listed p (inl a)))
                (λ b. ⊎_elim (λ e. in_right found (q ∷ []) p (inl (sym own ∙ e))) (λ c. in_left found (q ∷ []) p (s.listed p (inr c))) b)
                h;
            known = λ p h.
                ⊎_elim (λ b. wider p (s.known p b)) (λ last. ⊎_elim (λ e. inr (inl (own ∙ e))) (λ none. absurd none) last) (in_parts found (q ∷ []) p h);
            counted = omega arith;
            few = omega arith;
            small = λ w i. ⊎_elim (λ e. subst (λ (l : List ℕ). length l < 2 ^ 64) (sym own_ways ∙ ap (λ (x : Open). x.ways) e) short) (λ r. s.small w r) i;
            ends = λ e n. absurd (cc);
          }

module _ (parts : GraphParts) (bounds : Bounds) (f : Function) (done : List Pair) (o : Open) (way : List Open) (found : List Pair) (s : IsSearching parts bounds f None done (o ∷ way) found) where
  module _ (k : ℕ) (there : slice_get parts.functions k ≡ Some f) (once : IsOnce parts) where
    -- each edge of the pair that was last on the way was followed, so it is finished
    pub finished : o.ways ≡ [] → IsSearching parts bounds f None (o.pair ∷ done) way found
    finished none =
        let moved : (p : Pair) → IsFound done (o ∷ way) p → IsFound (o.pair ∷ done) way p = λ p h. ⊎_elim (λ a. inl (inr a)) (λ b. ⊎_elim (λ e. inl (inl e)) (λ c. inr c) b) h in
        let back : (p : Pair) → IsFound (o.pair ∷ done) way p → IsFound done (o ∷ way) p = λ p h. ⊎_elim (λ a. ⊎_elim (λ e. inr (inl e)) (λ d. inl d) a) (λ b. inr (inr b)) h in
        let counted = s.counted in
        record {
          trail = tail_trail parts bounds f o.pair (pairs_of way) s.trail;
          ordered = (
            s.apart o.pair (inl refl),
            λ q n.
                ⊎_elim (λ left. absurd (no_way none left))
                (λ rest.
                ⊎_elim (λ h. ⊎_elim (λ d. d) (λ w. absurd (trail_once parts bounds f k there once q (pairs_of (o ∷ way)) (n, s.trail) w)) h)
                (λ next. absurd (cc)) rest)
                (s.looked o (inl refl) n.0 n.1 q n.2),
            s.ordered,
          );
          reached = λ p i. ⊎_elim (λ e. subst (IsReachedWithin parts bounds f) e (trail_reached parts bounds f (pairs_of (o ∷ way)) o.pair s.trail (inl refl))) (λ r. s.reached p r) i;
          apart = λ p i d. ⊎_elim (λ e. trail_once parts bounds f k there once o.pair (pairs_of way) s.trail (subst (IsIn (pairs_of way)) (sym e) i)) (λ r. s.apart p (inr i) r) d;
          looked = λ w i at e q follows.
              ⊎_elim (λ left. inl left) (λ rest. inr (⊎_elim (λ h. inl (moved q h)) (λ next. inr next) rest)) (s.looked w (inr i) at e q follows);
          listed = λ p h. s.listed p (back p h);
          known = λ p h. moved p (s.known p h);
          counted = omega arith;
          few = s.few;
          small = λ w i. s.small w (inr i);
          ends = λ e n. let first : IsTrail parts bounds f (o.pair ∷ pairs_of []) = subst (λ w. IsTrail parts bounds f (o.pair ∷ pairs_of w)) e s.trail in ap Some first;
        }
      where
        no_way : {ways : List ℕ} {at : ℕ} → ways ≡ [] → Contains ways at → ⊥
        no_way {ways} {at} e h = let none : Contains [] at = subst (λ l. Contains l at) e h in omega (arith, none.1)

  by_next : (at : ℕ) (next : Option Pair) → IsNextAlong parts bounds at o.pair next → (e : Edge) (q : Pair) → FollowsWithin parts bounds at e o.pair q → next ≡ Some q
  by_next at None none e q follows = absurd (none e q follows)
  by_next at (Some r) is e q follows = ap Some (one_target parts bounds at is.0 e o.pair r q is.1 follows)

  -- an edge of the pair that was last on the way is followed, and leads to the pair that comes next, or to none
  pub followed : (n : ℕ) (ways : List ℕ) (at : ℕ) (next : Option Pair) → o.ways ≡ ways ++ at ∷ [] → IsNextAlong parts bounds at o.pair next → IsSearching parts bounds f next done (record { pair = o.pair; frames = n; ways = ways } ∷ way) found
  followed n ways at next all is =
      let shorter = ap length all ∙ length-append ways (at ∷ []) in
      let old = s.small o (inl refl) in
      record {
        trail = s.trail;
        ordered = s.ordered;
        reached = s.reached;
        apart = s.apart;
        looked = λ w i b e q follows.
            ⊎_elim
            (λ same.
            let own = subst (λ p. FollowsWithin parts bounds b e p q) (sym (ap (λ (x : Open). x.pair) same)) follows in
            ⊎_elim
            (λ left.
            ⊎_elim (λ more. inl (subst (λ (l : List ℕ). Contains l b) (ap (λ (x : Open). x.ways) same) more))
            (λ now. inr (inr (by_next at next is e q (subst (λ n. FollowsWithin parts bounds n e o.pair q) (sym now) own))))
            (Contains-push_cases ways at b (subst (λ l. Contains l b) all left)))
            (λ rest. ⊎_elim (λ h. inr (inl h)) (λ none. absurd (cc)) rest)
            (s.looked o (inl refl) b e q own))
            (λ older. ⊎_elim (λ left. inl left) (λ rest. ⊎_elim (λ h. inr (inl h)) (λ none. absurd (cc)) rest) (s.looked w (inr older) b e q follows))
            i;
        listed = s.listed;
        known = s.known;
        counted = s.counted;
        few = s.few;
        small = λ w i. ⊎_elim (λ e. subst (λ (l : List ℕ). length l < 2 ^ 64) (ap (λ (x : Open). x.ways) e) (omega arith)) (λ r. s.small w (inr r)) i;
        ends = λ e n. absurd (cc);
      }

  left_small : ways_left way < 2 ^ 64
  left_small = by way (λ w i. s.small w (inr i))
    where
      by : (w : List Open) → ((x : Open) → IsIn w x → length x.ways < 2 ^ 64) → ways_left w < 2 ^ 64
      by [] h = omega arith
      by (x ∷ w) h = h x (inl refl)

  pub finished_less : (n : ℕ) → work_left n way < work_left n (o ∷ way)
  finished_less n = let low = left_small in omega arith

  pub followed_less : (n m : ℕ) (ways : List ℕ) (at : ℕ) → o.ways ≡ ways ++ at ∷ [] → work_left n (record { pair = o.pair; frames = m; ways = ways } ∷ way) < work_left n (o ∷ way)
  followed_less n m ways at all = let shorter = ap length all ∙ length-append ways (at ∷ []) in omega arith

pub visited_less : (n m : ℕ) (o : Open) (way : List Open) → m ≡ n + 1 → m ≤ 50000 → length o.ways < 2 ^ 64 → work_left m (o ∷ way) ≤ work_left n way
visited_less n m o way grown room short = omega arith

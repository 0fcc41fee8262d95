-- Walks that are told from their ends.
use Rattle.std.proofs.Common.{◌≡◌, ℕ, List, [], ◌∷◌, ◌++◌, length, reverse, Some, refl, sym, ap, ◌∙◌, subst, ⊎_elim, arith}
use Rattle.std.specs.Prelude.{slice_get}
use Rattle.cfa.specs.declared.parts.Function.{Function}
use Rattle.cfa.specs.declared.parts.GraphParts.{GraphParts}
use Rattle.cfa.specs.Contexts.{Pair, IsOnce, IsWalk, first_pair}
use Rattle.unwinder_reach.specs.declared.reached.bounds.Bounds.{Bounds}
use Rattle.unwinder_reach.specs.reached.Reaching.{IsNextWithin, IsWalkWithin, IsReachedWithin, end_of_walk}
use Rattle.unwinder_reach.specs.reached.Searching.{IsIn, IsApart, IsTrail}
use Rattle.unwinder_reach.proofs.reached.Lists.{in_reverse, place_of, get_left, get_end, reverse_cons}

module _ (parts : GraphParts) (bounds : Bounds) where
  walk_on : (p : Pair) (walk : List Pair) (q : Pair) → IsWalkWithin parts bounds p walk → IsNextWithin parts bounds (end_of_walk p walk) q → IsWalkWithin parts bounds p (walk ++ q ∷ [])
  walk_on p [] q h n = (n, tt)
  walk_on p (w ∷ walk) q h n = (h.0, walk_on w walk q h.1 n)

  is_walk : (p : Pair) (walk : List Pair) → IsWalkWithin parts bounds p walk → IsWalk parts p walk
  is_walk p [] h = tt
  is_walk p (q ∷ walk) h = ((h.0.0, h.0.1, h.0.2.follows), is_walk q walk h.1)

end_on : (p : Pair) (walk : List Pair) (q : Pair) → end_of_walk p (walk ++ q ∷ []) ≡ q
end_on p [] q = refl
end_on p (w ∷ walk) q = end_on w walk q

module _ (parts : GraphParts) (bounds : Bounds) (f : Function) where
  -- a trail, as a walk
  record Walked (p : Pair) (ps : List Pair) : Type 0 where
    walk : List Pair
    walks : IsWalkWithin parts bounds (first_pair f) walk
    ends : end_of_walk (first_pair f) walk ≡ p
    lists : first_pair f ∷ walk ≡ reverse (p ∷ ps)

  trail_walk : (p : Pair) (ps : List Pair) → IsTrail parts bounds f (p ∷ ps) → Walked p ps
  trail_walk p [] e = record { walk = []; walks = tt; ends = sym e; lists = ap (λ r. r ∷ []) (sym e) }
  trail_walk p (q ∷ ps) h =
      let w = trail_walk q ps h.1 in
      record {
        walk = w.walk ++ p ∷ [];
        walks = walk_on parts bounds (first_pair f) w.walk p w.walks (subst (λ r. IsNextWithin parts bounds r p) (sym w.ends) h.0);
        ends = end_on (first_pair f) w.walk p;
        lists = ap (λ l. l ++ p ∷ []) w.lists ∙ sym (reverse_cons p (q ∷ ps));
      }

  pub tail_trail : (p : Pair) (ps : List Pair) → IsTrail parts bounds f (p ∷ ps) → IsTrail parts bounds f ps
  tail_trail p [] h = tt
  tail_trail p (q ∷ ps) h = h.1

  pub trail_reached : (ps : List Pair) (p : Pair) → IsTrail parts bounds f ps → IsIn ps p → IsReachedWithin parts bounds f p
  trail_reached [] p h i = absurd i
  trail_reached (q ∷ ps) p h i =
      let w = trail_walk q ps h in
      ⊎_elim (λ e. (w.walk, w.walks, w.ends ∙ e)) (λ r. trail_reached ps p (tail_trail q ps h) r) i

  module _ (k : ℕ) (there : slice_get parts.functions k ≡ Some f) (once : IsOnce parts) where
    -- no walk comes to a pair twice
    pub trail_once : (p : Pair) (ps : List Pair) → IsTrail parts bounds f (p ∷ ps) → ¬ IsIn ps p
    trail_once p ps h i =
        let w = trail_walk p ps h in
        let front = place_of (reverse ps) p (in_reverse ps p i) in
        let lists : first_pair f ∷ w.walk ≡ reverse ps ++ p ∷ [] = w.lists ∙ reverse_cons p ps in
        let low = ap (λ l. slice_get l front.0) lists ∙ get_left (reverse ps) (p ∷ []) front.0 p front.2 in
        let high = ap (λ l. slice_get l (length (reverse ps))) lists ∙ get_end (reverse ps) p in
        let same = once.apart k f w.walk there (is_walk parts bounds (first_pair f) w.walk w.walks) front.0 (length (reverse ps)) p low high in
        omega (arith, same, front.1)

    pub trail_apart : (ps : List Pair) → IsTrail parts bounds f ps → IsApart ps
    trail_apart [] h = tt
    trail_apart (p ∷ ps) h = (trail_once p ps h, trail_apart ps (tail_trail p ps h))

-- The steps between pairs that are in order.
use Rattle.std.proofs.Common.{◌≡◌, ℕ, zero, suc, ◌+◌, ◌<◌, Bool, true, false, List, [], ◌∷◌, ◌++◌, length, take, get_or, Option, Some, None, refl, sym, ap, ◌∙◌, subst, inl, inr, ⊎_elim, arith, length-append}
use Rattle.std.specs.Prelude.{slice_get, Contains}
use Rattle.std.proofs.lemmas.List.{take_more}
use Rattle.std.specs.List.Sorted.{IsStrictlyIncreasing}
use Rattle.std.proofs.lemmas.List.Elements.{Contains-append_left, Contains-push, Contains-push_cases}
use Rattle.std.proofs.lemmas.Option.{same_Some, slice_get_within, slice_get-get_or}
use Rattle.cfa.specs.declared.parts.Edge.{Edge}
use Rattle.cfa.specs.declared.parts.Function.{Function}
use Rattle.cfa.specs.declared.parts.GraphParts.{GraphParts}
use Rattle.cfa.specs.Contexts.{Pair}
use Rattle.unwinder_reach.specs.declared.reached.bounds.Bounds.{Bounds}
use Rattle.unwinder_reach.specs.declared.reached.step.Step.{Step}
use Rattle.unwinder_reach.specs.reached.Reaching.{AreDistinct, AreReached, FollowsWithin, IsNextWithin}
use Rattle.unwinder_reach.specs.declared.reached.steps.Places.{Places}
use Rattle.unwinder_reach.specs.reached.Placing.{ArePlaces}
use Rattle.unwinder_reach.specs.reached.Searching.{AreInOrder, AreKeys, AreNumbered, AreRows, AreStepsAlong, AreStepsTo, AreWays, Extends, HasStep, HaveNumbers, IsAdded, IsIn, IsNextAlong, IsOrdered, IsStepAlong, LeadsWithin, StaysAmong, key_by, with_step}
use Rattle.unwinder_reach.proofs.reached.KeyLaws.{has_key, has_pair, key_finds, keys_push, keys_stay, numbers_stay}
use Rattle.unwinder_reach.proofs.reached.Lists.{apart_places, in_at, in_left, in_parts, in_right, place_of, push_cases}
use Rattle.unwinder_reach.proofs.reached.Rising.{none_rise, rising_more}
use Rattle.unwinder_reach.proofs.reached.SearchLaws.{one_target, ordered_apart}

-- ---- the keys of a list of pairs

in_take : (ps : List Pair) (i : ℕ) (p : Pair) → IsIn (take i ps) p → (j : ℕ) × (j < i) × (slice_get ps j ≡ Some p)
in_take ps zero p h = absurd h
in_take [] (suc i) p h = absurd h
in_take (r ∷ ps) (suc i) p h = ⊎_elim (λ e. (0, omega arith, ap Some e)) (λ t. let f = in_take ps i p t in (suc f.0, omega (arith, f.1), f.2)) h

-- the number beside a pair
pub own_number : (table : List (List ℕ)) (ps : List Pair) (numbers : List ℕ) (i : ℕ) (p : Pair) → HaveNumbers table ps numbers → slice_get ps i ≡ Some p → AreNumbered table p.context.frames (get_or numbers i 0)
own_number table ps numbers i p have there =
    let own = have.each i p there in
    let within = slice_get_within numbers i own.0 own.1 in
    let same : own.0 ≡ get_or numbers i 0 = same_Some own.0 (get_or numbers i 0) (sym own.1 ∙ slice_get-get_or numbers i 0 within) in
    subst (AreNumbered table p.context.frames) same own.2

pub keys_more : (table : List (List ℕ)) (ps : List Pair) (numbers : List ℕ) (i : ℕ) (p : Pair) (keys new : List (List ℕ)) (key : List ℕ) (added : Bool) → AreDistinct ps → HaveNumbers table ps numbers → slice_get ps i ≡ Some p → key ≡ key_by (get_or numbers i 0) p → AreKeys table keys (take i ps) → IsAdded added keys key new
    → AreKeys table new (take (i + 1) ps)
keys_more table ps numbers i p keys new key true apart have there own so_far is =
    let n = get_or numbers i 0 in
    let number = own_number table ps numbers i p have there in
    let within = slice_get_within ps i p there in
    let here : get_or ps i p ≡ p = same_Some (get_or ps i p) p (sym (slice_get-get_or ps i p within) ∙ there) in
    let longer : take i ps ++ p ∷ [] ≡ take (i + 1) ps = ap (λ (r : Pair). take i ps ++ r ∷ []) (sym here) ∙ sym (take_more ps i p within) in
    let made : keys ++ key_by n p ∷ [] ≡ new = ap (λ w. keys ++ w ∷ []) (sym own) ∙ sym is.1 in
    subst (AreKeys table new) longer (subst (λ l. AreKeys table l (take i ps ++ p ∷ [])) made (keys_push table keys (take i ps) so_far p n number))
keys_more table ps numbers i p keys new key false apart have there own so_far is =
    let number = own_number table ps numbers i p have there in
    let known = has_pair table keys (take i ps) so_far p (get_or numbers i 0) number (subst (Contains keys) own is.0) in
    let f = in_take ps i p known in
    let same = apart f.0 i p f.2 there in
    absurd (omega (arith, same, f.1))

-- what was found by its key
pub step_found : (parts : GraphParts) (bounds : Bounds) (table keys : List (List ℕ)) (pairs : List Pair) (p : Pair) (at to : ℕ) (q : Pair) (n : ℕ) → AreKeys table keys pairs → IsNextAlong parts bounds at p (Some q) → AreNumbered table q.context.frames n → slice_get keys to ≡ Some (key_by n q)
    → IsStepAlong parts bounds pairs p at (Some (record { edge = at; to = to }))
step_found parts bounds table keys pairs p at to q n are is number there = (refl, is.0, q, is.1, key_finds table keys pairs are q n number to there)

-- the number beside the pair of a place
pub place_number : (parts : GraphParts) (bounds : Bounds) (table : List (List ℕ)) (places : Places) (from : ℕ) (p : Pair) (n : ℕ) → ArePlaces parts bounds table places → slice_get places.pairs.items from ≡ Some p → slice_get places.numbers.items from ≡ Some n → AreNumbered table p.context.frames n
place_number parts bounds table places from p n are there number =
    let own = are.numbers.each from p there in
    let same : own.0 ≡ n = same_Some own.0 n (sym own.1 ∙ number) in
    subst (AreNumbered table p.context.frames) same own.2

-- the pair that follows is one of the places, and its key is there
pub place_has : (parts : GraphParts) (bounds : Bounds) (old new : List (List ℕ)) (places : Places) (from at : ℕ) (p q : Pair) (n : ℕ) → ArePlaces parts bounds old places → Extends old new → slice_get places.pairs.items from ≡ Some p → IsNextAlong parts bounds at p (Some q) → AreNumbered new q.context.frames n
    → Contains places.keys (key_by n q)
place_has parts bounds old new places from at p q n are more there is number =
    has_key new places.keys places.pairs.items (keys_stay old new places.keys places.pairs.items more are.keys) q n number
    (are.closed p (in_at places.pairs.items from p there) q (at, is.0, is.1))

pub place_step : (parts : GraphParts) (bounds : Bounds) (old new : List (List ℕ)) (places : Places) (from at to : ℕ) (p q : Pair) (n : ℕ) → ArePlaces parts bounds old places → Extends old new → IsNextAlong parts bounds at p (Some q) → AreNumbered new q.context.frames n → slice_get places.keys to ≡ Some (key_by n q)
    → IsStepAlong parts bounds places.pairs.items p at (Some (record { edge = at; to = to }))
place_step parts bounds old new places from at to p q n are more is number found =
    step_found parts bounds new places.keys places.pairs.items p at to q n (keys_stay old new places.keys places.pairs.items more are.keys) is number found

-- the places stay where the table grows
pub places_stay : (parts : GraphParts) (bounds : Bounds) (old new : List (List ℕ)) (places : Places) → Extends old new → ArePlaces parts bounds old places → ArePlaces parts bounds new places
places_stay parts bounds old new places more are = record {
  few = are.few;
  keys = keys_stay old new places.keys places.pairs.items more are.keys;
  numbers = numbers_stay old new places.pairs.items places.numbers.items more are.numbers;
  closed = are.closed;
}

-- ---- the steps of one pair

module _ (parts : GraphParts) (bounds : Bounds) (pairs : List Pair) (p : Pair) where
  pub no_steps : (ways : List ℕ) → AreStepsAlong parts bounds pairs p (take 0 ways) []
  no_steps ways = record { each = λ s i. absurd i; along = λ s i. absurd i; all = λ at h e q follows. absurd (omega (arith, h.1)); rising = none_rise }

  has_more : (steps : List Step) (step : Option Step) (at : ℕ) (q : Pair) → HasStep pairs steps at q → HasStep pairs (with_step steps step) at q
  has_more steps None at q h = h
  has_more steps (Some s) at q h = (h.0, in_left steps (s ∷ []) h.0 h.1, h.2, h.3)

  same_target : (at : ℕ) (d e : Edge) (q r : Pair) → FollowsWithin parts bounds at d p q → FollowsWithin parts bounds at e p r → q ≡ r
  same_target at d e q r one two = one_target parts bounds at d e p q r one two

  each_more : (steps : List Step) (step : Option Step) (at : ℕ) → ((s : Step) → IsIn steps s → LeadsWithin parts bounds pairs p s) → IsStepAlong parts bounds pairs p at step → (s : Step) → IsIn (with_step steps step) s → LeadsWithin parts bounds pairs p s
  each_more steps None at each is s i = each s i
  each_more steps (Some t) at each is s i =
      ⊎_elim (λ a. each s a)
      (λ b. ⊎_elim (λ e. subst (LeadsWithin parts bounds pairs p) e (is.1, is.2, subst (λ n. FollowsWithin parts bounds n is.1 p is.2) (sym is.0) is.3, is.4)) (λ none. absurd none) b)
      (in_parts steps (t ∷ []) s i)

  has_new : (steps : List Step) (step : Option Step) (at : ℕ) → IsStepAlong parts bounds pairs p at step → (e : Edge) (q : Pair) → FollowsWithin parts bounds at e p q → HasStep pairs (with_step steps step) at q
  has_new steps None at is e q follows = absurd (is e q follows)
  has_new steps (Some t) at is e q follows =
      let same = same_target at is.1 e is.2 q is.3 follows in
      (t, in_right steps (t ∷ []) t (inl refl), is.0, is.4 ∙ ap Some same)

  step_edge : (step : Option Step) (at : ℕ) → IsStepAlong parts bounds pairs p at step → (s : Step) → step ≡ Some s → s.edge ≡ at
  step_edge None at is s e = absurd (cc)
  step_edge (Some t) at is s e = let same : t ≡ s = same_Some t s e in ap (λ (x : Step). x.edge) (sym same) ∙ is.0

  along_more : (ways : List ℕ) (steps : List Step) (step : Option Step) (at : ℕ) → ((s : Step) → IsIn steps s → Contains ways s.edge) → IsStepAlong parts bounds pairs p at step → (s : Step) → IsIn (with_step steps step) s → Contains (ways ++ at ∷ []) s.edge
  along_more ways steps None at along is s i = Contains-append_left ways (at ∷ []) s.edge (along s i)
  along_more ways steps (Some t) at along is s i =
      ⊎_elim (λ a. Contains-append_left ways (at ∷ []) s.edge (along s a))
      (λ b. ⊎_elim (λ e. subst (λ n. Contains (ways ++ at ∷ []) n) (sym is.0 ∙ ap (λ (x : Step). x.edge) e) (Contains-push ways at)) (λ none. absurd none) b)
      (in_parts steps (t ∷ []) s i)

  pub steps_more : (ways : List ℕ) (i at : ℕ) (steps more : List Step) (step : Option Step) → IsStrictlyIncreasing ways → i < length ways → at ≡ get_or ways i 0 → AreStepsAlong parts bounds pairs p (take i ways) steps → IsStepAlong parts bounds pairs p at step → more ≡ with_step steps step
      → AreStepsAlong parts bounds pairs p (take (i + 1) ways) more
  steps_more ways i at steps more step rises within read so_far is added =
      let longer : take (i + 1) ways ≡ take i ways ++ at ∷ [] = take_more ways i 0 within ∙ ap (λ n. take i ways ++ n ∷ []) (sym read) in
      subst (AreStepsAlong parts bounds pairs p (take (i + 1) ways)) (sym added)
      (record {
        each = each_more steps step at so_far.each is;
        along = λ s h. subst (λ l. Contains l s.edge) (sym longer) (along_more (take i ways) steps step at so_far.along is s h);
        all = λ b h e q follows.
            ⊎_elim (λ old. has_more steps step b q (so_far.all b old e q follows))
            (λ same. subst (λ n. HasStep pairs (with_step steps step) n q) same (has_new steps step at is e q (subst (λ n. FollowsWithin parts bounds n e p q) (sym same) follows)))
            (Contains-push_cases (take i ways) at b (subst (λ l. Contains l b) longer h));
        rising = rising_more ways i steps step rises within so_far.along (λ s e. step_edge step at is s e ∙ read) so_far.rising;
      })

  pub all_steps : (ways shown : List ℕ) (steps : List Step) → shown ≡ ways → AreWays parts p ways → AreStepsAlong parts bounds pairs p shown steps → AreStepsTo parts bounds pairs p steps
  all_steps ways shown steps same are along = record { each = along.each; all = λ at e q follows. along.all at (subst (λ l. Contains l at) (sym same) (are at e q follows.follows)) e q follows; rising = along.rising }

-- ---- all pairs

pub record AreRowsBelow (parts : GraphParts) (bounds : Bounds) (pairs : List Pair) (i : ℕ) (rows : List (List Step)) : Type 0 where
  pub long : length rows ≡ i
  pub each : (k : ℕ) (p : Pair) (row : List Step) → slice_get pairs k ≡ Some p → slice_get rows k ≡ Some row → AreStepsTo parts bounds pairs p row

module _ (parts : GraphParts) (bounds : Bounds) (pairs : List Pair) where
  pub no_rows : AreRowsBelow parts bounds pairs 0 []
  no_rows = record { long = refl; each = λ k p row e r. absurd (cc) }

  pub rows_more : (i : ℕ) (rows new : List (List Step)) (p : Pair) (row : List Step) → slice_get pairs i ≡ Some p → AreRowsBelow parts bounds pairs i rows → AreStepsTo parts bounds pairs p row → new ≡ rows ++ row ∷ [] → AreRowsBelow parts bounds pairs (i + 1) new
  rows_more i rows new p row there so_far steps pushed =
      let long = length-append rows (row ∷ []) in
      let old = so_far.long in
      subst (AreRowsBelow parts bounds pairs (i + 1)) (sym pushed)
      (record {
        long = omega arith;
        each = λ k q r e f.
            ⊎_elim (λ before. so_far.each k q r e before)
            (λ last.
            let place : k ≡ i = last.0 ∙ old in
            let same : p ≡ q = same_Some p q (sym there ∙ sym (ap (slice_get pairs) place) ∙ e) in
            subst (λ x. AreStepsTo parts bounds pairs x r) same (subst (AreStepsTo parts bounds pairs p) last.1 steps))
            (push_cases rows row k r f);
      })

  pub rows_all : (i : ℕ) (rows : List (List Step)) → i ≡ length pairs → AreRowsBelow parts bounds pairs i rows → AreRows parts bounds pairs rows
  rows_all i rows e so_far = record { long = so_far.long ∙ e; each = so_far.each }

module _ (parts : GraphParts) (bounds : Bounds) where
  onward_in : (ps : List Pair) (p q : Pair) → IsOrdered parts bounds ps → IsIn ps p → IsNextWithin parts bounds p q → IsIn ps q
  onward_in [] p q h i n = absurd i
  onward_in (r ∷ ps) p q h i n =
      ⊎_elim (λ e. inr (h.1 q (subst (λ x. IsNextWithin parts bounds x q) (sym e) n))) (λ t. inr (onward_in ps p q h.2 t n)) i

  onward : (ps : List Pair) (i : ℕ) (p q : Pair) → IsOrdered parts bounds ps → slice_get ps i ≡ Some p → IsNextWithin parts bounds p q → (j : ℕ) × (i < j) × (slice_get ps j ≡ Some q)
  onward [] i p q h e n = absurd (cc)
  onward (r ∷ ps) zero p q h e n =
      let same : r ≡ p = same_Some r p e in
      let place = place_of ps q (h.1 q (subst (λ x. IsNextWithin parts bounds x q) (sym same) n)) in
      (suc place.0, omega arith, place.2)
  onward (r ∷ ps) (suc i) p q h e n = let o = onward ps i p q h.2 e n in (suc o.0, omega (arith, o.1), o.2)

  pub stays_among : (f : Function) (pairs : List Pair) → AreInOrder parts bounds f pairs → (p : Pair) → IsIn pairs p → StaysAmong parts bounds pairs p
  stays_among f pairs o p i q n = onward_in pairs p q o.ordered i n

  pub in_order_apart : (f : Function) (pairs : List Pair) → AreInOrder parts bounds f pairs → AreDistinct pairs
  in_order_apart f pairs o = apart_places pairs (ordered_apart parts bounds pairs o.ordered)

  pub reached_all : (f : Function) (pairs : List Pair) (rows : List (List Step)) → AreInOrder parts bounds f pairs → AreRows parts bounds pairs rows → AreReached parts bounds f pairs rows
  reached_all f pairs rows o r =
      let apart = in_order_apart f pairs o in
      record {
        first = o.first;
        distinct = apart;
        reached = λ i p e. o.reached p (in_at pairs i p e);
        rows = r.long;
        leading = λ i p row ep er.
            let steps = r.each i p row ep er in
            record {
              each = λ k s es.
                  let l = steps.each s (in_at row k s es) in
                  let j = onward pairs i p l.1 o.ordered ep (s.edge, l.0, l.2) in
                  let same = apart s.to j.0 l.1 l.3 j.2 in
                  let far = j.1 in
                  record { later = omega arith; edge = l.0; target = l.1; there = l.3; follows = l.2 };
              all = λ at e q follows.
                  let h = steps.all at e q follows in
                  let place = place_of row h.0 h.1 in
                  (place.0, h.0, place.2, h.2, h.3);
              rising = steps.rising;
            };
      }

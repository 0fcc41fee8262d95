-- Rows of an agenda, into which arrivals are put.
use Rattle.std.proofs.Common.{◌≡◌, ◌⊎◌, ℕ, zero, suc, ◌+◌, ◌<◌, ◌≤◌, Bool, cond, List, [], ◌∷◌, ◌++◌, length, length-append, take, drop, set, Some, refl, sym, ap, subst, ◌∙◌, inl, inr, ⊎_elim, arith}
use Rattle.std.specs.Prelude.{◌==◌, count_by, if◌then◌else◌, slice_get, sum_by}
use Rattle.std.proofs.lemmas.Bool.{cases_eq, eq-eqb, ne_eqb}
use Rattle.std.proofs.Math.Seq.{take-append_seam}
use Rattle.std.proofs.lemmas.List.{length-set, take_all}
use Rattle.std.proofs.lemmas.List.Sums.{sum_by-cons, sum_by-set}
use Rattle.std.proofs.lemmas.Option.{get_or_from_slice_get, same_Some, slice_get_within}
use Rattle.cfa.proofs.Eaches.{element_at}
use Rattle.c_meaning.proofs.Slices.{slice_get_front, slice_get_kept, slice_get_last, slice_get_push, take_take}
use Rattle.unwinder_reach.specs.declared.reached.step.Step.{Step}
use Rattle.unwinder.specs.declared.arrival.Arrival.{Arrival}
use Rattle.unwinder.specs.Putting.{PutCounts, PutFrom}

module _ {X : Type 0} where
  pub get_set : (xs : List X) (i : ℕ) (x : X) → i < length xs → slice_get (set xs i x) i ≡ Some x
  get_set [] i x lt = absurd (omega (arith, lt))
  get_set (y ∷ xs) zero x lt = refl
  get_set (y ∷ xs) (suc i) x lt = get_set xs i x (omega (arith, lt))

  pub get_other : (xs : List X) (i j : ℕ) (x : X) → (j ≡ i → ⊥) → slice_get (set xs i x) j ≡ slice_get xs j
  get_other [] i j x ne = refl
  get_other (y ∷ xs) zero zero x ne = absurd (ne refl)
  get_other (y ∷ xs) zero (suc j) x ne = refl
  get_other (y ∷ xs) (suc i) zero x ne = refl
  get_other (y ∷ xs) (suc i) (suc j) x ne = get_other xs i j x (λ e. ne (ap suc e))

pub put_none : (rows : List (List Arrival)) (steps : List Step) (onward : List Arrival) (i : ℕ) → length onward ≤ i → PutFrom rows rows steps onward i
put_none rows steps onward i le = record {
  rows = refl;
  number = λ m. m;
  kept = λ j l row a e k. (row, e, k);
  put = λ m s a from e k. let lt = slice_get_within onward m a k in absurd (omega (arith, lt, le, from));
  only = λ j l more a e k. inl (more, e, k);
}

module _ (old new : List (List Arrival)) (steps : List Step) (onward : List Arrival) (i : ℕ) (s : Step) (a : Arrival) (row : List Arrival) (h : PutFrom old new steps onward (i + 1)) (s_is : slice_get steps i ≡ Some s) (a_is : slice_get onward i ≡ Some a) (row_is : slice_get new s.to ≡ Some row) where
  abbrev after : List (List Arrival)
  after = set new s.to (row ++ a ∷ [])

  within : s.to < length new
  within = slice_get_within new s.to row row_is

  abbrev number_after : ℕ → ℕ
  number_after m = if m == i then length row else h.number m

  number_here : number_after i ≡ length row
  number_here = ap (λ b. cond b (length row) (h.number i)) (eq-eqb i i refl)

  number_other : (m : ℕ) → (m ≡ i → ⊥) → number_after m ≡ h.number m
  number_other m ne = ap (λ b. cond b (length row) (h.number m)) (ne_eqb m i ne)

  -- what a row had it has still
  stays : (j l : ℕ) (more : List Arrival) (b : Arrival) → slice_get new j ≡ Some more → slice_get more l ≡ Some b → (now : List Arrival) × (slice_get after j ≡ Some now) × (slice_get now l ≡ Some b)
  stays j l more b e k =
      ⊎_elim
      (λ here.
      let same : more ≡ row = same_Some more row (sym e ∙ ap (slice_get new) here ∙ row_is) in
      let there : slice_get row l ≡ Some b = subst (λ (r : List Arrival). slice_get r l ≡ Some b) same k in
      (row ++ a ∷ [], ap (slice_get after) here ∙ get_set new s.to (row ++ a ∷ []) within, slice_get_front row (a ∷ []) l (slice_get_within row l b there) ∙ there))
      (λ other. (more, get_other new s.to j (row ++ a ∷ []) other ∙ e, k))
      (cases_eq j s.to)

  put_now : (m : ℕ) (t : Step) (b : Arrival) → i ≤ m → slice_get steps m ≡ Some t → slice_get onward m ≡ Some b → (more : List Arrival) × (slice_get after t.to ≡ Some more) × (slice_get more (number_after m) ≡ Some b)
  put_now m t b le e k =
      ⊎_elim
      (λ here.
      let same_step : t ≡ s = same_Some t s (sym e ∙ ap (slice_get steps) here ∙ s_is) in
      let same_arrival : b ≡ a = same_Some b a (sym k ∙ ap (slice_get onward) here ∙ a_is) in
      let place : number_after m ≡ length row = ap number_after here ∙ number_here in
      (row ++ a ∷ [], ap (λ (q : Step). slice_get after q.to) same_step ∙ get_set new s.to (row ++ a ∷ []) within, ap (slice_get (row ++ a ∷ [])) place ∙ slice_get_last row a ∙ ap Some (sym same_arrival)))
      (λ other.
      let before = h.put m t b (omega (arith, le, other)) e k in
      let now = stays t.to (h.number m) before.0 b before.1 before.2 in
      (now.0, now.1, ap (slice_get now.0) (number_other m other) ∙ now.2))
      (cases_eq m i)

  abbrev Came : ℕ → ℕ → Arrival → Type 0
  Came j l b = ((r : List Arrival) × (slice_get old j ≡ Some r) × (slice_get r l ≡ Some b)) ⊎ ((m : ℕ) × (t : Step) × (slice_get steps m ≡ Some t) × (slice_get onward m ≡ Some b) × (j ≡ t.to) × (l ≡ number_after m) × (i ≤ m))

  from_before : (j l : ℕ) (more : List Arrival) (b : Arrival) → slice_get new j ≡ Some more → slice_get more l ≡ Some b → Came j l b
  from_before j l more b e k =
      ⊎_elim
      (λ before. inl before)
      (λ came. let least = came.6 in inr (came.0, came.1, came.2, came.3, came.4, came.5 ∙ sym (number_other came.0 (λ same. omega (arith, least, same))), omega (arith, least)))
      (h.only j l more b e k)

  came : (j l : ℕ) (more : List Arrival) (b : Arrival) → slice_get after j ≡ Some more → slice_get more l ≡ Some b → Came j l b
  came j l more b e k =
      ⊎_elim
      (λ here.
      let same : more ≡ row ++ a ∷ [] = same_Some more (row ++ a ∷ []) (sym e ∙ ap (slice_get after) here ∙ get_set new s.to (row ++ a ∷ []) within) in
      let there : slice_get (row ++ a ∷ []) l ≡ Some b = subst (λ (r : List Arrival). slice_get r l ≡ Some b) same k in
      ⊎_elim
      (λ before. from_before j l row b (ap (slice_get new) here ∙ row_is) before.1)
      (λ last. inr (i, s, s_is, a_is ∙ ap Some (sym last.1), here, last.0 ∙ sym number_here, omega arith))
      (slice_get_push row a l b there))
      (λ other. from_before j l more b (sym (get_other new s.to j (row ++ a ∷ []) other) ∙ e) k)
      (cases_eq j s.to)

  pub put_more : PutFrom old after steps onward i
  put_more = record {
    rows = length-set new s.to (row ++ a ∷ []) ∙ h.rows;
    number = number_after;
    kept = λ j l r b e k. let before = h.kept j l r b e k in stays j l before.0 b before.1 before.2;
    put = put_now;
    only = came;
  }

-- ---- how many

abbrev pub lengths : List (List Arrival) → ℕ
lengths rows = sum_by (λ (r : List Arrival). length r) rows

abbrev pub leads_to : ℕ → Step → Bool
leads_to j s = s.to == j

pub counts_none : (rows : List (List Arrival)) (steps : List Step) (onward : List Arrival) (i : ℕ) → length onward ≤ i → PutCounts rows rows steps onward i
counts_none rows steps onward i le = record {
  few = λ j row more e k. let same : row ≡ more = same_Some row more (sym e ∙ k) in omega (arith, ap length same);
  total = omega (arith, le);
}

drop_step : (steps : List Step) (i : ℕ) (s : Step) → slice_get steps i ≡ Some s → drop i steps ≡ s ∷ drop (i + 1) steps
drop_step [] i s e = absurd cc
drop_step (t ∷ steps) zero s e = let same : t ≡ s = cc in ap (λ q. q ∷ steps) same
drop_step (t ∷ steps) (suc i) s e = let same_place : suc (i + 1) ≡ suc i + 1 = omega arith in drop_step steps i s e ∙ ap (λ n. s ∷ drop n (t ∷ steps)) same_place

count_step : (steps : List Step) (i j : ℕ) (s : Step) → slice_get steps i ≡ Some s → count_by (leads_to j) (drop i steps) ≡ cond (s.to == j) 1 0 + count_by (leads_to j) (drop (i + 1) steps)
count_step steps i j s e = ap (count_by (leads_to j)) (drop_step steps i s e) ∙ sum_by-cons (λ (q : Step). cond (leads_to j q) 1 0) s (drop (i + 1) steps)

pub counts_more : (old new : List (List Arrival)) (steps : List Step) (onward : List Arrival) (i : ℕ) (s : Step) (a : Arrival) (row : List Arrival) → PutCounts old new steps onward (i + 1) → length new ≡ length old → slice_get steps i ≡ Some s → i < length onward → slice_get new s.to ≡ Some row → PutCounts old (set new s.to (row ++ a ∷ [])) steps onward i
counts_more old new steps onward i s a row h rows s_is lt row_is = record {
  few = λ j first more e k.
      let count = count_step steps i j s s_is in
      ⊎_elim
      (λ here.
      let digit : Bool → ℕ = λ b. cond b 1 0 in
      let one : digit (s.to == j) ≡ 1 = ap digit (eq-eqb s.to j (sym here)) in
      let same : more ≡ row ++ a ∷ [] = same_Some more (row ++ a ∷ []) (sym k ∙ ap (slice_get (set new s.to (row ++ a ∷ []))) here ∙ get_set new s.to (row ++ a ∷ []) (slice_get_within new s.to row row_is)) in
      let before = h.few j first row e (ap (slice_get new) here ∙ row_is) in
      omega (arith, count, one, before, ap length same, length-append row (a ∷ [])))
      (λ other.
      let before = h.few j first more e (sym (get_other new s.to j (row ++ a ∷ []) other) ∙ k) in
      omega (arith, count, before))
      (cases_eq j s.to);
  total =
      let set_total = sum_by-set (λ (r : List Arrival). length r) new s.to (row ++ a ∷ []) row (slice_get_within new s.to row row_is) in
      let read = ap (λ (r : List Arrival). length r) (get_or_from_slice_get new s.to row row row_is) in
      let before = h.total in
      omega (arith, set_total, read, before, lt, length-append row (a ∷ []));
}

-- those behind the first so many were put
pub record PutSoFar (old new : List (List Arrival)) (steps : List Step) (onward left : List Arrival) : Type 0 where
  pub few : length left ≤ length onward
  pub front : take (length left) onward ≡ left
  pub put : PutFrom old new steps onward (length left)
  pub counts : PutCounts old new steps onward (length left)

pub put_begins : (rows : List (List Arrival)) (steps : List Step) (onward : List Arrival) → PutSoFar rows rows steps onward onward
put_begins rows steps onward = record {
  few = omega arith;
  front = take_all (length onward) onward (omega arith);
  put = put_none rows steps onward (length onward) (omega arith);
  counts = counts_none rows steps onward (length onward) (omega arith);
}

pub put_goes_on : (old new after : List (List Arrival)) (steps : List Step) (onward before left : List Arrival) (s : Step) (a : Arrival) → PutSoFar old new steps onward before → length onward ≡ length steps → ((k : ℕ) (t : Step) → slice_get steps k ≡ Some t → t.to < length old) → before ≡ left ++ a ∷ [] → slice_get steps (length left) ≡ Some s
    → ((row : List Arrival) → slice_get new s.to ≡ Some row → after ≡ set new s.to (row ++ a ∷ [])) → PutSoFar old after steps onward left
put_goes_on old new after steps onward before left s a h same places is s_is made =
    let long : length before ≡ length left + 1 = ap length is ∙ length-append left (a ∷ []) in
    let few = h.few in
    let put : PutFrom old new steps onward (length left + 1) = subst (PutFrom old new steps onward) long h.put in
    let counts : PutCounts old new steps onward (length left + 1) = subst (PutCounts old new steps onward) long h.counts in
    let rows = put.rows in
    let row = element_at new s.to (let lt = places (length left) s s_is in omega (arith, lt, rows)) in
    let a_is : slice_get onward (length left) ≡ Some a = sym (slice_get_kept (length before) onward (length left) (omega arith)) ∙ ap (λ (xs : List Arrival). slice_get xs (length left)) (h.front ∙ is) ∙ slice_get_last left a in
    let now = made row.0 row.1 in
    record {
      few = omega (arith, long, few);
      front = take_front;
      put = subst (λ rs. PutFrom old rs steps onward (length left)) (sym now) (put_more old new steps onward (length left) s a row.0 put s_is a_is row.1);
      counts = subst (λ rs. PutCounts old rs steps onward (length left)) (sym now) (counts_more old new steps onward (length left) s a row.0 counts rows s_is (slice_get_within onward (length left) a a_is) row.1);
    }
  where
    take_front : take (length left) onward ≡ left
    take_front =
        let long : length before ≡ length left + 1 = ap length is ∙ length-append left (a ∷ []) in
        sym (take_take (length left) (length before) onward (omega arith)) ∙ ap (take (length left)) (h.front ∙ is) ∙ take-append_seam left (a ∷ [])

-- What is kept from place to place.
use Rattle.std.proofs.Common.{◌≡◌, ◌⊎◌, ℕ, zero, suc, ◌+◌, ◌-◌, ◌*◌, ◌<◌, ◌≤◌, ◌^◌, Bool, true, false, cond, List, [], ◌∷◌, ◌++◌, length, length-append, map, take, set, Some, None, refl, sym, ap, subst, ◌∙◌, inl, inr, ⊎_elim, arith}
use Rattle.std.specs.Prelude.{All, ◌==◌, count_by, slice_get, slice_index, slice_index_or}
use Rattle.std.proofs.Math.Nat.{mul-le-mul, mul-le-mul_left}
use Rattle.std.proofs.lemmas.Bool.{cases_eq, ne_eqb}
use Rattle.std.proofs.lemmas.List.{length-map, length-set}
use Rattle.std.proofs.lemmas.List.Sums.{sum_by-set, sum_by-take-le}
use Rattle.std.proofs.lemmas.Option.{get_or_from_slice_get, same_Some, slice_get-get_or, slice_get_within}
use Rattle.circuit.specs.Bits.{bits_stay}
use Rattle.circuit.specs.Truth.{World}
use Rattle.circuit.specs.Wires.{IsWire}
use Rattle.circuit.specs.declared.lit.Gate.{Gate}
use Rattle.circuit.specs.declared.lit.Lit.{Lit}
use Rattle.bit_words.specs.Words.{Grows}
use Rattle.bit_words.proofs.Steps.{grows_then, same, still}
use Rattle.cfa.specs.declared.parts.Function.{Function}
use Rattle.cfa.specs.declared.parts.GraphParts.{GraphParts}
use Rattle.cfa.specs.declared.state.Predicates.{Predicates}
use Rattle.cfa.specs.Contexts.{Pair}
use Rattle.cfa.specs.Graph.{IsGraph}
use Rattle.cfa.specs.Predicates.{IsPredicates}
use Rattle.cfa.proofs.Eaches.{element_at}
use Rattle.c_meaning.specs.declared.ends.Ends.{Ends}
use Rattle.c_meaning.specs.declared.input.Input.{Input}
use Rattle.unwinder.specs.input_words.Worlds.{world_of}
use Rattle.unwinder_reach.specs.declared.reached.bounds.Bounds.{Bounds}
use Rattle.unwinder_reach.specs.declared.reached.step.Step.{Step}
use Rattle.unwinder_reach.specs.reached.Reaching.{AreReached, AreSteps}
use Rattle.sym_expr.proofs.ElementLemmas.{cells_later, cells_still}
use Rattle.sym_expr.specs.sym_steps.Steps.{Agrees}
use Rattle.unwinder_reach.specs.unwinding_size.Sizes.{pair_weight, pairs_weight, size_sum, steps_into, store_cells}
use Rattle.unwinder.specs.declared.arrival.Arrival.{Arrival}
use Rattle.unwinder.specs.declared.unwound.Entry.{Entry}
use Rattle.unwinder.specs.Agenda.{AreArrivals, IsArrival, Puts, Stands, entry_at}
use Rattle.unwinder.specs.Lists.{IsInputFor}
use Rattle.unwinder.specs.Meeting.{cells_at, cells_from}
use Rattle.unwinder.specs.Place.{most_place_wires}
use Rattle.unwinder.specs.Putting.{PutFrom}
use Rattle.unwinder.specs.Progress.{CanTake, CanUnwind, TakesPlace, Unwinds, step_count, waiting}
use Rattle.unwinder.specs.Unwinding.{IsEntry, StartsFirst}
use Rattle.unwinder.proofs.AgendaLaws.{get_other, get_set, leads_to}
use Rattle.unwinder.proofs.FewSteps.{few_steps}
use Rattle.unwinder.proofs.Meetings.{sym_later}
use Rattle.unwinder.proofs.Standing as standing
use Rattle.unwinder.proofs.Standing.{IsTaken}
use Rattle.unwinder.proofs.Weights.{sum_more, weight_more, weight_part}

-- ---- parts that stay

-- a way is one still, over a circuit that has grown
arrival_later : (parts : GraphParts) (entry : ℕ) (old new : List Gate) (most : ℕ) (p : Pair) (a : Arrival) → Grows old new most → IsArrival parts entry old p a → IsArrival parts entry new p a
arrival_later parts entry old new most p a g h = record {
  guard = still g a.guard h.guard;
  opened = λ s is. sym_later parts entry old new most p s g (h.opened s is);
  closed = λ none w. same g a.guard h.guard w ∙ h.closed none w;
}

entry_later : (predicates : Predicates) (old new : List Gate) (most : ℕ) (e : Entry) → Grows old new most → IsEntry predicates old e → IsEntry predicates new e
entry_later predicates old new most e g h = record {
  guard = still g e.guard h.guard;
  ended = still g e.ended h.ended;
  truths = bits_stay e.predicates g.older h.truths;
  count = h.count;
}

-- an element of two lists is one of the first or of the second
one_of : {X : Type 0} (xs ys : List X) (i : ℕ) (x : X) → slice_get (xs ++ ys) i ≡ Some x → (slice_get xs i ≡ Some x) ⊎ ((k : ℕ) × (slice_get ys k ≡ Some x) × (i ≡ length xs + k))
one_of [] ys i x e = inr (i, e, omega arith)
one_of (y ∷ xs) ys zero x e = inl e
one_of (y ∷ xs) ys (suc i) x e = ⊎_elim (λ old. inl old) (λ came. let at = came.2 in inr (came.0, came.1, omega arith)) (one_of xs ys i x e)

made_from : {X Y : Type 0} (f : X → Y) (xs : List X) (i : ℕ) (y : Y) → slice_get (map f xs) i ≡ Some y → (x : X) × (slice_get xs i ≡ Some x) × (f x ≡ y)
made_from f [] i y e = absurd cc
made_from f (x ∷ xs) zero y e = (x, refl, same_Some (f x) y e)
made_from f (x ∷ xs) (suc i) y e = made_from f xs i y e

-- the rows other than that of the place are as they were before arrivals are put
puts_from : (n : ℕ) (agenda after : List (List Arrival)) (steps : List Step) (onward : List Arrival) → length onward ≡ length steps → PutFrom (set agenda n []) after steps onward 0 → Puts n agenda after steps onward
puts_from n agenda after steps onward long h = record {
  long = long;
  rows = h.rows ∙ length-set agenda n [];
  number = h.number;
  kept = λ i l row a lt e k. h.kept i l row a (get_other agenda n i [] (λ same_place. omega (arith, lt, same_place)) ∙ e) k;
  put = λ m s a e k. h.put m s a (omega arith) e k;
  only = λ i l more a lt e k. ⊎_elim
      (λ old. inl (old.0, sym (get_other agenda n i [] (λ same_place. omega (arith, lt, same_place))) ∙ old.1, old.2))
      (λ came. inr (came.0, came.1, came.2, came.3, came.4, came.5))
      (h.only i l more a e k);
}

-- ---- one place more

merge_split : (cells ways : ℕ) → (256 * cells + 1) * ways ≡ 256 * (cells * ways) + ways
merge_split cells ways = grind arith

mul-suc-right : (k n : ℕ) → k * (n + 1) ≡ k * n + k
mul-suc-right k n = grind arith

abbrev digit : Bool → ℕ
digit b = cond b 1 0

digit_small : (b : Bool) → digit b ≤ 1
digit_small true = omega arith
digit_small false = omega arith

no_element : {X : Type 0} (xs : List X) → ((l : ℕ) (x : X) → slice_get xs l ≡ Some x → ⊥) → xs ≡ []
no_element [] h = refl
no_element (x ∷ xs) h = absurd (h 0 x refl)

-- a row that is emptied has no ways of those that are waiting
emptied_count : (agenda : List (List Arrival)) (n : ℕ) (row : List Arrival) → slice_get agenda n ≡ Some row → waiting (set agenda n []) + length row ≡ waiting agenda
emptied_count agenda n row e =
    let whole = sum_by-set (λ (r : List Arrival). length r) agenda n [] row (slice_get_within agenda n row e) in
    let read = ap (λ (r : List Arrival). length r) (get_or_from_slice_get agenda n row row e) in
    omega (arith, whole, read)

-- ---- the wires of a place

module _ (parts : GraphParts) (predicates : Predicates) (f : Function) (entry : ℕ) (bounds : Bounds) (ends : Ends) (pairs : List Pair) (steps : List (List Step)) (first : List Gate) (n : ℕ) (now : List Gate) (entries : List Entry) (agenda : List (List Arrival)) (p : Pair) (ways : List Step) (row : List Arrival)
    (own : slice_get parts.functions entry ≡ Some f) (row_is : slice_get agenda n ≡ Some row)
    (u : Unwinds parts predicates f entry bounds ends pairs steps first n now entries agenda) where
  -- ways are merged at a place, one fewer than lead there
  merged : length row - 1 ≤ steps_into steps n - 1
  merged =
      let few = u.few n row (omega arith) row_is in
      let part = sum_by-take-le (λ (r : List Step). count_by (leads_to n) r) steps n in
      ⊎_elim
      (λ zero_place.
      let none : steps_into (take n steps) n ≡ 0 = ap (λ m. steps_into (take m steps) n) zero_place in
      let small = digit_small (n == 0) in
      omega (arith, few, none, small))
      (λ other.
      let no : digit (n == 0) ≡ 0 = ap digit (ne_eqb n 0 other) in
      omega (arith, few, no, part))
      (cases_eq n 0)

  cells_are : cells_at parts entry p ≡ store_cells parts f p.context
  cells_are = ap (λ o. cells_from parts o p) own

  pub place_wires : most_place_wires parts predicates entry p (length row) (length ways) ≤ 32 * pair_weight parts predicates f steps n p + (65 * length predicates.meanings + 71) + (length row - 1) + length ways
  place_wires =
      let cells = cells_are in
      let same : (256 * cells_at parts entry p + 1) * (length row - 1) ≡ (256 * store_cells parts f p.context + 1) * (length row - 1) = ap (λ c. (256 * c + 1) * (length row - 1)) cells in
      let split : (256 * store_cells parts f p.context + 1) * (length row - 1) ≡ 256 * (store_cells parts f p.context * (length row - 1)) + (length row - 1) = merge_split (store_cells parts f p.context) (length row - 1) in
      let product : store_cells parts f p.context * (length row - 1) ≤ store_cells parts f p.context * (steps_into steps n - 1) = mul-le-mul_left (store_cells parts f p.context) merged in
      omega (arith, same, split, product)

-- ---- what is so behind it

module _ (parts : GraphParts) (predicates : Predicates) (f : Function) (entry : ℕ) (bounds : Bounds) (ends : Ends) (pairs : List Pair) (steps : List (List Step)) (answers : List (List Lit)) (first : List Gate) (n : ℕ) (now new : List Gate) (entries after : List Entry) (agenda left : List (List Arrival)) (p : Pair) (ways : List Step)
    (g : IsGraph parts) (own : slice_get parts.functions entry ≡ Some f) (reached : AreReached parts bounds f pairs steps) (wires : All (All (IsWire first)) answers)
    (agree : (x : Input) → IsInputFor f x → (number : ℕ) → number < bounds.answers → Agrees first answers (world_of f.parameters bounds.answers x) x number)
    (pair_is : slice_get pairs n ≡ Some p) (ways_are : slice_get steps n ≡ Some ways)
    (u : Unwinds parts predicates f entry bounds ends pairs steps first n now entries agenda)
    (t : TakesPlace parts predicates entry ends answers n now new p ways entries after agenda left) where
  abbrev puts : Puts n agenda left ways t.place.onward
  puts = puts_from n agenda left ways t.place.onward t.is.long t.put

  steps_of : AreSteps parts bounds pairs n p ways
  steps_of = reached.leading n p ways pair_is ways_are

  made_entry : (i : ℕ) (e : Entry) → slice_get t.place.entries i ≡ Some e → IsEntry predicates new e
  made_entry i e there =
      let from = made_from (entry_at p.node t.is.truths t.is.ended) t.row i e (ap (λ es. slice_get es i) (sym t.is.entries) ∙ there) in
      let way = u.arrivals n i t.row from.0 p (omega arith) t.row_is from.1 pair_is in
      subst (IsEntry predicates new) from.2 (record { guard = still t.grows from.0.guard way.guard; ended = t.is.ended_wire; truths = t.is.truth_wires; count = t.is.truth_count })

  entries_now : (i : ℕ) (e : Entry) → slice_get after i ≡ Some e → IsEntry predicates new e
  entries_now i e there =
      ⊎_elim
      (λ old. entry_later predicates now new _ e t.grows (u.entries_are i e old))
      (λ came. made_entry came.0 e came.1)
      (one_of entries t.place.entries i e (ap (λ es. slice_get es i) (sym t.entries) ∙ there))

  arrivals_now : AreArrivals parts entry new pairs left (n + 1)
  arrivals_now i l row a q le e k there =
      ⊎_elim
      (λ old. arrival_later parts entry now new _ q a t.grows (u.arrivals i l old.0 a q (omega (arith, le)) old.1 old.2 there))
      (λ came.
      let on = steps_of.each came.0 came.1 came.2 in
      let same : on.target ≡ q = same_Some on.target q (sym on.there ∙ ap (slice_get pairs) (sym came.4) ∙ there) in
      subst (λ r. IsArrival parts entry new r a) same (t.is.onward came.0 came.1 a on.edge on.target came.2 came.3 on.follows.follows))
      (puts.only i l row a (omega (arith, le)) e k)

  taken_is : IsTaken parts predicates f entry bounds ends pairs steps answers n now new entries agenda left p t.is.truths t.is.ended
  taken_is = record {
    most = most_place_wires parts predicates entry p (length t.row) (length ways);
    grows = t.grows;
    entries_are = u.entries_are;
    arrivals = u.arrivals;
    rows = u.rows;
    row = t.row;
    row_is = t.row_is;
    pair_is = pair_is;
    ways = ways;
    ways_are = ways_are;
    onward = t.place.onward;
    puts = puts;
    takes = t.is.takes;
  }

  stands_now : (x : Input) → IsInputFor f x → Stands parts predicates f bounds ends pairs new after left (n + 1) x
  unfolding taken_is
  stands_now x given =
      let w : World = world_of f.parameters bounds.answers x in
      let agree_now : (number : ℕ) → number < bounds.answers → Agrees now answers w x number = λ number lt. ap (λ cells. slice_index cells number) (cells_later u.grows answers wires w) ∙ agree x given number lt in
      let stood = standing.stands_on parts predicates f entry bounds ends pairs steps answers n now new entries agenda left p t.is.truths t.is.ended taken_is g own reached x given agree_now (u.stands x given) in
      let same : entries ++ map (entry_at p.node t.is.truths t.is.ended) t.row ≡ after = ap (λ es. entries ++ es) (sym t.is.entries) ∙ sym t.entries in
      subst (λ es. Stands parts predicates f bounds ends pairs new es left (n + 1) x) same stood

  -- no entry that is made has no edge, but where the first place is taken, into which one way leads
  starts_now : StartsFirst after
  starts_now i e there none =
      ⊎_elim
      (λ old. u.starts i e old none)
      (λ came.
      let from = made_from (entry_at p.node t.is.truths t.is.ended) t.row came.0 e (ap (λ es. slice_get es came.0) (sym t.is.entries) ∙ came.1) in
      let first = u.edged n came.0 t.row from.0 (omega arith) t.row_is from.1 (ap (λ (x : Entry). x.edge) from.2 ∙ none) in
      let no_step : step_count (take n steps) ≡ 0 = ap (λ m. step_count (take m steps)) first.0 in
      let within = slice_get_within t.row came.0 from.0 from.1 in
      let count = u.count in
      let removed = emptied_count agenda n t.row t.row_is in
      let at = came.2 in
      omega (arith, no_step, within, count, removed, at))
      (one_of entries t.place.entries i e (ap (λ es. slice_get es i) (sym t.entries) ∙ there))

  edged_now : (j l : ℕ) (row : List Arrival) (a : Arrival) → n + 1 ≤ j → slice_get left j ≡ Some row → slice_get row l ≡ Some a → a.edge ≡ None → (n + 1 ≡ 0) × (j ≡ 0)
  edged_now j l row a le e k none =
      ⊎_elim
      (λ old. let first = u.edged j l old.0 a (omega (arith, le)) old.1 old.2 none in let at = first.1 in absurd (omega (arith, le, at)))
      (λ came. let edge : Some came.1.edge ≡ None = sym (t.is.edges came.0 came.1 a came.2 came.3) ∙ none in absurd cc)
      (puts.only j l row a (omega (arith, le)) e k)

  -- no way is put where places are taken
  none_put : (i : ℕ) (row : List Arrival) → i < n + 1 → slice_get left i ≡ Some row → (l : ℕ) (a : Arrival) → slice_get row l ≡ Some a → ⊥
  none_put i row lt e l a k =
      ⊎_elim
      (λ old.
      let here : i ≡ n → ⊥ = λ same. let empty = same_Some old.0 [] (sym old.1 ∙ ap (slice_get (set agenda n [])) same ∙ get_set agenda n [] (slice_get_within agenda n t.row t.row_is)) in let none : None ≡ Some a = ap (λ (r : List Arrival). slice_get r l) (sym empty) ∙ old.2 in absurd cc in
      let empty = u.emptied i old.0 (omega (arith, lt, here)) (sym (get_other agenda n i [] here) ∙ old.1) in
      let none : None ≡ Some a = ap (λ (r : List Arrival). slice_get r l) (sym empty) ∙ old.2 in
      absurd cc)
      (λ came. let later = (steps_of.each came.0 came.1 came.2).later in omega (arith, later, came.4, lt))
      (t.put.only i l row a e k)

  few_now : (j : ℕ) (row : List Arrival) → n + 1 ≤ j → slice_get left j ≡ Some row → length row ≤ steps_into (take (n + 1) steps) j + cond (j == 0) 1 0
  few_now j row le e =
      let rows = t.put.rows in
      let there = element_at (set agenda n []) j (let lt = slice_get_within left j row e in omega (arith, lt, rows)) in
      let old = u.few j there.0 (omega (arith, le)) (sym (get_other agenda n j [] (λ same. omega (arith, le, same))) ∙ there.1) in
      let more = t.counts.few j there.0 row there.1 e in
      let sum = sum_more (λ (r : List Step). count_by (leads_to j) r) n steps ways ways_are in
      omega (arith, old, more, sum)

  count_now : length after + waiting left ≡ 1 + step_count (take (n + 1) steps)
  count_now =
      let before = u.count in
      let sum = sum_more (λ (r : List Step). length r) n steps ways ways_are in
      let removed = emptied_count agenda n t.row t.row_is in
      let total = t.counts.total in
      let long = t.is.long in
      let made : length t.place.entries ≡ length t.row = ap length t.is.entries ∙ length-map t.row (entry_at p.node t.is.truths t.is.ended) in
      let all : length after ≡ length entries + length t.place.entries = ap length t.entries ∙ length-append entries t.place.entries in
      omega (arith, before, sum, removed, total, long, made, all)

  wires_now : length new + waiting left ≤ length first + 1 + 32 * pairs_weight parts predicates f steps 0 (take (n + 1) pairs) + (65 * length predicates.meanings + 75) * (n + 1)
  wires_now =
      let before = u.wires in
      let used = t.grows.used in
      let place = place_wires parts predicates f entry bounds ends pairs steps first n now entries agenda p ways t.row own t.row_is u in
      let few = few_steps parts bounds pairs n p ways g steps_of in
      let weight = weight_more parts predicates f steps n pairs p pair_is in
      let removed = emptied_count agenda n t.row t.row_is in
      let total = t.counts.total in
      let long = t.is.long in
      let next : (65 * length predicates.meanings + 75) * (n + 1) ≡ (65 * length predicates.meanings + 75) * n + (65 * length predicates.meanings + 75) = mul-suc-right (65 * length predicates.meanings + 75) n in
      omega (arith, before, used, place, few, weight, removed, total, long, next)

  pub unwinds_more : Unwinds parts predicates f entry bounds ends pairs steps first (n + 1) new after left
  unwinds_more = record {
    most = u.most + most_place_wires parts predicates entry p (length t.row) (length ways);
    grows = grows_then u.grows t.grows;
    entries_are = entries_now;
    rows = t.put.rows ∙ length-set agenda n [] ∙ u.rows;
    arrivals = arrivals_now;
    stands = stands_now;
    edged = edged_now;
    starts = starts_now;
    emptied = λ i row lt e. no_element row (none_put i row lt e);
    few = few_now;
    wires = wires_now;
    count = count_now;
  }

-- ---- what taking a place asks

-- an element that is read below the length is there
pub element_there : {X : Type 0} (xs read : List X) (n : ℕ) (x : X) → read ≡ xs → n < length xs → x ≡ slice_index_or read n x → slice_get xs n ≡ Some x
element_there xs read n x same lt is = slice_get-get_or xs n x lt ∙ ap (λ ys. Some (slice_index_or ys n x)) (sym same) ∙ ap Some (sym is)

-- how often a pair's wires fit
room_for : (inputs size places predicates : ℕ) → inputs ≤ 2097152 → size ≤ 4194304 → places ≤ 50000 → predicates ≤ 64 → inputs + 1 + 32 * size + (65 * predicates + 75) * places ≤ 2 ^ 30
room_for inputs size places predicates a b c d =
    let each : 65 * predicates + 75 ≤ 4235 = omega (arith, d) in
    let few : (65 * predicates + 75) * places ≤ 4235 * 50000 = mul-le-mul each c in
    omega (arith, a, b, few)

module _ (parts : GraphParts) (predicates : Predicates) (f : Function) (entry : ℕ) (bounds : Bounds) (ends : Ends) (pairs : List Pair) (steps : List (List Step)) (answers : List (List Lit)) (first : List Gate) (n : ℕ) (now : List Gate) (entries : List Entry) (agenda : List (List Arrival)) (p : Pair) (ways : List Step)
    (g : IsGraph parts) (can : CanUnwind parts predicates f entry bounds pairs steps answers first)
    (pair_is : slice_get pairs n ≡ Some p) (ways_are : slice_get steps n ≡ Some ways)
    (u : Unwinds parts predicates f entry bounds ends pairs steps first n now entries agenda) where
  leading : AreSteps parts bounds pairs n p ways
  leading = can.reached.leading n p ways pair_is ways_are

  abbrev places : length agenda ≡ length pairs
  places = u.rows

  room_there : (row : List Arrival) → slice_get agenda n ≡ Some row → length now + most_place_wires parts predicates entry p (length row) (length ways) ≤ 2 ^ 30
  room_there row e =
      let before = u.wires in
      let place = place_wires parts predicates f entry bounds ends pairs steps first n now entries agenda p ways row can.own e u in
      let few = few_steps parts bounds pairs n p ways g leading in
      let weight = weight_more parts predicates f steps n pairs p pair_is in
      let part = weight_part parts predicates f steps (n + 1) pairs in
      let removed = emptied_count agenda n row e in
      let next : (65 * length predicates.meanings + 75) * (n + 1) ≡ (65 * length predicates.meanings + 75) * n + (65 * length predicates.meanings + 75) = mul-suc-right (65 * length predicates.meanings + 75) n in
      let lt = slice_get_within pairs n p pair_is in
      let room = room_for (length first) (size_sum parts predicates f pairs steps) (n + 1) (length predicates.meanings) can.inputs can.small (let all = can.few in omega (arith, lt, all)) can.meanings in
      omega (arith, before, place, few, weight, part, removed, next, room)

  pub can_take : IsPredicates parts predicates → CanTake parts predicates entry answers n now p ways agenda
  can_take are = record {
    place = let lt = slice_get_within pairs n p pair_is in omega (arith, places, lt);
    own = slice_get_within parts.functions entry f can.own;
    ways = λ row e k a is. u.arrivals n k row a p (omega arith) e is pair_is;
    meanings = are;
    answer_wires = cells_still u.grows answers can.answer_wires;
    edges = λ k s e. let on = leading.each k s e in slice_get_within parts.edges s.edge on.edge on.follows.follows.edge;
    places = λ k s e. let on = leading.each k s e in let lt = slice_get_within pairs s.to on.target on.there in omega (arith, lt, places);
    room = room_there;
  }

  pub goes_on : (new : List Gate) (after : List Entry) (left : List (List Arrival)) → TakesPlace parts predicates entry ends answers n now new p ways entries after agenda left → Unwinds parts predicates f entry bounds ends pairs steps first (n + 1) new after left
  goes_on new after left t = unwinds_more parts predicates f entry bounds ends pairs steps answers first n now new entries after agenda left p ways g can.own can.reached can.answer_wires can.agree pair_is ways_are u t

-- What there is once all places are taken.
use Rattle.std.proofs.Common.{◌≡◌, ℕ, suc, ◌+◌, ◌*◌, ◌≤◌, List, [], ◌∷◌, length, take, get_or, Some, refl, ap, ⊎_elim, arith}
use Rattle.std.specs.Prelude.{slice_get}
use Rattle.std.proofs.lemmas.List.{take_all}
use Rattle.std.proofs.lemmas.List.Sums.{sum_by-cons, sum_by-le}
use Rattle.std.proofs.lemmas.Option.{slice_get-get_or, slice_get_within}
use Rattle.circuit.specs.declared.lit.Gate.{Gate}
use Rattle.cfa.specs.declared.parts.Function.{Function}
use Rattle.cfa.specs.declared.parts.GraphParts.{GraphParts}
use Rattle.cfa.specs.declared.state.Predicates.{Predicates}
use Rattle.cfa.specs.Contexts.{Pair, first_pair}
use Rattle.cfa.specs.Graph.{IsGraph}
use Rattle.cfa.proofs.Eaches.{element_at}
use Rattle.c_meaning.specs.declared.ends.Ends.{Ends}
use Rattle.unwinder.specs.input_words.Worlds.{world_length}
use Rattle.unwinder_reach.specs.declared.reached.bounds.Bounds.{Bounds}
use Rattle.unwinder_reach.specs.declared.reached.step.Step.{Step}
use Rattle.unwinder_reach.specs.reached.Reaching.{AreReached}
use Rattle.unwinder_reach.specs.unwinding_size.Sizes.{pairs_weight}
use Rattle.unwinder.specs.declared.arrival.Arrival.{Arrival}
use Rattle.unwinder.specs.declared.unwound.Entry.{Entry}
use Rattle.unwinder.specs.Lists.{ListsRuns}
use Rattle.unwinder.specs.Progress.{Unwinds, step_count, waiting}
use Rattle.unwinder.specs.Unwinding.{most_wires}
use Rattle.unwinder.proofs.FewSteps.{few_steps}

none_waits : (agenda : List (List Arrival)) → ((i : ℕ) (row : List Arrival) → slice_get agenda i ≡ Some row → row ≡ []) → waiting agenda ≡ 0
none_waits [] h = refl
none_waits (row ∷ agenda) h =
    let head = sum_by-cons (λ (r : List Arrival). length r) row agenda in
    let empty = ap length (h 0 row refl) in
    let rest = none_waits agenda (λ i r e. h (suc i) r e) in
    omega (arith, head, empty, rest)

-- the wires of all places, beside their weights
beside : (predicates places : ℕ) → 1 ≤ places → 1 + (65 * predicates + 75) * places ≤ 128 * ((predicates + 1) * places)
beside predicates places some =
    let one : (65 * predicates + 75) * places ≡ 65 * (predicates * places) + 75 * places = grind arith in
    let other : (predicates + 1) * places ≡ predicates * places + places = grind arith in
    omega (arith, one, other, some)

module _ (parts : GraphParts) (predicates : Predicates) (f : Function) (entry : ℕ) (bounds : Bounds) (ends : Ends) (pairs : List Pair) (steps : List (List Step)) (first now : List Gate) (entries : List Entry) (agenda : List (List Arrival))
    (g : IsGraph parts) (reached : AreReached parts bounds f pairs steps)
    (u : Unwinds parts predicates f entry bounds ends pairs steps first (length pairs) now entries agenda) where
  pub lists : ListsRuns parts predicates f bounds ends now entries
  lists x given =
      ⊎_elim
      (λ waits. let rows = u.rows in let lt = slice_get_within agenda waits.place waits.arrives.row waits.arrives.row_is in let later = waits.arrives.later in absurd (omega (arith, rows, lt, later)))
      (λ told. (told.run, told.longest, told.told))
      (u.stands x given)

  nothing_left : waiting agenda ≡ 0
  nothing_left = none_waits agenda (λ i row e. let rows = u.rows in u.emptied i row (let lt = slice_get_within agenda i row e in omega (arith, rows, lt)) e)

  all_steps : take (length pairs) steps ≡ steps
  all_steps = let rows = reached.rows in take_all (length pairs) steps (omega (arith, rows))

  pub entry_count : length entries ≡ 1 + step_count steps
  entry_count = let count = u.count in omega (arith, count, nothing_left, ap step_count all_steps)

  few_each : step_count steps ≤ length steps * 2
  few_each = sum_by-le (λ (r : List Step). length r) 2 steps (λ k d lt.
      let rows = reached.rows in
      let p = element_at pairs k (omega (arith, lt, rows)) in
      few_steps parts bounds pairs k p.0 (get_or steps k d) g (reached.leading k p.0 (get_or steps k d) p.1 (slice_get-get_or steps k d lt)))

  pub few_entries : length entries ≤ 2 * length pairs + 1
  few_entries = let rows = reached.rows in omega (arith, entry_count, few_each, rows)

  pub few_wires : length first ≡ world_length f.parameters bounds.answers → length now ≤ most_wires parts predicates f bounds pairs steps
  few_wires inputs =
      let wires = u.wires in
      let all : take (length pairs) pairs ≡ pairs = take_all (length pairs) pairs (omega arith) in
      let some = slice_get_within pairs 0 (first_pair f) reached.first in
      let rest = beside (length predicates.meanings) (length pairs) some in
      let weight = ap (pairs_weight parts predicates f steps 0) all in
      omega (arith, wires, nothing_left, inputs, rest, weight)

-- How an unwinding begins and ends.
use Rattle.std.proofs.Common.{◌≡◌, ℕ, zero, suc, ◌-◌, ◌≤◌, false, cond, List, [], ◌∷◌, length, replicate, Some, None, refl, sym, ap, subst, ◌∙◌, inl, arith}
use Rattle.std.specs.Prelude.{All, ◌==◌, slice_get}
use Rattle.std.proofs.lemmas.List.{length-replicate}
use Rattle.std.proofs.lemmas.List.Sums.{sum_by-cons}
use Rattle.std.proofs.lemmas.Option.{same_Some, slice_get_within}
use Rattle.circuit.specs.Truth.{World}
use Rattle.circuit.specs.Wires.{IsWire}
use Rattle.circuit.specs.declared.lit.Gate.{Gate}
use Rattle.circuit.specs.declared.lit.Lit.{Lit}
use Rattle.bit_words.proofs.Steps.{grows_none}
use Rattle.bit_words.proofs.Values.{yes_holds}
use Rattle.cfa.specs.declared.parts.Function.{Function}
use Rattle.cfa.specs.declared.parts.GraphParts.{GraphParts}
use Rattle.cfa.specs.declared.state.Predicates.{Predicates}
use Rattle.cfa.specs.declared.state.State.{State}
use Rattle.cfa.specs.Contexts.{FrameContext, IsWithin, Pair, first_context, first_pair}
use Rattle.cfa.specs.Graph.{IsGraph}
use Rattle.c_meaning.specs.declared.ends.Ends.{Ends}
use Rattle.c_meaning.specs.declared.input.Input.{Input}
use Rattle.c_meaning.specs.Starts.{fitted_words, start_of}
use Rattle.unwinder_reach.specs.declared.reached.bounds.Bounds.{Bounds}
use Rattle.unwinder_reach.specs.declared.reached.step.Step.{Step}
use Rattle.unwinder_reach.specs.reached.Reaching.{AreReached}
use Rattle.sym_expr.specs.Stores.{cells_in}
use Rattle.sym_expr.specs.declared.sym_steps.state.SymState.{SymState}
use Rattle.sym_expr.specs.sym_steps.Steps.{state_in}
use Rattle.unwinder.specs.input_words.Worlds.{world_of}
use Rattle.unwinder.specs.declared.arrival.Arrival.{Arrival}
use Rattle.unwinder.specs.Agenda.{AreArrivals, IsArrival, IsSymAt, IsWaiting}
use Rattle.unwinder.specs.Frames.{IsAt}
use Rattle.unwinder.specs.Lists.{IsInputFor}
use Rattle.unwinder.specs.Progress.{Unwinds, begun, waiting}
use Rattle.unwinder.proofs.FrameLaws.{at_cells, at_start}

abbrev nil_row : List Arrival
nil_row = []

-- the way of the start
abbrev pub first_way : SymState → Arrival
first_way s = record { edge = None; guard = record { wire = 0; negated = false }; state = Some s }

-- ---- the state of the start

-- words for each parameter, all 0
zero_words : Function → List ℕ
zero_words f = replicate (length f.parameters) 0

cells_long : (gates : List Gate) (cells : List (List Lit)) (w v : World) → length (cells_in gates cells w) ≡ length (cells_in gates cells v)
cells_long gates [] w v = refl
cells_long gates (c ∷ cells) w v = ap suc (cells_long gates cells w v)

-- the first pair is within all bounds of one frame or more
no_turns : (turns i : ℕ) (c : FrameContext) → slice_get first_context.frames i ≡ Some c → (j n : ℕ) → slice_get c.counters j ≡ Some n → n ≤ turns
no_turns turns zero c e j n k =
    let one : FrameContext = record { call = None; counters = [] } in
    let same : one ≡ c = same_Some one c e in
    let none : None ≡ Some n = ap (λ (q : FrameContext). slice_get q.counters j) same ∙ k in
    absurd cc
no_turns turns (suc i) c e j n k = absurd cc

first_within : (f : Function) (bounds : Bounds) → 1 ≤ bounds.frames → (k : ℕ) (p : Pair) → slice_get (first_pair f ∷ []) k ≡ Some p → IsWithin bounds.turns bounds.frames bounds.answers p.context
first_within f bounds frames zero p e =
    let same : first_pair f ≡ p = same_Some (first_pair f) p e in
    subst (λ (q : Pair). IsWithin bounds.turns bounds.frames bounds.answers q.context) same (record {
      turns_kept = no_turns bounds.turns;
      frames_kept = frames;
      answers_kept = omega arith;
    })
first_within f bounds frames (suc k) p e = absurd cc

-- the rows behind the first have no way
empty_behind : (others i : ℕ) (row : List Arrival) → slice_get (replicate others []) i ≡ Some row → row ≡ []
empty_behind zero i row e = absurd cc
empty_behind (suc others) zero row e = sym (same_Some [] row e)
empty_behind (suc others) (suc i) row e = empty_behind others i row e

module _ (parts : GraphParts) (predicates : Predicates) (f : Function) (entry : ℕ) (bounds : Bounds) (ends : Ends) (pairs : List Pair) (steps : List (List Step)) (first : List Gate) (words : List (List Lit)) (s : SymState)
    (g : IsGraph parts) (own : slice_get parts.functions entry ≡ Some f) (arrays : f.arrays ≡ []) (frames : 1 ≤ bounds.frames) (reached : AreReached parts bounds f pairs steps)
    (wires : All (All (IsWire first)) s.store.cells)
    (values : (input : Input) → length input.words ≡ length f.parameters → cells_in first words (world_of f.parameters bounds.answers input) ≡ fitted_words input.words f.parameters)
    (start : (w : World) (input : Input) → cells_in first words w ≡ fitted_words input.words f.parameters → state_in first s w ≡ start_of parts f input.words) where
  abbrev zeros : Input
  zeros = record { words = replicate (length f.parameters) 0; answers = [] }

  zeros_long : length zeros.words ≡ length f.parameters
  zeros_long = length-replicate (length f.parameters) 0

  state_is : (x : Input) → length x.words ≡ length f.parameters → state_in first s (world_of f.parameters bounds.answers x) ≡ start_of parts f x.words
  state_is x long = start (world_of f.parameters bounds.answers x) x (values x long)

  at_zeros : IsAt parts entry (first_pair f) (state_in first s (world_of f.parameters bounds.answers zeros))
  at_zeros = subst (IsAt parts entry (first_pair f)) (sym (state_is zeros zeros_long)) (at_start parts entry f zeros.words g own (zeros_long, arrays))

  first_at : (w : World) → IsAt parts entry (first_pair f) (state_in first s w)
  first_at w = at_cells parts entry (first_pair f) (state_in first s (world_of f.parameters bounds.answers zeros)) at_zeros (cells_in first s.store.cells w) s.taken (cells_long first s.store.cells w (world_of f.parameters bounds.answers zeros))

  first_arrival : IsArrival parts entry first (first_pair f) (first_way s)
  first_arrival = record {
    guard = omega arith;
    opened = λ q is. subst (IsSymAt parts entry first (first_pair f)) (same_Some s q is) (record { at = first_at; cells = wires });
    closed = λ none w. absurd cc;
  }

  -- ---- the agenda of the start

  only_first : (others i l : ℕ) (row : List Arrival) (a : Arrival) → slice_get (begun (first_way s) others) i ≡ Some row → slice_get row l ≡ Some a → (i ≡ 0) × (l ≡ 0) × (a ≡ first_way s)
  only_first others zero zero row a e k = let same = same_Some (first_way s ∷ []) row e in (refl, refl, sym (same_Some (first_way s) a (ap (λ (r : List Arrival). slice_get r 0) same ∙ k)))
  only_first others zero (suc l) row a e k = let same = same_Some (first_way s ∷ []) row e in let none : None ≡ Some a = ap (λ (r : List Arrival). slice_get r (suc l)) same ∙ k in absurd cc
  only_first others (suc i) l row a e k = let none = empty_behind others i row e in let nothing : None ≡ Some a = ap (λ (r : List Arrival). slice_get r l) (sym none) ∙ k in absurd cc

  waiting_none : (others : ℕ) → waiting (replicate others []) ≡ 0
  waiting_none zero = refl
  waiting_none (suc others) = let head = sum_by-cons (λ (r : List Arrival). length r) [] (replicate others []) in omega (arith, head, waiting_none others)

  waiting_one : (others : ℕ) → waiting (begun (first_way s) others) ≡ 1
  waiting_one others = let head = sum_by-cons (λ (r : List Arrival). length r) (first_way s ∷ []) (replicate others []) in omega (arith, head, waiting_none others)

  few_first : (others j : ℕ) (row : List Arrival) → slice_get (begun (first_way s) others) j ≡ Some row → length row ≤ cond (j == 0) 1 0
  few_first others zero row e = let same : first_way s ∷ [] ≡ row = same_Some (first_way s ∷ []) row e in omega (arith, ap length same)
  few_first others (suc j) row e =
      let empty = empty_behind others j row e in
      omega (arith, ap length empty)

  -- ---- the run of the start

  waits : (others : ℕ) (x : Input) → IsInputFor f x → IsWaiting parts predicates f bounds ends pairs first [] (begun (first_way s) others) 0 x
  waits others x given =
      let same = state_is x given.start.0 in
      record {
        run = record { first = start_of parts f x.words; moves = [] };
        begins = record { start = refl; moves = tt };
        within = first_within f bounds frames;
        place = 0;
        number = 0;
        arrival = first_way s;
        arrives = record {
          later = omega arith;
          row = first_way s ∷ [];
          row_is = refl;
          arrival_is = refl;
          taken = yes_holds first (world_of f.parameters bounds.answers x);
          alone = λ i l row a le e k so. let one = only_first others i l row a e k in (one.0, one.1);
        };
        pair = reached.first;
        state = s;
        opened = refl;
        frames = ap (λ (z : State). z.frames) same;
        cells = ap (λ (z : State). z.cells) same;
        before = [];
        split = refl;
        told = tt;
      }

  arrivals_first : (others : ℕ) → AreArrivals parts entry first pairs (begun (first_way s) others) 0
  arrivals_first others i l row a p le e k there =
      let one = only_first others i l row a e k in
      let same_pair : first_pair f ≡ p = same_Some (first_pair f) p (sym reached.first ∙ ap (slice_get pairs) (sym one.0) ∙ there) in
      subst (λ q. IsArrival parts entry first q a) same_pair (subst (IsArrival parts entry first (first_pair f)) (sym one.2) first_arrival)

  pub begins : Unwinds parts predicates f entry bounds ends pairs steps first 0 first [] (begun (first_way s) (length pairs - 1))
  begins = record {
    most = 0;
    grows = grows_none first 0;
    entries_are = λ i e h. absurd cc;
    rows = let lt = slice_get_within pairs 0 (first_pair f) reached.first in let long = length-replicate (length pairs - 1) (nil_row) in omega (arith, lt, long);
    arrivals = arrivals_first (length pairs - 1);
    stands = λ x given. inl (waits (length pairs - 1) x given);
    edged = λ j l row a le e k none. let one = only_first (length pairs - 1) j l row a e k in (refl, one.0);
    starts = λ i e h none. absurd cc;
    emptied = λ i row lt e. absurd (omega (arith, lt));
    few = λ j row le e. let few = few_first (length pairs - 1) j row e in omega (arith, few);
    wires = let one = waiting_one (length pairs - 1) in omega (arith, one);
    count = let one = waiting_one (length pairs - 1) in omega (arith, one);
  }

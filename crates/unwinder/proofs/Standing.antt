-- What stands of an input's run, before and after a place is taken.
use Rattle.std.proofs.Common.{◌≡◌, ℕ, ◌+◌, ◌<◌, ◌≤◌, Bool, true, false, List, [], ◌∷◌, ◌++◌, map, length, Some, None, refl, sym, ap, subst, ◌∙◌, inl, inr, ⊎_elim, arith}
use Rattle.std.specs.Prelude.{slice_get}
use Rattle.std.specs.List.{AllZip}
use Rattle.std.proofs.lemmas.Bool.{cases_eq, eqb-true, eq-eqb, ne_eqb}
use Rattle.std.proofs.lemmas.List.{map_push}
use Rattle.std.proofs.lemmas.Option.{same_Some, slice_get_within}
use Rattle.circuit.specs.Truth.{World}
use Rattle.circuit.specs.Wires.{IsWire, lit_holds}
use Rattle.circuit.specs.declared.lit.Gate.{Gate}
use Rattle.circuit.specs.declared.lit.Lit.{Lit}
use Rattle.bit_words.specs.Words.{Grows}
use Rattle.cfa.specs.declared.parts.Edge.{Edge}
use Rattle.cfa.specs.declared.parts.Function.{Function}
use Rattle.cfa.specs.declared.parts.GraphParts.{GraphParts}
use Rattle.cfa.specs.declared.parts.Operation.{Operation}
use Rattle.cfa.specs.declared.parts.Operation.TheVariants.{Skip, Assign, Clear, Guard, Call, Return, Answer, Assert, Assume}
use Rattle.cfa.specs.declared.state.Predicates.{Predicates}
use Rattle.cfa.specs.declared.state.State.{State}
use Rattle.cfa.specs.Contexts.{IsWithin, Pair, along, along_operation}
use Rattle.cfa.specs.Graph.{IsGraph}
use Rattle.cfa.proofs.Eaches.{element_at}
use Rattle.c_meaning.specs.declared.ends.Ends.{Ends}
use Rattle.c_meaning.specs.declared.input.Input.{Input}
use Rattle.c_meaning.specs.declared.stepped.Stepped.{Stepped}
use Rattle.c_meaning.specs.declared.stepped.Stepped.TheVariants.{Moved, Returned, Trapped, Blocked, TooDeep}
use Rattle.c_meaning.specs.Pairs.{Fits, last_pair_in, pair_after, pair_along}
use Rattle.c_meaning.specs.Runs.{last_in}
use Rattle.c_meaning.specs.Steps.{next}
use Rattle.c_meaning.proofs.Longest.{longest_by_ends}
use Rattle.c_meaning.proofs.PairLaws.{steps_follow}
use Rattle.unwinder_reach.specs.declared.reached.bounds.Bounds.{Bounds}
use Rattle.unwinder_reach.specs.declared.reached.step.Step.{Step}
use Rattle.unwinder_reach.specs.reached.Reaching.{AreReached, LeadsOn}
use Rattle.unwinder_reach.specs.reached.Searching.{is_answer}
use Rattle.sym_expr.specs.Stores.{cells_in}
use Rattle.sym_expr.proofs.ElementLemmas.{cells_later}
use Rattle.sym_expr.specs.declared.sym_steps.state.SymState.{SymState}
use Rattle.sym_expr.specs.sym_steps.Steps.{Agrees, goes_along}
use Rattle.unwinder.specs.declared.arrival.Arrival.{Arrival}
use Rattle.unwinder.specs.declared.unwound.Entry.{Entry}
use Rattle.unwinder.specs.Agenda.{AreArrivals, ArrivesAlone, IsOnward, IsTold, IsWaiting, NoneArrives, Puts, Stands, TakenAlone, TakesIn, entry_at, state_at}
use Rattle.unwinder.specs.Lists.{IsInputFor, Reached, Tells, after_move, entries_in, reached_in}
use Rattle.unwinder.specs.Unwinding.{IsEntry}
use Rattle.unwinder.specs.input_words.Worlds.{world_of}
use Rattle.unwinder.proofs.LastStates.{last_fits, last_is_state}
use Rattle.unwinder.proofs.ListLaws.{not_yes, zip_at, zip_push}
use Rattle.unwinder.proofs.RunPush.{longer, longer_begins, longer_last, longer_pair, longer_within}
use Rattle.unwinder.proofs.SameNext.{next_same}
use Rattle.unwinder.proofs.StepRows.{find_step, one_step}
use Rattle.unwinder.proofs.TakenEntries.{entries_alone, entries_none, told_later}

-- an answer is one more taken
taken_more : (parts : GraphParts) (at : ℕ) (e : Edge) (p : Pair) → is_answer e.operation ≡ true → (along parts at e p.context).taken ≡ p.context.taken + 1
taken_more parts at e p h = by e.operation h
  where
    by : (op : Operation) → is_answer op ≡ true → (along_operation parts at e op p.context).taken ≡ p.context.taken + 1
    by (Answer number dest) h = refl
    by Skip h = absurd cc
    by (Assign place value) h = absurd cc
    by (Clear array count) h = absurd cc
    by (Guard test truth) h = absurd cc
    by (Call callee words arrays) h = absurd cc
    by (Return call dest) h = absurd cc
    by (Assert test) h = absurd cc
    by (Assume test) h = absurd cc

-- no step leads along the edge by which a run goes on
abbrev NoStepOn : List Step → Stepped → Type 0
NoStepOn ways o = (at : ℕ) (to : State) → o ≡ Moved at to → (m : ℕ) (s : Step) → slice_get ways m ≡ Some s → s.edge ≡ at → ⊥

goes_not : (ways : List Step) (m : ℕ) (s : Step) → slice_get ways m ≡ Some s → (o : Stepped) → NoStepOn ways o → goes_along s.edge o ≡ false
goes_not ways m s e (Moved at to) none = ne_eqb s.edge at (none at to refl m s e)
goes_not ways m s e (Returned v) none = refl
goes_not ways m s e (Trapped q) none = refl
goes_not ways m s e Blocked none = refl
goes_not ways m s e TooDeep none = refl

-- the same entries, over a circuit that has grown, tell of as many states
pub record IsTaken (parts : GraphParts) (predicates : Predicates) (f : Function) (entry : ℕ) (bounds : Bounds) (ends : Ends) (pairs : List Pair) (steps : List (List Step)) (answers : List (List Lit)) (n : ℕ) (old new : List Gate) (entries : List Entry) (agenda after : List (List Arrival)) (p : Pair) (truths : List Lit) (ended : Lit) : Type 0 where
  pub most : ℕ
  pub grows : Grows old new most
  pub entries_are : (i : ℕ) (e : Entry) → slice_get entries i ≡ Some e → IsEntry predicates old e
  pub arrivals : AreArrivals parts entry old pairs agenda n
  pub rows : length agenda ≡ length pairs
  pub row : List Arrival
  pub row_is : slice_get agenda n ≡ Some row
  pub pair_is : slice_get pairs n ≡ Some p
  pub ways : List Step
  pub ways_are : slice_get steps n ≡ Some ways
  pub onward : List Arrival
  pub puts : Puts n agenda after ways onward
  pub takes : (w : World) → TakesIn parts predicates ends old new answers row p truths ended ways onward w

module _ (parts : GraphParts) (predicates : Predicates) (f : Function) (entry : ℕ) (bounds : Bounds) (ends : Ends) (pairs : List Pair) (steps : List (List Step)) (answers : List (List Lit)) (n : ℕ) (old new : List Gate) (entries : List Entry) (agenda after : List (List Arrival)) (p : Pair) (truths : List Lit) (ended : Lit)
    (t : IsTaken parts predicates f entry bounds ends pairs steps answers n old new entries agenda after p truths ended)
    (g : IsGraph parts) (own : slice_get parts.functions entry ≡ Some f) (reached : AreReached parts bounds f pairs steps)
    (x : Input) (given : IsInputFor f x) where
  abbrev w : World
  w = world_of f.parameters bounds.answers x

  abbrev made : List Entry
  made = map (entry_at p.node truths ended) t.row

  abbrev now : List Entry
  now = entries ++ made

  -- ---- what was there

  wire : (i l : ℕ) (row : List Arrival) (a : Arrival) → n ≤ i → slice_get agenda i ≡ Some row → slice_get row l ≡ Some a → IsWire old a.guard
  wire i l row a le e h =
      let lt = slice_get_within agenda i row e in
      let rows = t.rows in
      let q = element_at pairs i (omega (arith, lt, rows)) in
      (t.arrivals i l row a q.0 le e h q.1).guard

  same_guard : (i l : ℕ) (row : List Arrival) (a : Arrival) → n ≤ i → slice_get agenda i ≡ Some row → slice_get row l ≡ Some a → lit_holds new a.guard w ≡ lit_holds old a.guard w
  same_guard i l row a le e h = t.grows.older.same a.guard (wire i l row a le e h) w

  row_wire : (k : ℕ) (a : Arrival) → slice_get t.row k ≡ Some a → IsWire old a.guard
  row_wire k a e = wire n k t.row a (omega arith) t.row_is e

  told_now : (states : List Reached) → AllZip (Tells parts predicates ends old w x) (entries_in old entries w) states → AllZip (Tells parts predicates ends new w x) (entries_in new entries w) states
  told_now states h = told_later parts predicates ends old new t.most t.grows w x entries t.entries_are states h

  -- ---- where no arrival at the place is taken

  module _ (none : (k : ℕ) (a : Arrival) → slice_get t.row k ≡ Some a → lit_holds old a.guard w ≡ false) where
    none_onward : (m : ℕ) (a : Arrival) → slice_get t.onward m ≡ Some a → lit_holds new a.guard w ≡ false
    none_onward m a e = (t.takes w).none none m a e

    passed_told : (states : List Reached) → AllZip (Tells parts predicates ends old w x) (entries_in old entries w) states → AllZip (Tells parts predicates ends new w x) (entries_in new now w) states
    passed_told states h =
        let P : List Entry → Type 0 = λ es. AllZip (Tells parts predicates ends new w x) es states in
        subst P (sym (entries_none parts predicates ends old new t.most t.grows w x entries t.entries_are p.node truths ended t.row row_wire none)) (told_now states h)

  none_there : NoneArrives old agenda n w → (k : ℕ) (a : Arrival) → slice_get t.row k ≡ Some a → lit_holds old a.guard w ≡ false
  none_there h k a e = h n k t.row a (omega arith) t.row_is e

  stays_told : IsTold parts predicates f bounds ends pairs old entries agenda n x → IsTold parts predicates f bounds ends pairs new now after (n + 1) x
  stays_told h =
      let none = none_there h.none in
      record {
        run = h.run;
        longest = h.longest;
        none = λ i l more a le e is. ⊎_elim
            (λ o. same_guard i l o.0 a (omega (arith, le)) o.1 o.2 ∙ h.none i l o.0 a (omega (arith, le)) o.1 o.2)
            (λ m. none_onward none m.0 a m.3)
            (t.puts.only i l more a (omega (arith, le)) e is);
        told = passed_told none (reached_in h.run) h.told;
      }

  still_waits : (h : IsWaiting parts predicates f bounds ends pairs old entries agenda n x) → n < h.place → IsWaiting parts predicates f bounds ends pairs new now after (n + 1) x
  still_waits h lt =
      let a = h.arrives in
      let none : (k : ℕ) (b : Arrival) → slice_get t.row k ≡ Some b → lit_holds old b.guard w ≡ false = λ k b e. not_yes (lit_holds old b.guard w) (λ so. let at = a.alone n k t.row b (omega arith) t.row_is e so in absurd (omega (arith, at.0, lt))) in
      let there = t.puts.kept h.place h.number a.row h.arrival lt a.row_is a.arrival_is in
      let later = a.later in
      let q = element_at pairs h.place (let rows = t.rows in let within = slice_get_within agenda h.place a.row a.row_is in omega (arith, rows, within)) in
      let at = (t.arrivals h.place h.number a.row h.arrival q.0 later a.row_is a.arrival_is q.1).opened h.state h.opened in
      record {
        run = h.run;
        begins = h.begins;
        within = h.within;
        place = h.place;
        number = h.number;
        arrival = h.arrival;
        arrives = record {
          later = omega (arith, lt);
          row = there.0;
          row_is = there.1;
          arrival_is = there.2;
          taken = same_guard h.place h.number a.row h.arrival later a.row_is a.arrival_is ∙ a.taken;
          alone = λ i l other b le e is so. ⊎_elim
              (λ o. a.alone i l o.0 b (omega (arith, le)) o.1 o.2 (sym (same_guard i l o.0 b (omega (arith, le)) o.1 o.2) ∙ so))
              (λ m. let no = none_onward none m.0 b m.3 in absurd cc)
              (t.puts.only i l other b (omega (arith, le)) e is);
        };
        pair = h.pair;
        state = h.state;
        opened = h.opened;
        frames = h.frames;
        cells = cells_later t.grows h.state.store.cells at.cells w ∙ h.cells;
        before = h.before;
        split = h.split;
        told = passed_told none h.before h.told;
      }

  -- ---- where the run is at the place

  module _ (h : IsWaiting parts predicates f bounds ends pairs old entries agenda n x) (here : h.place ≡ n) where
    abbrev z : State
    z = last_in h.run

    there_row : h.arrives.row ≡ t.row
    there_row = same_Some h.arrives.row t.row (sym h.arrives.row_is ∙ subst (λ i. slice_get agenda i ≡ Some t.row) (sym here) t.row_is)

    arrival_there : slice_get t.row h.number ≡ Some h.arrival
    arrival_there = subst (λ (r : List Arrival). slice_get r h.number ≡ Some h.arrival) there_row h.arrives.arrival_is

    alone_there : (l : ℕ) (b : Arrival) → slice_get t.row l ≡ Some b → lit_holds old b.guard w ≡ true → l ≡ h.number
    alone_there l b e so = (h.arrives.alone n l t.row b (omega arith) t.row_is e so).1

    alone : TakenAlone old t.row w h.number h.arrival h.state
    alone = record { there = arrival_there; opened = h.opened; taken = h.arrives.taken; alone = alone_there }

    same_pair : last_pair_in parts f h.run ≡ p
    same_pair = same_Some (last_pair_in parts f h.run) p (sym h.pair ∙ subst (λ i. slice_get pairs i ≡ Some p) (sym here) t.pair_is)

    fits : Fits p z
    fits = subst (λ q. Fits q z) same_pair (last_fits parts entry f x h.run g own given.start h.begins)

    z_is : state_at old p h.state w ≡ z
    z_is = λ i. record { node = fits.node i; frames = h.frames i; cells = h.cells i; taken = fits.taken i }

    onward_is : AllZip (IsOnward parts old new answers w z) t.ways t.onward
    onward_is = subst (λ s. AllZip (IsOnward parts old new answers w s) t.ways t.onward) z_is ((t.takes w).onward_are h.number h.arrival h.state alone)

    one_onward : (m : ℕ) (s : Step) (a : Arrival) → slice_get t.ways m ≡ Some s → slice_get t.onward m ≡ Some a → IsOnward parts old new answers w z s a
    one_onward m s a e k = zip_at (IsOnward parts old new answers w z) t.ways t.onward onward_is m s a e k

    -- its entry tells of the last state
    tells : Tells parts predicates ends new w x (entry_at p.node truths ended h.arrival) (h.arrival.edge, z)
    tells =
        let takes = t.takes w in
        subst (λ s. Tells parts predicates ends new w x (entry_at p.node truths ended h.arrival) (h.arrival.edge, s)) z_is (record {
          edge = refl;
          node = refl;
          truths = takes.truths_are h.number h.arrival h.state alone;
          ended = takes.ended_is h.number h.arrival h.state alone x;
        })

    all_told : AllZip (Tells parts predicates ends new w x) (entries_in new now w) (reached_in h.run)
    all_told =
        let one = entries_alone parts predicates ends old new t.most t.grows w x entries t.entries_are p.node truths ended t.row row_wire h.number h.arrival arrival_there h.arrives.taken alone_there in
        let pushed = zip_push (Tells parts predicates ends new w x) (entries_in new entries w) h.before (entry_at p.node truths ended h.arrival) (h.arrival.edge, z) (told_now h.before h.told) tells in
        let P : List Entry → Type 0 = λ es. AllZip (Tells parts predicates ends new w x) es (reached_in h.run) in
        subst P (sym one) (subst (λ (states : List Reached). AllZip (Tells parts predicates ends new w x) (entries_in new entries w ++ entry_at p.node truths ended h.arrival ∷ []) states) (sym h.split) pushed)

    -- an old arrival isn't taken
    old_none : (i l : ℕ) (row : List Arrival) (a : Arrival) → n + 1 ≤ i → slice_get agenda i ≡ Some row → slice_get row l ≡ Some a → lit_holds new a.guard w ≡ false
    old_none i l row a le e is = not_yes (lit_holds new a.guard w) (λ so. let at = h.arrives.alone i l row a (omega (arith, le)) e is (sym (same_guard i l row a (omega (arith, le)) e is) ∙ so) in absurd (omega (arith, at.0, here, le)))

    -- the run doesn't go on within the bounds
    ends_here : (next_is : Stepped) → next parts x z ≡ next_is → NoStepOn t.ways next_is → ((at : ℕ) (to : State) → next parts x z ≡ Moved at to → ¬ IsWithin bounds.turns bounds.frames bounds.answers (pair_along parts (last_pair_in parts f h.run) at).context) → IsTold parts predicates f bounds ends pairs new now after (n + 1) x
    ends_here next_is is none stops = record {
      run = h.run;
      longest = longest_by_ends bounds.turns bounds.frames bounds.answers parts f x h.run h.begins h.within stops;
      none = λ i l more a le e k. ⊎_elim
          (λ o. old_none i l o.0 a le o.1 o.2)
          (λ m. (one_onward m.0 m.1 a m.2 m.3).goes x ∙ ap (goes_along m.1.edge) is ∙ goes_not t.ways m.0 m.1 m.2 next_is none)
          (t.puts.only i l more a (omega (arith, le)) e k);
      told = all_told;
    }

    -- ---- the run goes on within the bounds

    module _ (at : ℕ) (to : State) (moves : next parts x z ≡ Moved at to) (m : ℕ) (s : Step) (s_is : slice_get t.ways m ≡ Some s) (along_is : s.edge ≡ at) where
      leads : LeadsOn parts bounds pairs n p s
      leads = (reached.leading n p t.ways t.pair_is t.ways_are).each m s s_is

      -- the pair to which the step leads is that of the next state
      target_is : leads.target ≡ pair_along parts (last_pair_in parts f h.run) at
      target_is =
          let follows = leads.follows.follows in
          follows.reaches ∙ sym (ap (pair_after parts s.edge p) follows.edge) ∙ ap (pair_along parts p) along_is ∙ ap (λ (q : Pair). pair_along parts q at) (sym same_pair)

      target_within : IsWithin bounds.turns bounds.frames bounds.answers (pair_along parts (last_pair_in parts f h.run) at).context
      target_within = let P : Pair → Type 0 = λ q. IsWithin bounds.turns bounds.frames bounds.answers q.context in subst P target_is leads.follows.within

      onward_there : (a : Arrival) × (slice_get t.onward m ≡ Some a)
      onward_there = let long = t.puts.long in let lt = slice_get_within t.ways m s s_is in element_at t.onward m (omega (arith, long, lt))

      abbrev next_arrival : Arrival
      next_arrival = onward_there.0

      it : IsOnward parts old new answers w z s next_arrival
      it = one_onward m s next_arrival s_is onward_there.1

      moves_along : next parts x z ≡ Moved s.edge to
      moves_along = moves ∙ ap (λ k. Moved k to) (sym along_is)

      abbrev Brings : Type 0
      Brings = (q : SymState) × (next_arrival.state ≡ Some q) × (q.frames ≡ to.frames) × (cells_in new q.store.cells w ≡ to.cells)

      -- an answer within the bounds is one of the words
      by_answer : (b : Bool) → is_answer leads.edge.operation ≡ b → ((number : ℕ) → number < bounds.answers → Agrees old answers w x number) → Brings
      by_answer true is agrees =
          let more = taken_more parts s.edge leads.edge p is in
          let within = leads.follows.within.answers_kept in
          let reaches = leads.follows.follows.reaches in
          let taken : leads.target.context.taken ≡ p.context.taken + 1 = ap (λ (q : Pair). q.context.taken) reaches ∙ more in
          let same = fits.taken in
          it.leads x to (agrees z.taken (omega (arith, taken, within, same))) moves_along
      by_answer false is agrees =
          let y : Input = record x { answers = cells_in old answers w } in
          it.leads y to refl (next_same parts x y z to s.edge leads.edge leads.follows.follows.edge is moves_along)

      brings : ((number : ℕ) → number < bounds.answers → Agrees old answers w x number) → Brings
      brings agrees = by_answer (is_answer leads.edge.operation) refl agrees

      now_alone : ArrivesAlone new after (n + 1) w s.to (t.puts.number m) next_arrival
      now_alone =
          let there = t.puts.put m s next_arrival s_is onward_there.1 in
          record {
            later = omega (arith, leads.later);
            row = there.0;
            row_is = there.1;
            arrival_is = there.2;
            taken = it.goes x ∙ ap (goes_along s.edge) moves ∙ eq-eqb s.edge at along_is;
            alone = λ i l other b le e is so. ⊎_elim
                (λ o. let off = old_none i l o.0 b le o.1 o.2 in absurd cc)
                (λ k.
                let goes = (one_onward k.0 k.1 b k.2 k.3).goes x ∙ ap (goes_along k.1.edge) moves in
                let same : k.1.edge ≡ at = eqb-true k.1.edge at (sym goes ∙ so) in
                let one : k.0 ≡ m = one_step t.ways (reached.leading n p t.ways t.pair_is t.ways_are).rising k.0 m k.1 s k.2 s_is (same ∙ sym along_is) in
                let step : k.1 ≡ s = same_Some k.1 s (sym k.2 ∙ ap (slice_get t.ways) one ∙ s_is) in
                (k.4 ∙ ap (λ (q : Step). q.to) step, k.5 ∙ ap t.puts.number one))
                (t.puts.only i l other b (omega (arith, le)) e is);
          }

      longer_split : reached_in (longer h.run at to) ≡ reached_in h.run ++ (next_arrival.edge, last_in (longer h.run at to)) ∷ []
      longer_split =
          let edge : Some at ≡ next_arrival.edge = sym (it.edge ∙ ap Some along_is) in
          let last : to ≡ last_in (longer h.run at to) = sym (longer_last parts f x h.run at to) in
          let one : Reached = (Some at, to) in
          let other : Reached = (next_arrival.edge, last_in (longer h.run at to)) in
          let same : one ≡ other = λ i. (edge i, last i) in
          ap (λ (rs : List Reached). (None, h.run.first) ∷ rs) (map_push after_move h.run.moves _ ∙ ap (λ (q : Reached). map after_move h.run.moves ++ q ∷ []) same)

      goes_on : ((number : ℕ) → number < bounds.answers → Agrees old answers w x number) → IsWaiting parts predicates f bounds ends pairs new now after (n + 1) x
      goes_on agrees =
          let b = brings agrees in
          let last = longer_last parts f x h.run at to in
          record {
            run = longer h.run at to;
            begins = longer_begins parts f x h.run at to h.begins moves;
            within = longer_within parts f x h.run at to bounds.turns bounds.frames bounds.answers h.within target_within;
            place = s.to;
            number = t.puts.number m;
            arrival = next_arrival;
            arrives = now_alone;
            pair = leads.there ∙ ap Some (target_is ∙ sym (longer_pair parts f x h.run at to));
            state = b.0;
            opened = b.1;
            frames = b.2 ∙ sym (ap (λ (q : State). q.frames) last);
            cells = b.3 ∙ sym (ap (λ (q : State). q.cells) last);
            before = reached_in h.run;
            split = longer_split;
            told = all_told;
          }

    -- by what comes next of the run's last state
    abbrev StandsNow : Type 0
    StandsNow = Stands parts predicates f bounds ends pairs new now after (n + 1) x

    stops_at : (at : ℕ) (to : State) → next parts x z ≡ Moved at to → ((m : ℕ) (s : Step) → slice_get t.ways m ≡ Some s → s.edge ≡ at → ⊥) → ¬ IsWithin bounds.turns bounds.frames bounds.answers (pair_along parts (last_pair_in parts f h.run) at).context
    stops_at at to is none within =
        let follows = steps_follow parts x z to at p g (last_is_state parts entry f x h.run g own given.start h.begins) is fits in
        let P : Pair → Type 0 = λ q. IsWithin bounds.turns bounds.frames bounds.answers (pair_along parts q at).context in
        let step = (reached.leading n p t.ways t.pair_is t.ways_are).all at follows.0.0 (pair_along parts p at) (record { follows = follows.0.1; within = subst P same_pair within }) in
        none step.0 step.1 step.2 step.3

    by_next : ((number : ℕ) → number < bounds.answers → Agrees old answers w x number) → (o : Stepped) → next parts x z ≡ o → StandsNow
    by_next agrees (Moved at to) is =
        ⊎_elim
        (λ k. inl (goes_on at to is k.0 k.1 k.2 k.3 agrees))
        (λ none. inr (ends_here (Moved at to) is
        (λ a q e m s there along_is. let same : at ≡ a = cc in none m s there (along_is ∙ sym same))
        (λ a q e. let same : Moved at to ≡ Moved a q = sym is ∙ e in let edge : at ≡ a = cc in stops_at a q e (λ m s there along_is. none m s there (along_is ∙ sym edge)))))
        (find_step t.ways at)
    by_next agrees (Returned v) is = inr (ends_here (Returned v) is (λ a q e m s there along_is. absurd cc) (λ a q e. absurd cc))
    by_next agrees (Trapped q) is = inr (ends_here (Trapped q) is (λ a r e m s there along_is. absurd cc) (λ a r e. absurd cc))
    by_next agrees Blocked is = inr (ends_here Blocked is (λ a q e m s there along_is. absurd cc) (λ a q e. absurd cc))
    by_next agrees TooDeep is = inr (ends_here TooDeep is (λ a q e m s there along_is. absurd cc) (λ a q e. absurd cc))

  -- After a place was taken there stands of an input's run what stood before.
  pub stands_on : ((number : ℕ) → number < bounds.answers → Agrees old answers w x number) → Stands parts predicates f bounds ends pairs old entries agenda n x → Stands parts predicates f bounds ends pairs new now after (n + 1) x
  stands_on agrees h =
      ⊎_elim
      (λ waits. let later = waits.arrives.later in
      ⊎_elim
      (λ here. by_next waits here agrees (next parts x (last_in waits.run)) refl)
      (λ other. inl (still_waits waits (omega (arith, later, other))))
      (cases_eq waits.place n))
      (λ told. inr (stays_told told))
      h

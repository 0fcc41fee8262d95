-- When an input leaves bounds: the run goes on from the longest beginning within them.
use Rattle.std.proofs.Common.{◌≡◌, ℕ, ◌+◌, ◌≤◌, suc, false, List, [], ◌∷◌, ◌++◌, length, map, None, refl, sym, ap, subst, ◌∙◌, ◌⊎◌, ⊎_elim, inl, inr, arith, length-append}
use Rattle.std.proofs.lemmas.List.Elements.{All-cons, All-head, All-nil, All-tail}
use Rattle.std.specs.Prelude.{All}
use Rattle.c_meaning.proofs.RunLaws.{counted_over, moved_over, moved_same}
use Rattle.c_meaning.specs.Pairs.{IsRunWithin, last_pair_in, pair_along, pair_along_all, pairs_along}
use Rattle.c_meaning.specs.Runs.{AreMoves, IsBeginning, Move, Run, counts, last_in, last_state, states_of, state_moved}
use Rattle.c_meaning.specs.Steps.{next}
use Rattle.c_meaning.specs.declared.ends.Ends.TheVariants as counted
use Rattle.c_meaning.specs.declared.input.Input.{Input}
use Rattle.c_meaning.specs.declared.stepped.Stepped.{Stepped}
use Rattle.c_meaning.specs.declared.stepped.Stepped.TheVariants.{Moved, Returned, Trapped, Blocked, TooDeep}
use Rattle.cfa.specs.Contexts.{Context, FrameContext, IsWithin, Pair, first_pair}
use Rattle.cfa.specs.Each.{Each}
use Rattle.cfa.specs.declared.parts.Function.{Function}
use Rattle.cfa.specs.declared.parts.GraphParts.{GraphParts}
use Rattle.cfa.specs.declared.state.State.{State}
use Rattle.measurer_hits.proofs.run_laws.Eaches.{each_cons, each_none, each_or_not, le_or_not}
use Rattle.measurer_hits.specs.run_laws.Laws.{HitsStay, LongestLeaves, NoneEnds, NoneHitsAtAll, RunsLeave, RunsStay}

abbrev edges_of : List Move → List ℕ
edges_of ms = map (λ (m : Move). m.edge) ms

-- ---- the run goes on, or it ends

abbrev Goes : Stepped → Type 0
Goes x = counts counted.Any x ≡ false

over_or_goes : (x : Stepped) → (state_moved x ≡ None) ⊎ ((at : ℕ) × (to : State) × (x ≡ Moved at to))
over_or_goes (Moved at to) = inr (at, to, refl)
over_or_goes (Returned value) = inl refl
over_or_goes (Trapped trap) = inl refl
over_or_goes Blocked = inl refl
over_or_goes TooDeep = inl refl

over_stops : (x : Stepped) → state_moved x ≡ None → Goes x → ⊥
over_stops (Moved at to) over goes = absurd cc
over_stops (Returned value) over goes = absurd cc
over_stops (Trapped trap) over goes = absurd cc
over_stops Blocked over goes = absurd cc
over_stops TooDeep over goes = absurd cc

moved_goes : (x : Stepped) (at : ℕ) (to : State) → x ≡ Moved at to → Goes x
moved_goes x at to is = ap (counts counted.Any) is

module _ (parts : GraphParts) (input : Input) where
  -- the moves with one more
  pub snoc_moves : (s : State) (ms : List Move) (m : Move) → AreMoves parts input s ms → m.source ≡ last_state s ms → next parts input (last_state s ms) ≡ Moved m.edge m.target → AreMoves parts input s (ms ++ m ∷ [])
  snoc_moves s [] m h source comes = (source, comes, tt)
  snoc_moves s (n ∷ ms) m h source comes = (h.0, h.1, snoc_moves n.target ms m h.2 source comes)

  -- it goes on from each state, where it does from the last
  each_goes : (s : State) (ms : List Move) → AreMoves parts input s ms → Goes (next parts input (last_state s ms)) → All (λ t. Goes (next parts input t)) (states_of s ms)
  each_goes s [] h goes = All-cons (λ t. Goes (next parts input t)) s [] goes (All-nil (λ t. Goes (next parts input t)))
  each_goes s (m ∷ ms) h goes =
      All-cons (λ t. Goes (next parts input t)) s (states_of m.target ms) (moved_goes (next parts input s) m.edge m.target h.1) (each_goes m.target ms h.2 goes)

  last_goes : (s : State) (ms : List Move) → All (λ t. Goes (next parts input t)) (states_of s ms) → Goes (next parts input (last_state s ms))
  last_goes s [] all = All-head (λ t. Goes (next parts input t)) s [] all
  last_goes s (m ∷ ms) all = last_goes m.target ms (All-tail (λ t. Goes (next parts input t)) s (states_of m.target ms) all)

  module _ (turns frames answers : ℕ) where
    abbrev Within : Pair → Type 0
    Within p = IsWithin turns frames answers p.context

    -- moves are within bounds, where those to the end of the run are
    front_within : (s : State) (p : Pair) (ms ns : List Move) → AreMoves parts input s ms → AreMoves parts input s ns → state_moved (next parts input (last_state s ms)) ≡ None → Each (pairs_along parts p (edges_of ms)) (λ n q. Within q) → Each (pairs_along parts p (edges_of ns)) (λ n q. Within q)
    front_within s p ms [] h k over within = each_none Within
    front_within s p [] (n ∷ ns) h k over within = absurd (moved_over parts input s n.target n.edge k.1 over)
    front_within s p (m ∷ ms) (n ∷ ns) h k over within =
        let same = moved_same parts input s m.target n.target m.edge n.edge h.1 k.1 in
        let rest : AreMoves parts input m.target ns = subst (λ t. AreMoves parts input t ns) (sym same.1) k.2 in
        let more = front_within m.target (pair_along parts p m.edge) ms ns h.2 rest over (λ i q there. within (suc i) q there) in
        let all : Each (pairs_along parts p (edges_of (m ∷ ns))) (λ i q. Within q) =
        each_cons Within (pair_along parts p m.edge) (pairs_along parts (pair_along parts p m.edge) (edges_of ns)) (within 0 (pair_along parts p m.edge) refl) more in
        subst (λ at. Each (pair_along parts p at ∷ pairs_along parts (pair_along parts p at) (edges_of ns)) (λ i q. Within q)) same.0 all

    snoc_within : (p : Pair) (ms : List Move) (m : Move) → Each (pairs_along parts p (edges_of ms)) (λ n q. Within q) → Within (pair_along parts (pair_along_all parts p (edges_of ms)) m.edge) → Each (pairs_along parts p (edges_of (ms ++ m ∷ []))) (λ n q. Within q)
    snoc_within p [] m within last = each_cons Within (pair_along parts p m.edge) [] last (each_none Within)
    snoc_within p (n ∷ ms) m within last =
        each_cons Within (pair_along parts p n.edge) (pairs_along parts (pair_along parts p n.edge) (edges_of (ms ++ m ∷ []))) (within 0 (pair_along parts p n.edge) refl)
        (snoc_within (pair_along parts p n.edge) ms m (λ i q there. within (suc i) q there) last)

-- ---- bounds

module _ (turns frames answers : ℕ) where
  counter_or_not : (f : FrameContext) → Each f.counters (λ j n. n ≤ turns) ⊎ (¬ Each f.counters (λ j n. n ≤ turns))
  counter_or_not f = each_or_not (λ n. n ≤ turns) (λ n. le_or_not n turns) f.counters

  context_or_not : (c : Context) → IsWithin turns frames answers c ⊎ (¬ IsWithin turns frames answers c)
  context_or_not c =
      ⊎_elim
      (λ kept. ⊎_elim
      (λ few. ⊎_elim
      (λ taken. inl (record { turns_kept = kept; frames_kept = few; answers_kept = taken }))
      (λ no. inr (λ (h : IsWithin turns frames answers c). no h.answers_kept))
      (le_or_not c.taken answers))
      (λ no. inr (λ (h : IsWithin turns frames answers c). no h.frames_kept))
      (le_or_not (length c.frames) frames))
      (λ no. inr (λ (h : IsWithin turns frames answers c). no h.turns_kept))
      (each_or_not (λ (f : FrameContext). Each f.counters (λ j n. n ≤ turns)) counter_or_not c.frames)

  module _ (parts : GraphParts) (entry : Function) where
    -- a run is within the bounds or not
    pub within_or_not : (r : Run) → IsRunWithin turns frames answers parts entry r ⊎ (¬ IsRunWithin turns frames answers parts entry r)
    within_or_not r = each_or_not (λ (p : Pair). IsWithin turns frames answers p.context) (λ p. context_or_not p.context) (first_pair entry ∷ pairs_along parts (first_pair entry) (edges_of r.moves))

    module _ (input : Input) where
      -- each beginning is within the bounds, where the whole run is
      pub beginning_within : (r q : Run) → IsBeginning parts entry input r → IsBeginning parts entry input q → state_moved (next parts input (last_in r)) ≡ None → IsRunWithin turns frames answers parts entry r → IsRunWithin turns frames answers parts entry q
      beginning_within r q h k over within =
          let first : q.first ≡ r.first = k.start ∙ sym h.start in
          let moves : AreMoves parts input r.first q.moves = subst (λ t. AreMoves parts input t q.moves) first k.moves in
          each_cons (λ (p : Pair). IsWithin turns frames answers p.context) (first_pair entry) (pairs_along parts (first_pair entry) (edges_of q.moves)) (within 0 (first_pair entry) refl)
          (front_within parts input turns frames answers r.first (first_pair entry) r.moves q.moves h.moves moves over (λ i p there. within (suc i) p there))

      -- the beginning with one more move
      abbrev pub one_more : (r : Run) (at : ℕ) (to : State) → IsBeginning parts entry input r → next parts input (last_in r) ≡ Moved at to → (q : Run) × IsBeginning parts entry input q × (length q.moves ≡ length r.moves + 1)
      one_more r at to h comes =
          let m : Move = record { edge = at; source = last_in r; target = to } in
          let q : Run = record { first = r.first; moves = r.moves ++ m ∷ [] } in
          (q, record { start = h.start; moves = snoc_moves parts input r.first r.moves m h.moves refl comes }, length-append r.moves (m ∷ []))

      -- it is within the bounds, where its last pair is
      pub within_more : (r : Run) (at : ℕ) (to : State) (h : IsBeginning parts entry input r) (comes : next parts input (last_in r) ≡ Moved at to) → IsRunWithin turns frames answers parts entry r → IsWithin turns frames answers (pair_along parts (last_pair_in parts entry r) at).context → IsRunWithin turns frames answers parts entry (one_more r at to h comes).0
      within_more r at to h comes within last =
          let m : Move = record { edge = at; source = last_in r; target = to } in
          each_cons (λ (p : Pair). IsWithin turns frames answers p.context) (first_pair entry) (pairs_along parts (first_pair entry) (edges_of (r.moves ++ m ∷ []))) (within 0 (first_pair entry) refl)
          (snoc_within parts input turns frames answers (first_pair entry) r.moves m (λ i p there. within (suc i) p there) last)

pub longest_leaves : LongestLeaves
longest_leaves turns frames answers parts entry input r h = (
  λ leaves.
      ⊎_elim
      (λ over. absurd (leaves.outside (beginning_within turns frames answers parts entry input r leaves.run h.begins leaves.begins over h.within)))
      (λ goes. moved_goes (next parts input (last_in r)) goes.0 goes.1 goes.2)
      (over_or_goes (next parts input (last_in r))),
  λ goes.
      ⊎_elim
      (λ over. absurd (over_stops (next parts input (last_in r)) over goes))
      (λ on.
      let more = one_more turns frames answers parts entry input r on.0 on.1 h.begins on.2 in
      record { run = more.0; begins = more.1; outside = λ within. let le = h.longest more.0 more.1 within in absurd (omega (arith, le, more.2)) })
      (over_or_goes (next parts input (last_in r))),
)

pub none_ends : NoneEnds
none_ends turns frames answers parts entry input r h =
    let both = longest_leaves turns frames answers parts entry input r h in
    (λ leaves. each_goes parts input r.first r.moves h.begins.moves (both.0 leaves), λ all. both.1 (last_goes parts input r.first r.moves all))

pub runs_leave : RunsLeave
runs_leave turns frames answers parts entry input ends r h = (
  λ leaves within. leaves.outside (beginning_within turns frames answers parts entry input r leaves.run h.begins leaves.begins (counted_over ends (next parts input (last_in r)) h.counted) within),
  λ outside. record { run = r; begins = h.begins; outside = outside },
)

pub runs_stay : RunsStay
runs_stay turns frames answers parts entry input ends r stays h =
    ⊎_elim (λ within. within) (λ outside. absurd (stays (record { run = r; begins = h.begins; outside = outside }))) (within_or_not turns frames answers parts entry r)

pub hits_stay : HitsStay
hits_stay turns frames answers parts entry p plan ends goal input stays h =
    record { run = h.run; is_run = h.is_run; within = runs_stay turns frames answers parts entry input ends h.run stays h.is_run; hits = h.hits }

pub none_hits_at_all : NoneHitsAtAll
none_hits_at_all turns frames answers parts entry p plan ends goal stay none input given h =
    none input given (hits_stay turns frames answers parts entry p plan ends goal input (stay input given) h)

-- The sequence of states and its end.
use Rattle.std.proofs.Common.{◌≡◌, ℕ, ◌+◌, ◌-◌, ◌<◌, zero, suc, List, [], ◌∷◌, length, Some, None, Option, refl, sym, ap, subst, ◌∙◌, ⊎_elim, arith}
use Rattle.std.proofs.lemmas.Bool.{cases_lt}
use Rattle.std.proofs.lemmas.Option.{same_Some}
use Rattle.std.specs.Prelude.{IsTrue, option_and_then, slice_get}
use Rattle.cfa.specs.declared.parts.GraphParts.{GraphParts}
use Rattle.cfa.specs.declared.state.State.{State}
use Rattle.c_meaning.proofs.RunLaws.{counted_over, runs_by_ends, state_from_moved, state_from_over}
use Rattle.c_meaning.specs.Runs.{AreMoves, Move, Run, counts, last_in, last_state, state_after, state_from, state_moved, states_of}
use Rattle.c_meaning.specs.Starts.{start_of}
use Rattle.c_meaning.specs.Steps.{next}
use Rattle.c_meaning.specs.declared.input.Input.{Input}
use Rattle.c_meaning.specs.declared.stepped.Stepped.{Stepped}
use Rattle.c_meaning.specs.declared.stepped.Stepped.TheVariants.{Moved, Returned, Trapped, Blocked, TooDeep}
use Rattle.measurer_hits.specs.run_laws.Ends.{EndsFrom}
use Rattle.measurer_hits.specs.run_laws.Laws.{EndsAreRuns, EndsCompose, EndsHere, EndsOn, OneEnd, RunsEnd, StatesCompose}

and_then_twice : (o : Option State) (f g : State → Option State) → option_and_then g (option_and_then f o) ≡ option_and_then (λ (t : State). option_and_then g (f t)) o
and_then_twice None f g = refl
and_then_twice (Some t) f g = refl

and_then_some : (o : Option State) → option_and_then (λ (t : State). Some t) o ≡ o
and_then_some None = refl
and_then_some (Some t) = refl

pub states_compose : StatesCompose
states_compose parts input s n zero =
    let none : n + 0 ≡ n = omega arith in
    ap (state_from parts input s) none ∙ sym (and_then_some (state_from parts input s n))
states_compose parts input s n (suc m) =
    let more : n + suc m ≡ suc (n + m) = omega arith in
    ap (state_from parts input s) more ∙ ap (option_and_then (state_after parts input)) (states_compose parts input s n m)
    ∙ and_then_twice (state_from parts input s n) (λ (t : State). state_from parts input t m) (state_after parts input)

module _ (parts : GraphParts) (input : Input) where
  abbrev IsLast : State → Type 0
  IsLast s = state_moved (next parts input s) ≡ None

  -- from the state of a number on
  later : (s t : State) (n m : ℕ) → state_from parts input s n ≡ Some t → state_from parts input s (n + m) ≡ state_from parts input t m
  later s t n m is = states_compose parts input s n m ∙ ap (option_and_then (λ (u : State). state_from parts input u m)) is

  -- no state comes after the last
  none_after : (s t u : State) (n m : ℕ) → state_from parts input s n ≡ Some t → IsLast t → n < m → state_from parts input s m ≡ Some u → ⊥
  none_after s t u n m is last lt there =
      let rest : m ≡ n + suc (m - suc n) = omega arith in
      let none : state_from parts input s m ≡ None =
      ap (state_from parts input s) rest ∙ later s t n (suc (m - suc n)) is ∙ state_from_over parts input t last (m - suc n) in
      cc

  over_at : (s : State) (end : Stepped) (h : EndsFrom parts input s end) → IsLast h.last
  over_at s end h = ap state_moved h.comes ∙ h.over

  -- the last state is one
  same_last : (s : State) (a b : Stepped) (h : EndsFrom parts input s a) (g : EndsFrom parts input s b) → h.last ≡ g.last
  same_last s a b h g =
      ⊎_elim
      (λ lt. absurd (none_after s h.last g.last h.number g.number h.reached (over_at s a h) lt g.reached))
      (λ le. ⊎_elim
      (λ lt. absurd (none_after s g.last h.last g.number h.number g.reached (over_at s b g) lt h.reached))
      (λ ge. let same : h.number ≡ g.number = omega arith in same_Some h.last g.last (sym h.reached ∙ ap (state_from parts input s) same ∙ g.reached))
      (cases_lt g.number h.number))
      (cases_lt h.number g.number)

pub one_end : OneEnd
one_end parts input s a b h g = sym h.comes ∙ ap (next parts input) (same_last parts input s a b h g) ∙ g.comes

pub ends_compose : EndsCompose
ends_compose parts input s t n end is = (
  λ h.
      ⊎_elim
      (λ lt. absurd (none_after parts input s h.last t h.number n h.reached (over_at parts input s end h) lt is))
      (λ le.
      let rest : h.number ≡ n + (h.number - n) = omega arith in
      record {
        number = h.number - n;
        last = h.last;
        reached = sym (later parts input s t n (h.number - n) is) ∙ ap (state_from parts input s) (sym rest) ∙ h.reached;
        comes = h.comes;
        over = h.over;
      })
      (cases_lt h.number n),
  λ h. record {
    number = n + h.number;
    last = h.last;
    reached = later parts input s t n h.number is ∙ h.reached;
    comes = h.comes;
    over = h.over;
  },
)

pub ends_on : EndsOn
ends_on parts input s to at end is = ends_compose parts input s to 1 end (ap state_moved is)

pub ends_here : EndsHere
ends_here parts input s end over =
    let here : EndsFrom parts input s (next parts input s) = record { number = 0; last = s; reached = refl; comes = refl; over = over } in
    (λ h. one_end parts input s (next parts input s) end here h, λ is. subst (EndsFrom parts input s) is here)

-- ---- runs and their ends

last_there : (s : State) (ms : List Move) → slice_get (states_of s ms) (length ms) ≡ Some (last_state s ms)
last_there s [] = refl
last_there s (m ∷ ms) = last_there m.target ms

module _ (parts : GraphParts) (input : Input) where
  -- moves from a state to this one
  record MovesTo (s last : State) : Type 0 where
    moves : List Move
    are : AreMoves parts input s moves
    to : last_state s moves ≡ last

  abbrev one_more : (s to last : State) (at : ℕ) → next parts input s ≡ Moved at to → MovesTo to last → MovesTo s last
  one_more s to last at is rest = record { moves = record { edge = at; source = s; target = to } ∷ rest.moves; are = (refl, is, rest.are); to = rest.to }

  no_more : {A : Type 0} (s last : State) (n : ℕ) → IsLast parts input s → state_from parts input s (suc n) ≡ Some last → A
  no_more s last n over is = let none = state_from_over parts input s over n in absurd cc

  moves_to : (s last : State) (n : ℕ) → state_from parts input s n ≡ Some last → MovesTo s last
  moves_to s last zero is = record { moves = []; are = tt; to = same_Some s last is }
  moves_to s last (suc n) is = by (λ to. moves_to to last n) (next parts input s) refl
    where
      by : ((to : State) → state_from parts input to n ≡ Some last → MovesTo to last) → (x : Stepped) → next parts input s ≡ x → MovesTo s last
      by more (Moved at to) h = one_more s to last at h (more to (sym (state_from_moved parts input s to at h n) ∙ is))
      by more (Returned value) h = no_more s last n (ap state_moved h) is
      by more (Trapped trap) h = no_more s last n (ap state_moved h) is
      by more Blocked h = no_more s last n (ap state_moved h) is
      by more TooDeep h = no_more s last n (ap state_moved h) is

pub runs_end : RunsEnd
runs_end parts entry input ends r h = (
  record {
    number = length r.moves;
    last = last_in r;
    reached = sym (h.whole (length r.moves)) ∙ last_there r.first r.moves;
    comes = refl;
    over = counted_over ends (next parts input (last_in r)) h.counted;
  },
  h.counted,
)

pub ends_are_runs : EndsAreRuns
ends_are_runs parts entry input ends end h counted =
    let start = start_of parts entry input.words in
    let m = moves_to parts input start h.last h.number h.reached in
    let r : Run = record { first = start; moves = m.moves } in
    let comes : next parts input (last_in r) ≡ end = ap (next parts input) m.to ∙ h.comes in
    (r, runs_by_ends parts entry input ends r (record { start = refl; moves = m.are }) (subst (λ x. IsTrue (counts ends x)) (sym comes) counted), comes)

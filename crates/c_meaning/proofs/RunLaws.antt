-- Runs, a move at a time.
use Rattle.std.proofs.Common.{◌≡◌, ℕ, zero, suc, List, [], ◌∷◌, Some, None, refl, sym, ap, subst, ◌∙◌}
use Rattle.std.specs.Prelude.{IsTrue, option_and_then, slice_get}
use Rattle.cfa.specs.declared.parts.GraphParts.{GraphParts}
use Rattle.cfa.specs.declared.state.State.{State}
use Rattle.c_meaning.specs.declared.ends.Ends.{Ends}
use Rattle.c_meaning.specs.declared.input.Input.{Input}
use Rattle.c_meaning.specs.declared.stepped.Stepped.{Stepped}
use Rattle.c_meaning.specs.declared.stepped.Stepped.TheVariants.{Moved, Returned, Trapped, Blocked, TooDeep}
use Rattle.c_meaning.specs.Laws.{BeginningStates, RunsByTheirEnds, OneRun}
use Rattle.c_meaning.specs.Runs.{Move, Run, AreMoves, counts, last_in, last_state, states_of, state_after, state_from, state_moved}
use Rattle.c_meaning.specs.Steps.{next}

-- what is counted doesn't go on
pub counted_over : (ends : Ends) (x : Stepped) → IsTrue (counts ends x) → state_moved x ≡ None
counted_over ends (Moved edge to) h = absurd cc
counted_over ends (Returned value) h = refl
counted_over ends (Trapped trap) h = refl
counted_over ends Blocked h = refl
counted_over ends TooDeep h = refl

pub same_move : (a b : ℕ) (s t s' t' : State) → a ≡ b → s ≡ s' → t ≡ t' → let one : Move = record { edge = a; source = s; target = t } in let other : Move = record { edge = b; source = s'; target = t' } in one ≡ other
same_move a b s t s' t' e p q = cc

pub same_run : (s t : State) (ms ns : List Move) → s ≡ t → ms ≡ ns → let one : Run = record { first = s; moves = ms } in let other : Run = record { first = t; moves = ns } in one ≡ other
same_run s t ms ns e p = cc

module _ (parts : GraphParts) (input : Input) where
  abbrev IsOver : State → Type 0
  IsOver s = state_moved (next parts input s) ≡ None

  -- the sequence after its first state
  pub state_from_moved : (s to : State) (at : ℕ) → next parts input s ≡ Moved at to → (n : ℕ) → state_from parts input s (suc n) ≡ state_from parts input to n
  state_from_moved s to at is zero = ap state_moved is
  state_from_moved s to at is (suc n) = ap (option_and_then (state_after parts input)) (state_from_moved s to at is n)

  pub state_from_over : (s : State) → IsOver s → (n : ℕ) → state_from parts input s (suc n) ≡ None
  state_from_over s over zero = over
  state_from_over s over (suc n) = ap (option_and_then (state_after parts input)) (state_from_over s over n)

  -- the states before and after moves are the first of the sequence
  pub moves_states : (s : State) (ms : List Move) → AreMoves parts input s ms → (n : ℕ) (t : State) → slice_get (states_of s ms) n ≡ Some t → state_from parts input s n ≡ Some t
  moves_states s ms h zero t e = e
  moves_states s [] h (suc n) t e = absurd cc
  moves_states s (m ∷ ms) h (suc n) t e = state_from_moved s m.target m.edge h.1 n ∙ moves_states m.target ms h.2 n t e

  -- and all of it, where the run doesn't go on
  pub moves_whole : (s : State) (ms : List Move) → AreMoves parts input s ms → IsOver (last_state s ms) → (n : ℕ) → slice_get (states_of s ms) n ≡ state_from parts input s n
  moves_whole s ms h over zero = refl
  moves_whole s [] h over (suc n) = sym (state_from_over s over n)
  moves_whole s (m ∷ ms) h over (suc n) = moves_whole m.target ms h.2 over n ∙ sym (state_from_moved s m.target m.edge h.1 n)

  pub moved_over : (s to : State) (at : ℕ) → next parts input s ≡ Moved at to → IsOver s → ⊥
  moved_over s to at is over = let e = sym over ∙ ap state_moved is in cc

  pub moved_same : (s a b : State) (i j : ℕ) → next parts input s ≡ Moved i a → next parts input s ≡ Moved j b → (i ≡ j) × (a ≡ b)
  moved_same s a b i j p q = let e : Moved i a ≡ Moved j b = sym p ∙ q in (cc, cc)

  -- moves to the end of a run are determined
  pub moves_same : (s : State) (ms ns : List Move) → AreMoves parts input s ms → AreMoves parts input s ns → IsOver (last_state s ms) → IsOver (last_state s ns) → ms ≡ ns
  moves_same s [] [] h k over done = refl
  moves_same s [] (n ∷ ns) h k over done = absurd (moved_over s n.target n.edge k.1 over)
  moves_same s (m ∷ ms) [] h k over done = absurd (moved_over s m.target m.edge h.1 done)
  moves_same s (m ∷ ms) (n ∷ ns) h k over done =
      let same = moved_same s m.target n.target m.edge n.edge h.1 k.1 in
      let one : m ≡ n = same_move m.edge n.edge m.source m.target n.source n.target same.0 (h.0 ∙ sym k.0) same.1 in
      let rest : AreMoves parts input m.target ns = subst (λ t. AreMoves parts input t ns) (sym same.1) k.2 in
      let last : IsOver (last_state m.target ns) = subst (λ t. IsOver (last_state t ns)) (sym same.1) done in
      let more : ms ≡ ns = moves_same m.target ms ns h.2 rest over last in
      cc

pub beginning_states : BeginningStates
beginning_states parts entry input r h n s e =
    subst (λ t. state_from parts input t n ≡ Some s) h.start (moves_states parts input r.first r.moves h.moves n s e)

pub runs_by_ends : RunsByTheirEnds
runs_by_ends parts entry input ends r h counted =
    let over = counted_over ends (next parts input (last_in r)) counted in
    record {
      begins = h;
      whole = λ n. moves_whole parts input r.first r.moves h.moves over n ∙ ap (λ t. state_from parts input t n) h.start;
      counted = counted;
    }

pub one_run : OneRun
one_run parts entry input ends other r q h k =
    let first : r.first ≡ q.first = h.begins.start ∙ sym k.begins.start in
    let over = counted_over ends (next parts input (last_in r)) h.counted in
    let done = counted_over other (next parts input (last_in q)) k.counted in
    let moves : AreMoves parts input r.first q.moves = subst (λ t. AreMoves parts input t q.moves) (sym first) k.begins.moves in
    let last : state_moved (next parts input (last_state r.first q.moves)) ≡ None = subst (λ t. state_moved (next parts input (last_state t q.moves)) ≡ None) (sym first) done in
    same_run r.first q.first r.moves q.moves first (moves_same parts input r.first r.moves q.moves h.begins.moves moves over last)

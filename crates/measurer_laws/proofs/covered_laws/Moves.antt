-- The edges of a run's moves, by number.
use Rattle.std.proofs.Common.{◌≡◌, ℕ, zero, suc, ◌<◌, List, [], ◌∷◌, length, map, Some, None, refl, sym, ap, ◌∙◌, arith}
use Rattle.std.specs.Prelude.{slice_get, slice_index}
use Rattle.std.proofs.lemmas.Option.{same_Some}
use Rattle.cfa.specs.declared.parts.GraphParts.{GraphParts}
use Rattle.cfa.specs.declared.state.State.{State}
use Rattle.c_meaning.proofs.RunLaws.{moved_over, moved_same, state_from_moved, state_from_over}
use Rattle.c_meaning.specs.Runs.{AreMoves, Move, last_state, state_from, state_moved, states_of}
use Rattle.c_meaning.specs.Steps.{next}
use Rattle.c_meaning.specs.declared.input.Input.{Input}
use Rattle.c_meaning.specs.declared.stepped.Stepped.TheVariants.{Moved}

abbrev pub edges_of : List Move → List ℕ
edges_of ms = map (λ (m : Move). m.edge) ms

pub edges_length : (ms : List Move) → length (edges_of ms) ≡ length ms
edges_length [] = refl
edges_length (m ∷ ms) = ap suc (edges_length ms)

pub states_length : (s : State) (ms : List Move) → length (states_of s ms) ≡ suc (length ms)
states_length s [] = refl
states_length s (m ∷ ms) = ap suc (states_length m.target ms)

pub last_there : (s : State) (ms : List Move) → slice_get (states_of s ms) (length ms) ≡ Some (last_state s ms)
last_there s [] = refl
last_there s (m ∷ ms) = last_there m.target ms

module _ (parts : GraphParts) (input : Input) where
  -- the edge of a number leads on from the state of that number
  pub edge_at : (s : State) (ms : List Move) → AreMoves parts input s ms → (i : ℕ) → i < length ms
      → (from : State) × (to : State) × (state_from parts input s i ≡ Some from) × (next parts input from ≡ Moved (slice_index (edges_of ms) i) to)
  edge_at s [] h i lt = absurd (omega arith)
  edge_at s (m ∷ ms) h zero lt = (s, m.target, refl, h.1)
  edge_at s (m ∷ ms) h (suc i) lt =
      let r = edge_at m.target ms h.2 i (omega arith) in
      (r.0, r.1, state_from_moved parts input s m.target m.edge h.1 i ∙ r.2, r.3)

  -- what leads on from the state of a number is the edge of that number
  pub taken_at : (s : State) (ms : List Move) → AreMoves parts input s ms → state_moved (next parts input (last_state s ms)) ≡ None
      → (i k : ℕ) (from to : State) → state_from parts input s i ≡ Some from → next parts input from ≡ Moved k to → (i < length ms) × (slice_index (edges_of ms) i ≡ k)
  taken_at s [] h over zero k from to at goes =
      let same : s ≡ from = same_Some s from at in
      absurd (moved_over parts input s to k (ap (next parts input) same ∙ goes) over)
  taken_at s [] h over (suc i) k from to at goes = let none = sym (state_from_over parts input s over i) ∙ at in absurd cc
  taken_at s (m ∷ ms) h over zero k from to at goes =
      let same : s ≡ from = same_Some s from at in
      (omega arith, (moved_same parts input s m.target to m.edge k h.1 (ap (next parts input) same ∙ goes)).0)
  taken_at s (m ∷ ms) h over (suc i) k from to at goes =
      let r = taken_at m.target ms h.2 over i k from to (sym (state_from_moved parts input s m.target m.edge h.1 i) ∙ at) goes in
      let less = r.0 in
      (omega (arith, less), r.1)

-- The last state of a run, and the pair that it fits.
use Rattle.std.proofs.Common.{◌≡◌, ℕ, List, [], ◌∷◌, map, length, Some, refl}
use Rattle.std.specs.Prelude.{slice_get}
use Rattle.std.specs.List.{AllZip}
use Rattle.cfa.specs.declared.parts.Function.{Function}
use Rattle.cfa.specs.declared.parts.GraphParts.{GraphParts}
use Rattle.cfa.specs.declared.state.State.{State}
use Rattle.cfa.specs.Contexts.{Pair, first_pair}
use Rattle.cfa.specs.Graph.{IsGraph}
use Rattle.cfa.specs.States.{IsState}
use Rattle.c_meaning.specs.declared.input.Input.{Input}
use Rattle.c_meaning.specs.Pairs.{Fits, last_pair_in, pair_along, pair_along_all, pairs_along}
use Rattle.c_meaning.specs.Runs.{IsBeginning, Move, Run, last_in, last_state, states_of}
use Rattle.c_meaning.specs.Starts.{CanStart}
use Rattle.c_meaning.proofs.PairLaws.{run_states, runs_walk}

last_at : (s : State) (ms : List Move) → slice_get (states_of s ms) (length ms) ≡ Some (last_state s ms)
last_at s [] = refl
last_at s (m ∷ ms) = last_at m.target ms

fits_last : (parts : GraphParts) (p : Pair) (s : State) (ms : List Move) → AllZip Fits (p ∷ pairs_along parts p (map (λ (m : Move). m.edge) ms)) (states_of s ms) → Fits (pair_along_all parts p (map (λ (m : Move). m.edge) ms)) (last_state s ms)
fits_last parts p s [] h = h.0
fits_last parts p s (m ∷ ms) h = fits_last parts (pair_along parts p m.edge) m.target ms h.1

module _ (parts : GraphParts) (k : ℕ) (f : Function) (x : Input) (r : Run) (g : IsGraph parts) (own : slice_get parts.functions k ≡ Some f) (can : CanStart f x.words) (h : IsBeginning parts f x r) where
  pub last_is_state : IsState parts (last_in r)
  last_is_state = run_states parts k f x r g own can h (length r.moves) (last_in r) (last_at r.first r.moves)

  pub last_fits : Fits (last_pair_in parts f r) (last_in r)
  last_fits = fits_last parts (first_pair f) r.first r.moves (runs_walk parts k f x r g own can h).1

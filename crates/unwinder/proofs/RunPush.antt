-- Runs that go on by one step.
use Rattle.std.proofs.Common.{◌≡◌, ℕ, List, [], ◌∷◌, ◌++◌, Some, refl, sym, ap, subst, ◌∙◌, ⊎_elim}
use Rattle.std.specs.Prelude.{slice_get}
use Rattle.std.proofs.lemmas.List.{map_push}
use Rattle.cfa.specs.declared.parts.Function.{Function}
use Rattle.cfa.specs.declared.parts.GraphParts.{GraphParts}
use Rattle.cfa.specs.declared.state.State.{State}
use Rattle.cfa.specs.Contexts.{IsWithin, Pair, first_pair}
use Rattle.c_meaning.specs.declared.input.Input.{Input}
use Rattle.c_meaning.specs.declared.stepped.Stepped.TheVariants.{Moved}
use Rattle.c_meaning.specs.Pairs.{IsRunWithin, last_pair_in, pair_along, pair_along_all, pairs_along, pairs_in}
use Rattle.c_meaning.specs.Runs.{AreMoves, IsBeginning, Move, Run, edges_in, last_in, last_state}
use Rattle.c_meaning.specs.Steps.{next}
use Rattle.c_meaning.proofs.Slices.{slice_get_push}

module _ (parts : GraphParts) where
  -- along one more edge
  pub pairs_push : (p : Pair) (edges : List ℕ) (at : ℕ) → pairs_along parts p (edges ++ at ∷ []) ≡ pairs_along parts p edges ++ pair_along parts (pair_along_all parts p edges) at ∷ []
  pairs_push p [] at = refl
  pairs_push p (e ∷ edges) at = ap (λ ps. pair_along parts p e ∷ ps) (pairs_push (pair_along parts p e) edges at)

  pub all_push : (p : Pair) (edges : List ℕ) (at : ℕ) → pair_along_all parts p (edges ++ at ∷ []) ≡ pair_along parts (pair_along_all parts p edges) at
  all_push p [] at = refl
  all_push p (e ∷ edges) at = all_push (pair_along parts p e) edges at

  pub moves_push : (input : Input) (s : State) (ms : List Move) (m : Move) → AreMoves parts input s ms → m.source ≡ last_state s ms → next parts input (last_state s ms) ≡ Moved m.edge m.target → AreMoves parts input s (ms ++ m ∷ [])
  moves_push input s [] m h e n = (e, n, tt)
  moves_push input s (o ∷ ms) m h e n = (h.0, h.1, moves_push input o.target ms m h.2 e n)

pub last_push : (s : State) (ms : List Move) (m : Move) → last_state s (ms ++ m ∷ []) ≡ m.target
last_push s [] m = refl
last_push s (o ∷ ms) m = last_push o.target ms m

-- a run that goes on to a state along an edge
abbrev pub longer : Run → ℕ → State → Run
longer r at to = record { first = r.first; moves = r.moves ++ record { edge = at; source = last_in r; target = to } ∷ [] }

module _ (parts : GraphParts) (f : Function) (input : Input) (r : Run) (at : ℕ) (to : State) where
  pub longer_begins : IsBeginning parts f input r → next parts input (last_in r) ≡ Moved at to → IsBeginning parts f input (longer r at to)
  longer_begins b n = record { start = b.start; moves = moves_push parts input r.first r.moves _ b.moves refl n }

  pub longer_last : last_in (longer r at to) ≡ to
  longer_last = last_push r.first r.moves _

  pub longer_edges : edges_in (longer r at to) ≡ edges_in r ++ at ∷ []
  longer_edges = map_push (λ (m : Move). m.edge) r.moves _

  pub longer_pair : last_pair_in parts f (longer r at to) ≡ pair_along parts (last_pair_in parts f r) at
  longer_pair = ap (pair_along_all parts (first_pair f)) longer_edges ∙ all_push parts (first_pair f) (edges_in r) at

  pub longer_pairs : pairs_in parts f (longer r at to) ≡ pairs_in parts f r ++ pair_along parts (last_pair_in parts f r) at ∷ []
  longer_pairs = ap (λ es. first_pair f ∷ pairs_along parts (first_pair f) es) longer_edges ∙ ap (λ ps. first_pair f ∷ ps) (pairs_push parts (first_pair f) (edges_in r) at)

  pub longer_within : (turns frames answers : ℕ) → IsRunWithin turns frames answers parts f r → IsWithin turns frames answers (pair_along parts (last_pair_in parts f r) at).context → IsRunWithin turns frames answers parts f (longer r at to)
  longer_within turns frames answers h w n p e =
      ⊎_elim
      (λ old. h n p old.1)
      (λ new. subst (λ (q : Pair). IsWithin turns frames answers q.context) (sym new.1) w)
      (slice_get_push (pairs_in parts f r) (pair_along parts (last_pair_in parts f r) at) n p (subst (λ ps. slice_get ps n ≡ Some p) longer_pairs e))

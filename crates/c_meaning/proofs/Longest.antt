-- The longest beginning of a run that is within bounds.
use Rattle.std.proofs.Common.{◌≡◌, ℕ, suc, ◌≤◌, List, [], ◌∷◌, length, map, refl, sym, subst, ◌∙◌, arith}
use Rattle.cfa.specs.declared.parts.GraphParts.{GraphParts}
use Rattle.cfa.specs.declared.state.State.{State}
use Rattle.cfa.specs.Contexts.{Pair, IsWithin, first_pair}
use Rattle.cfa.specs.Each.{Each}
use Rattle.c_meaning.specs.declared.input.Input.{Input}
use Rattle.c_meaning.specs.declared.stepped.Stepped.TheVariants.{Moved}
use Rattle.c_meaning.specs.Laws.{LongestByTheirEnds, OneLongest, RunsWithin}
use Rattle.c_meaning.specs.Pairs.{pair_along, pair_along_all, pairs_along}
use Rattle.c_meaning.specs.Runs.{Move, AreMoves, last_in, last_state}
use Rattle.c_meaning.specs.Steps.{next}
use Rattle.c_meaning.proofs.RunLaws.{counted_over, moved_over, moved_same, same_move, same_run}

abbrev edges_of : List Move → List ℕ
edges_of ms = map (λ (m : Move). m.edge) ms

module _ (parts : GraphParts) (input : Input) where
  -- moves as many are the same
  moves_as_many : (s : State) (ms ns : List Move) → AreMoves parts input s ms → AreMoves parts input s ns → length ms ≡ length ns → ms ≡ ns
  moves_as_many s [] [] h k long = refl
  moves_as_many s [] (n ∷ ns) h k long = absurd (omega (arith, long))
  moves_as_many s (m ∷ ms) [] h k long = absurd (omega (arith, long))
  moves_as_many s (m ∷ ms) (n ∷ ns) h k long =
      let same = moved_same parts input s m.target n.target m.edge n.edge h.1 k.1 in
      let one : m ≡ n = same_move m.edge n.edge m.source m.target n.source n.target same.0 (h.0 ∙ sym k.0) same.1 in
      let rest : AreMoves parts input m.target ns = subst (λ t. AreMoves parts input t ns) (sym same.1) k.2 in
      let more : ms ≡ ns = moves_as_many m.target ms ns h.2 rest (omega (arith, long)) in
      cc

  module _ (turns frames answers : ℕ) where
    abbrev Within : Pair → Type 0
    Within p = IsWithin turns frames answers p.context

    -- the run goes on from a state, whose pair this is, to no state within the bounds
    abbrev Stops : State → Pair → Type 0
    Stops s p = (at : ℕ) (to : State) → next parts input s ≡ Moved at to → ¬ Within (pair_along parts p at)

    -- moves within bounds are no more than those after which the run stops being within them
    no_longer : (s : State) (p : Pair) (ms ns : List Move) → AreMoves parts input s ms → AreMoves parts input s ns → Stops (last_state s ms) (pair_along_all parts p (edges_of ms)) → Each (pairs_along parts p (edges_of ns)) (λ n q. Within q) → length ns ≤ length ms
    no_longer s p ms [] h k stops within = omega arith
    no_longer s p [] (n ∷ ns) h k stops within =
        absurd (stops n.edge n.target k.1 (within 0 (pair_along parts p n.edge) refl))
    no_longer s p (m ∷ ms) (n ∷ ns) h k stops within =
        let same = moved_same parts input s m.target n.target m.edge n.edge h.1 k.1 in
        let rest : AreMoves parts input m.target ns = subst (λ t. AreMoves parts input t ns) (sym same.1) k.2 in
        let later : Each (pairs_along parts (pair_along parts p n.edge) (edges_of ns)) (λ i q. Within q) = λ i q e. within (suc i) q e in
        let here : Each (pairs_along parts (pair_along parts p m.edge) (edges_of ns)) (λ i q. Within q) = subst (λ at. Each (pairs_along parts (pair_along parts p at) (edges_of ns)) (λ i q. Within q)) (sym same.0) later in
        let more = no_longer m.target (pair_along parts p m.edge) ms ns h.2 rest stops here in
        omega (arith, more)

pub longest_by_ends : LongestByTheirEnds
longest_by_ends turns frames answers parts entry input r h within stops = record {
  begins = h;
  within = within;
  longest = λ q k other.
      let first : q.first ≡ r.first = k.start ∙ sym h.start in
      let moves : AreMoves parts input r.first q.moves = subst (λ t. AreMoves parts input t q.moves) first k.moves in
      no_longer parts input turns frames answers r.first (first_pair entry) r.moves q.moves h.moves moves stops (λ i p e. other (suc i) p e);
}

pub one_longest : OneLongest
one_longest turns frames answers parts entry input r q h k =
    let first : r.first ≡ q.first = h.begins.start ∙ sym k.begins.start in
    let moves : AreMoves parts input r.first q.moves = subst (λ t. AreMoves parts input t q.moves) (sym first) k.begins.moves in
    let most = h.longest q k.begins k.within in
    let least = k.longest r h.begins h.within in
    same_run r.first q.first r.moves q.moves first (moves_as_many parts input r.first r.moves q.moves h.begins.moves moves (omega (arith, most, least)))

pub runs_within : RunsWithin
runs_within turns frames answers parts entry input ends r h = (
  λ within.
      let over = counted_over ends (next parts input (last_in r)) h.counted in
      longest_by_ends turns frames answers parts entry input r h.begins within (λ at to is. absurd (moved_over parts input (last_in r) to at is over)),
  λ longest. longest.within,
)

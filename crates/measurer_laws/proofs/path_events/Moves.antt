-- What the edges of moves tell.
use Rattle.std.proofs.Common.{◌≡◌, ℕ, suc, ◌+◌, ◌≤◌, List, [], ◌∷◌, ◌++◌, length, map, Some, refl, sym, ap, subst, ◌∙◌, arith, length-append}
use Rattle.std.specs.Prelude.{slice_get}
use Rattle.cfa.specs.declared.parts.Edge.{Edge}
use Rattle.cfa.specs.declared.parts.GraphParts.{GraphParts}
use Rattle.cfa.specs.declared.state.State.{State}
use Rattle.c_meaning.specs.declared.input.Input.{Input}
use Rattle.c_meaning.specs.declared.stepped.Stepped.TheVariants.{Moved}
use Rattle.c_meaning.specs.Runs.{AreMoves, Move, last_state, state_from}
use Rattle.c_meaning.specs.Steps.{next}
use Rattle.c_meaning.proofs.RunLaws.{state_from_moved}
use Rattle.tree_events.specs.declared.edge_events.event.Event.{Event}
use Rattle.tree_events.specs.edge_events.Told.{told}
use Rattle.tree_events_laws.specs.expression_events.Follows.{edge_tells, step_tells, tells}
use Rattle.tree_events_laws.proofs.expression_events.Follows.{tells_add}
use Rattle.measurer_laws.specs.path_events.Laws.{all_tell}
use Rattle.measurer_laws.proofs.path_events.Edges.{edge_there}

abbrev pub edges_of : List Move → List ℕ
edges_of ms = map (λ (m : Move). m.edge) ms

-- an edge tells something
told_some : (e : Edge) → 1 ≤ length (told e)
unfolding told
told_some e = omega arith

module _ (parts : GraphParts) (input : Input) where
  -- the last state of moves is that of their number
  pub last_there : (s : State) (ms : List Move) → AreMoves parts input s ms → state_from parts input s (length ms) ≡ Some (last_state s ms)
  last_there s [] h = refl
  last_there s (m ∷ ms) h = state_from_moved parts input s m.target m.edge h.1 (length ms) ∙ last_there m.target ms h.2

  tells_first : (s : State) (m : Move) → next parts input s ≡ Moved m.edge m.target → tells parts input 1 s ≡ edge_tells (slice_get parts.edges m.edge)
  tells_first s m goes = ap (step_tells parts input) goes

  -- the moves tell what their edges tell
  pub tells_along : (s : State) (ms : List Move) → AreMoves parts input s ms → tells parts input (length ms) s ≡ all_tell parts (edges_of ms)
  tells_along s [] h = refl
  tells_along s (m ∷ ms) h =
      let one : length ms + 1 ≡ suc (length ms) = omega arith in
      ap (λ n. tells parts input n s) (sym one)
      ∙ tells_add parts input 1 (length ms) s m.target (state_from_moved parts input s m.target m.edge h.1 0)
      ∙ ap (λ (es : List Event). es ++ tells parts input (length ms) m.target) (tells_first s m h.1)
      ∙ ap (λ (es : List Event). edge_tells (slice_get parts.edges m.edge) ++ es) (tells_along m.target ms h.2)

  -- at least one event each
  pub long : (s : State) (ms : List Move) → AreMoves parts input s ms → length ms ≤ length (all_tell parts (edges_of ms))
  long s [] h = omega arith
  long s (m ∷ ms) h =
      let e = edge_there parts input s m.edge m.target h.1 in
      let one : 1 ≤ length (edge_tells (slice_get parts.edges m.edge)) = subst (λ o. 1 ≤ length (edge_tells o)) (sym e.1) (told_some e.0) in
      let rest = long m.target ms h.2 in
      let sum = length-append (edge_tells (slice_get parts.edges m.edge)) (all_tell parts (edges_of ms)) in
      omega (arith, one, rest, sum)

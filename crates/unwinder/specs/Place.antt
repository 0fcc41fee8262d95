-- What taking a place comes to.
use Rattle.std.specs.Prelude.{◌≡◌, ℕ, ◌+◌, ◌*◌, true, All, List, Some, None, length, map, slice_get}
use Rattle.circuit.specs.Truth.{World}
use Rattle.circuit.specs.Wires.{IsWire, lit_holds}
use Rattle.circuit.specs.declared.lit.Gate.{Gate}
use Rattle.circuit.specs.declared.lit.Lit.{Lit}
use Rattle.bit_words.specs.Words.{Grows}
use Rattle.cfa.specs.declared.parts.Edge.{Edge}
use Rattle.cfa.specs.declared.parts.GraphParts.{GraphParts}
use Rattle.cfa.specs.declared.state.Predicates.{Predicates}
use Rattle.cfa.specs.Contexts.{Follows, Pair}
use Rattle.c_meaning.specs.declared.ends.Ends.{Ends}
use Rattle.unwinder_reach.specs.declared.reached.step.Step.{Step}
use Rattle.sym_expr.specs.Weights.{operations_weight}
use Rattle.sym_expr.specs.sym_steps.Weights.{most_step_wires}
use Rattle.unwinder_reach.specs.unwinding_size.Sizes.{predicates_weight}
use Rattle.unwinder.specs.declared.arrival.Arrival.{Arrival}
use Rattle.unwinder.specs.declared.merging.Met.{Met}
use Rattle.unwinder.specs.declared.taking.Place.{Place}
use Rattle.unwinder.specs.Agenda.{IsArrival, TakesIn, entry_at}
use Rattle.unwinder.specs.Meeting.{Meets, cells_at, most_merge_wires}

-- the wires of a place once its ways have become one
abbrev pub most_open_wires : GraphParts → Predicates → Pair → ℕ → ℕ
most_open_wires parts predicates p steps = (31 * predicates_weight parts predicates p.node + 65 * length predicates.meanings) + most_step_wires (operations_weight parts p.node) + 3 + steps

-- the most wires of a place into which so many ways lead, with so many steps from it
abbrev pub most_place_wires : GraphParts → Predicates → ℕ → Pair → ℕ → ℕ → ℕ
most_place_wires parts predicates entry p ways steps =
    most_merge_wires (cells_at parts entry p) ways + most_open_wires parts predicates p steps

-- A place that was taken: an entry for each way into it, and an arrival for each step from it, which say in every world
-- what is so there, and lead to states at the pairs that follow.
pub record IsPlace (parts : GraphParts) (predicates : Predicates) (entry : ℕ) (ends : Ends) (answers : List (List Lit)) (old new : List Gate) (row : List Arrival) (p : Pair) (steps : List Step) (place : Place) : Type 0 where
  pub truths : List Lit
  pub ended : Lit
  pub entries : place.entries ≡ map (entry_at p.node truths ended) row
  pub truth_wires : All (IsWire new) truths
  pub truth_count : length truths ≡ length predicates.meanings
  pub ended_wire : IsWire new ended
  pub long : length place.onward ≡ length steps
  pub edges : (m : ℕ) (s : Step) (a : Arrival) → slice_get steps m ≡ Some s → slice_get place.onward m ≡ Some a → a.edge ≡ Some s.edge
  pub takes : (w : World) → TakesIn parts predicates ends old new answers row p truths ended steps place.onward w
  pub onward : (m : ℕ) (s : Step) (a : Arrival) (e : Edge) (q : Pair) → slice_get steps m ≡ Some s → slice_get place.onward m ≡ Some a → Follows parts s.edge e p q → IsArrival parts entry new q a

-- no way of a row is taken in any world
abbrev pub NeverTaken : List Gate → List Arrival → Type 0
NeverTaken gates row = (w : World) (k : ℕ) (a : Arrival) → slice_get row k ≡ Some a → lit_holds gates a.guard w ≡ true → ⊥

-- the arrival along an edge that is taken in no world
abbrev pub closed_step : Step → Arrival
closed_step s = record { edge = Some s.edge; guard = record { wire = 0; negated = true }; state = None }

-- A place to which no run comes: literals of the constant, so many, and arrivals that are taken in no world.
pub record IsClosedPlace (node count : ℕ) (row : List Arrival) (steps : List Step) (place : Place) : Type 0 where
  pub truths : List Lit
  pub constant : All (λ (l : Lit). l.wire ≡ 0) truths
  pub truth_count : length truths ≡ count
  pub entries : place.entries ≡ map (entry_at node truths (record { wire = 0; negated = true })) row
  pub onward : place.onward ≡ map closed_step steps

-- a place to which runs come as they were met
abbrev pub IsOpenPlace : GraphParts → Predicates → ℕ → Ends → List (List Lit) → List Gate → List Gate → Met → List Arrival → Pair → List Step → Place → Type 0
IsOpenPlace parts predicates entry ends answers mid new met row p steps place =
    (old : List Gate) (most : ℕ) → Grows old mid most → All (All (IsWire old)) answers → Meets parts entry p old mid row met → IsPlace parts predicates entry ends answers old new row p steps place

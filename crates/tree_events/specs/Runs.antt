-- What happens in a run of a function, and how it ends.
use Rattle.std.specs.Prelude.{ℕ, List, [], Option, Some, None, slice_get}
use Rattle.c_meaning.specs.declared.input.Input.{Input}
use Rattle.c_typed_trees.specs.declared.unit.Typed.{Typed}
use Rattle.c_typed_trees.specs.declared.unit.TypedFunction.{TypedFunction}
use Rattle.tree_events.specs.declared.edge_events.event.Event.{Event}
use Rattle.tree_meaning.specs.declared.ends.TreeEnd.{TreeEnd}
use Rattle.tree_meaning.specs.declared.ends.TreeEnd.TheVariants as ends
use Rattle.tree_meaning.specs.declared.way.Way.{Way}
use Rattle.tree_meaning.specs.Ends.{first_activation, first_store, run_end}
use Rattle.tree_events.specs.Outcomes.{Told}
use Rattle.tree_events.specs.Trees.{body_does, calls_in}

-- what a function does on an input, with so many turns
abbrev pub function_told : Typed → TypedFunction → Input → ℕ → Told Way
function_told t f input turns = body_does t (calls_in t (first_activation t f)) f (first_activation t f) (first_store t f input turns)

-- the events of it, and how it ends; a function that isn't there is blocked
abbrev pub events_if : Typed → Option TypedFunction → Input → ℕ → List Event
events_if t None input turns = []
events_if t (Some f) input turns = (function_told t f input turns).events

abbrev pub end_if : Typed → Option TypedFunction → Input → ℕ → TreeEnd
end_if t None input turns = ends.Blocked
end_if t (Some f) input turns = run_end t f (function_told t f input turns).done

-- what happens in the run of a unit's function of a number, in order, and how it ends
abbrev pub tree_events : Typed → ℕ → Input → ℕ → List Event
tree_events t entry input turns = events_if t (slice_get t.functions entry) input turns

abbrev pub told_end : Typed → ℕ → Input → ℕ → TreeEnd
told_end t entry input turns = end_if t (slice_get t.functions entry) input turns

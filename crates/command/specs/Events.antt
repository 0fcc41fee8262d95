-- What happens in the runs of inputs, as it is listed.
use Rattle.std.specs.Prelude.{◌≡◌, ℕ, List, map}
use Rattle.std.specs.List.{All}
use Rattle.cfa.specs.declared.parts.GraphParts.{GraphParts}
use Rattle.c_meaning.specs.declared.input.Input.{Input}
use Rattle.tree_events.specs.declared.edge_events.event.Event.{Event}
use Rattle.path_runner.specs.declared.path.PathRecord.{PathRecord}
use Rattle.path_runner.specs.declared.path.RunEnd.{RunEnd}
use Rattle.measurer_laws.specs.path_events.Laws.{HappensBy}
use Rattle.report.specs.EventsText.{events_text, told_run}
use Rattle.c_typed_trees.specs.declared.unit.Typed.{Typed}
use Rattle.command.specs.RunList.{ending, unless_many}
use Rattle.command.specs.Runs.{EntryFunction, no_predicates, run_of, runs_of}
use Rattle.command.specs.Said.{Said}

-- how these runs end, and what their edges tell, or the refusal of too many edges
abbrev pub told_of : GraphParts → ℕ → List PathRecord → Said
told_of graph entry runs = unless_many runs (events_text graph entry (map (told_run graph) (map ending runs)))

-- of the runs of these inputs, each cut after so many edges
abbrev pub eventful : GraphParts → EntryFunction → ℕ → List Input → Said
eventful graph entry steps inputs = told_of graph entry.number (runs_of graph entry.function no_predicates steps inputs)

-- that is said
abbrev pub IsEventful : GraphParts → EntryFunction → ℕ → List Input → Said → Type 0
IsEventful graph entry steps inputs said = said ≡ eventful graph entry steps inputs

-- how an input's run is listed: its end, and its events
abbrev pub told_at_input : GraphParts → EntryFunction → ℕ → Input → RunEnd × List Event
told_at_input graph entry steps input = told_run graph (ending (run_of graph entry.function no_predicates steps input))

-- By the trees that is so: where the run isn't cut, with more turns than edges it ends so, and these are all of its events; and
-- where it is, they are its first ones.
abbrev pub IsOfTrees : GraphParts → Typed → EntryFunction → ℕ → Input → Type 0
IsOfTrees graph typed entry steps input =
    HappensBy typed entry.number input steps (told_at_input graph entry steps input).0 (told_at_input graph entry steps input).1

-- what is said of these inputs, each line of which is so by the trees
pub record AreEvents (graph : GraphParts) (typed : Typed) (entry : EntryFunction) (steps : ℕ) (given : List Input) (said : Said) : Type 0 where
  pub text : said ≡ eventful graph entry steps given
  pub trees : All (IsOfTrees graph typed entry steps) given

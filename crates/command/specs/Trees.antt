-- How the runs of inputs end by the meaning of the trees.
use Rattle.std.specs.Prelude.{ℕ, List, map}
use Rattle.c_meaning.specs.declared.input.Input.{Input}
use Rattle.cfa.specs.declared.parts.GraphParts.{GraphParts}
use Rattle.path_runner.specs.declared.path.RunEnd.{RunEnd}
use Rattle.path_runner.specs.declared.path.RunEnd.TheVariants as run
use Rattle.report.specs.Texts.{inputs_text}
use Rattle.tree_meaning.specs.Ends.{tree_end}
use Rattle.tree_meaning.specs.declared.ends.TreeEnd.{TreeEnd}
use Rattle.tree_meaning.specs.declared.ends.TreeEnd.TheVariants as tree
use Rattle.c_typed_trees.specs.declared.unit.Typed.{Typed}
use Rattle.command.specs.Runs.{EntryFunction}
use Rattle.command.specs.Said.{Said, answered}

-- the end of a run as it is listed: one for which no turn was left is cut
abbrev pub listed_end : TreeEnd → RunEnd
listed_end (tree.Returned value) = run.Returned value
listed_end (tree.Trapped trap) = run.Trapped trap
listed_end tree.Blocked = run.Blocked
listed_end tree.TooDeep = run.TooDeep
listed_end tree.OutOfTurns = run.Cut

-- how an input's run ends, with so many turns
abbrev pub end_on_trees : Typed → ℕ → ℕ → Input → RunEnd
end_on_trees typed entry turns input = listed_end (tree_end typed entry input turns)

abbrev pub ends_on_trees : Typed → ℕ → ℕ → List Input → List RunEnd
ends_on_trees typed entry turns inputs = map (end_on_trees typed entry turns) inputs

-- the lines of these inputs' ends
abbrev pub ended : GraphParts → Typed → EntryFunction → ℕ → List Input → Said
ended graph typed entry turns inputs = answered (inputs_text graph entry.number (ends_on_trees typed entry.number turns inputs))

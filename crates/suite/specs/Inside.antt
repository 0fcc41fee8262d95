-- A run of what is given that was recorded counts, and is within the bounds.
use Rattle.std.specs.Prelude.{IsTrue}
use Rattle.suite.specs.candidates.Within.{AreEdgesWithin}
use Rattle.suite_problem.specs.declared.given.Given.{Given}
use Rattle.path_runner.specs.Counted.{counts_end}
use Rattle.path_runner.specs.declared.path.PathRecord.{PathRecord}

abbrev pub IsProper : Given → PathRecord → Type 0
IsProper given path =
    IsTrue (counts_end given.ends path.end) × AreEdgesWithin given.planned.entry.graph.now given.bounds given.planned.entry.function.now path.edges

use Rattle.std.proofs.Common.{subst, sym}
use Rattle.path_runner.specs.declared.path.PathRecord.{PathRecord}
use Rattle.measurer_hits.specs.hits.Hits.{Hits}
use Rattle.measurer_hits.proofs.hits.laws.paths_of_hits.Goals as goal

pub returns : goal.returns
returns c parts entry p plan ends limit goal input h few =
    let found = c.recorded_runs.ensures parts entry input p limit ends h.run h.is_run few in
    let P : PathRecord → Type 0 = λ run. Hits plan ends goal run in
    subst P (sym found.0) h.hits

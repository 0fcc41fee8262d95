use Rattle.std.proofs.Common.{subst}
use Rattle.path_runner.specs.declared.path.PathRecord.{PathRecord}
use Rattle.measurer_hits.specs.hits.Hits.{Hits}
use Rattle.measurer_hits.proofs.hits.laws.hits_by_their_paths.Goals as goal

pub returns : goal.returns
returns c parts entry p plan ends limit goal input h =
    let found = c.counted_paths.ensures parts entry input p limit ends h.counted in
    let P : PathRecord → Type 0 = λ run. Hits plan ends goal run in
    record { run = found.0; is_run = found.1; hits = subst P found.2 h }

-- Which recorded runs are counted.
use Rattle.std.specs.Prelude.{Bool, true, false}
use Rattle.c_meaning.specs.declared.ends.Ends.{Ends}
use Rattle.c_meaning.specs.Runs.{counts_any, counts_traps}
use Rattle.path_runner.specs.declared.path.RunEnd.{RunEnd}
use Rattle.path_runner.specs.declared.path.RunEnd.TheVariants as ended

-- a recorded run that ends so is counted as the run is, and one that is cut never
abbrev pub counts_end : Ends → RunEnd → Bool
counts_end ends (ended.Returned value) = true
counts_end ends (ended.Trapped trap) = counts_traps ends
counts_end ends ended.Blocked = counts_any ends
counts_end ends ended.TooDeep = counts_any ends
counts_end ends ended.Cut = false

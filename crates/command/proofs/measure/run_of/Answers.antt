use Rattle.command.specs.Runs.{run_of}
use Rattle.command.proofs.measure.run_of.Goals as goal

pub returns : goal.returns
unfolding run_of
returns c = let path = rw c.args.entry.now.there at c.trace_run.ensures.path in path

use Rattle.measurer_hits.proofs.run_laws.Traces.{one_trace}
use Rattle.measurer_hits.proofs.run_laws.laws.one_trace.Goals as goal

pub returns : goal.returns
returns c = one_trace

use Rattle.measurer_hits.proofs.run_laws.Ends.{states_compose}
use Rattle.measurer_hits.proofs.run_laws.laws.states_compose.Goals as goal

pub returns : goal.returns
returns c = states_compose

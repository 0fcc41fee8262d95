use Rattle.command_laws.proofs.due_laws.Remeasured.{made_inputs_are_measured_whole}
use Rattle.command_laws.proofs.due_laws.laws.made_inputs_are_measured_whole.Goals as goal

pub returns : goal.returns
returns c = made_inputs_are_measured_whole c.made_runs_are_short.ensures c.recorded_runs.ensures c.one_list_of_hits.ensures

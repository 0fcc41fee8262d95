use Rattle.command_laws.proofs.due_laws.Remeasured.{made_inputs_are_measured}
use Rattle.command_laws.proofs.due_laws.laws.made_inputs_are_measured.Goals as goal

pub returns : goal.returns
returns c = made_inputs_are_measured c.recorded_runs.ensures c.one_list_of_hits.ensures

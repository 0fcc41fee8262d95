use Rattle.bounds_check_laws.proofs.ending_laws.Stays.{staying_inputs_end}
use Rattle.bounds_check_laws.proofs.ending_laws.staying_inputs_end.Goals as goal

pub returns : goal.returns
returns c = staying_inputs_end

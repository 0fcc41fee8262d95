use Rattle.bounds_check_laws.proofs.ending_laws.Asked.{counted_ends_return}
use Rattle.bounds_check_laws.proofs.ending_laws.counted_ends_return.Goals as goal

pub returns : goal.returns
returns c = counted_ends_return

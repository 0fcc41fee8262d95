use Rattle.c_type_rules.proofs.FirstLaws.{first_is_first, none_is_none}
use Rattle.c_type_rules.proofs.laws.first_of_faults.Goals as goal

pub returns : goal.returns
returns c = (first_is_first, none_is_none)

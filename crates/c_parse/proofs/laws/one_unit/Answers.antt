use Rattle.c_parse.proofs.UnitLaws.{one_unit}
use Rattle.c_parse.proofs.laws.one_unit.Goals as goal

pub returns : goal.returns
returns c = one_unit

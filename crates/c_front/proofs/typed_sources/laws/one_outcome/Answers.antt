use Rattle.c_front.proofs.typed_sources.OneOutcome as laws
use Rattle.c_front.proofs.typed_sources.laws.one_outcome.Goals as goal

pub returns : goal.returns
returns c = laws.one_outcome c.one_reading.ensures.one c.one_reading.ensures.some c.one_unit_outcome.ensures c.first_of_faults.ensures c.one_refusal_of_types.ensures

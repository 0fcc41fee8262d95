use Rattle.c_front.specs.typed_sources.Trees.{at_types}
use Rattle.c_front.proofs.typed_sources.sources.typed.Goals as goal

pub returns-clause-refused : goal.returns-clause-refused
returns-clause-refused c = λ code p is.
    at_types c.in_ok-unit.unit.items c.in_ok-unit.ensures.accepted (c.check.ensures.refused code p is)

use Rattle.std.proofs.Common.{refl}
use Rattle.cfa.proofs.Faults.{memory_alone}
use Rattle.cfa.proofs.graph.Graph.new.Goals as goal

pub returns-clause-ok : goal.returns-clause-ok
returns-clause-ok c = (refl, record { edges = c.in-None.ensures; rest = c.in_ok-rest_fits.ensures.0 c.if-not-branch.false })

pub returns-in-Some-clause-complete : goal.returns-in-Some-clause-complete
returns-in-Some-clause-complete c graph = memory_alone c.args.parts _ graph c.in-Some.ensures

use Rattle.cfa.proofs.Places.{outgoing_tells}
use Rattle.cfa.proofs.laws.outgoing_edges.Goals as goal

pub returns : goal.returns
returns c = outgoing_tells

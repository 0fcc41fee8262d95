use Rattle.std.proofs.Common.{arith}
use Rattle.measurer_index.specs.declared.gap_words.piece.Piece.TheVariants.{Edge}
use Rattle.measurer_index.proofs.gap_words.Starts.{edge_first, node_first}
use Rattle.measurer_index.proofs.gap_words.parts.likely_start.Goals as goal

pub returns-in-Edge : goal.returns-in-Edge
returns-in-Edge c = edge_first c.args.path.now c.in-Edge.edge c.args.part.now (Edge 0) (omega arith) c.in-Edge.is c.args.start c.next_edge.result c.next_edge.ensures

pub returns-in-Node : goal.returns-in-Node
returns-in-Node c = node_first c.args.path.now c.next_node.ensures.path c.in-Node.node c.args.part.now (Edge 0) (omega arith) c.in-Node.is c.args.start c.next_node.result c.next_node.ensures.nodes

pub returns-then-size-eq0 : goal.returns-then-size-eq0
returns-then-size-eq0 c = c.state_at.ensures c.args.part.now

pub returns-in_default : goal.returns-in_default
returns-in_default c = c.state_at-in_default.ensures c.args.part.now

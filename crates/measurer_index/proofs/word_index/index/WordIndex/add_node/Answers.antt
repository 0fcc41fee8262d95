use Rattle.std.proofs.Common.{sym}
use Rattle.measurer_index.proofs.word_index.Begun.{by_node}
use Rattle.measurer_index.proofs.word_index.Steps.{on_ok}
use Rattle.measurer_index.proofs.word_index.index.WordIndex.add_node.Goals as goal

pub returns : goal.returns
returns c =
    on_ok c.add_begun.result _ _
    (λ h. by_node c.args.goals.now c.args.self.now.order c.args.self.now.absents c.args.path.now c.args.last c.args.at c.node_at-node.result h.0 h.1.0 (sym c.node_at-node.ensures) _ _ h.1.1)
    c.add_begun.ensures

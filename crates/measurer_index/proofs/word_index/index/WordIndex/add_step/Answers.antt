use Rattle.std.proofs.Common.{OnOk, sym, subst}
use Rattle.measurer_index.specs.word_index.Groups.{Continues}
use Rattle.measurer_index.specs.word_index.Numbers.{Adds}
use Rattle.measurer_index.specs.word_index.Tables.{IsStep, root}
use Rattle.measurer_index.proofs.word_index.index.WordIndex.add_step.Goals as goal

pub returns-then-edges : goal.returns-then-edges
returns-then-edges c =
    subst (λ e. OnOk c.add_edge.result (Adds (Continues c.args.goals.now c.args.self.now.order c.args.path.now c.args.last (IsStep e) (root c.args.self.now.order c.args.self.now.absents) c.args.at) c.args.numbers.now c.add_edge.new.numbers)) (sym c.if-edges.true) c.add_edge.ensures

pub returns-else-edges : goal.returns-else-edges
returns-else-edges c =
    subst (λ e. OnOk c.add_node.result (Adds (Continues c.args.goals.now c.args.self.now.order c.args.path.now c.args.last (IsStep e) (root c.args.self.now.order c.args.self.now.absents) c.args.at) c.args.numbers.now c.add_node.new.numbers)) (sym c.if-edges.false) c.add_node.ensures

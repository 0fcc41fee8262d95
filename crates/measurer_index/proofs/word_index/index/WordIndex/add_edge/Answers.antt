use Rattle.std.proofs.Common.{◌≡◌, ◌+◌, ◌≤◌, ap, length, suc, subst, sym, arith}
use Rattle.measurer_index.specs.word_index.Groups.{Continues, IsAny}
use Rattle.measurer_index.specs.word_index.Numbers.{Adds}
use Rattle.measurer_index.proofs.word_index.Begun.{by_edge, no_edge}
use Rattle.measurer_index.proofs.word_index.Steps.{on_ok}
use Rattle.measurer_index.proofs.word_index.index.WordIndex.add_edge.Goals as goal

pub returns-then-at-edges : goal.returns-then-at-edges
returns-then-at-edges c =
    let size = ap length c.edges.ensures.edges in
    let past : length c.args.path.now.edges ≤ c.args.at = omega (arith, size, c.if-at-edges.true) in
    no_edge c.args.goals.now c.args.self.now.order c.args.self.now.absents c.args.path.now c.args.last c.args.at c.args.numbers.now past

pub returns : goal.returns
returns c =
    let next : c.args.at + 1 ≡ suc c.args.at = omega arith in
    on_ok c.add_begun.result _ _
    (λ h. by_edge c.args.goals.now c.args.self.now.order c.args.self.now.absents c.args.path.now c.args.last c.args.at c.edge_at-edge.result h.0 h.1.0 (sym c.edge_at-edge.ensures) _ _
    (subst (λ k. Adds (Continues c.args.goals.now c.args.self.now.order c.args.path.now c.args.last IsAny h.0 k) c.args.numbers.now c.add_begun.new.numbers) next h.1.1))
    c.add_begun.ensures

use Rattle.std.proofs.Common.{◌≡◌, ◌≤◌, subst, arith}
use Rattle.measurer_index.specs.word_index.Numbers.{Adds}
use Rattle.measurer_index.proofs.word_index.Steps.{RankNumbers, ranks_more}
use Rattle.measurer_index.proofs.word_index.walk.add_ranks.Goals as goal

pub loop-rank-preserved : goal.loop-rank-preserved
loop-rank-preserved c =
    let le : c.args.low ≤ c.loop-rank.rank = omega arith in
    ranks_more c.args.order.now c.args.low c.loop-rank.rank c.in_ok-number.number _ _ _ le c.in_ok-number.ensures c.loop-rank.invariant c.in_ok-add.ensures

pub returns : goal.returns
returns c =
    let e : c.loop-rank.rank ≡ c.args.high = omega arith in
    subst (λ k. Adds (RankNumbers c.args.order.now c.args.low k) c.args.numbers.now c.loop-rank.numbers) e c.loop-rank.invariant

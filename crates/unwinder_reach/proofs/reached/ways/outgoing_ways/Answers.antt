use Rattle.std.proofs.Common.{◌≡◌, [], ◌++◌, sym, ap, ◌∙◌, subst}
use Rattle.std.specs.List.Sorted.{IsStrictlyIncreasing}
use Rattle.unwinder_reach.proofs.reached.Rising.{outgoing_rise}
use Rattle.unwinder_reach.proofs.reached.ways.outgoing_ways.Goals as goal

pub returns-clause-rising : goal.returns-clause-rising
returns-clause-rising c =
    let none : c.new-ways.result.items ≡ [] = cc in
    let all = c.in_ok-extend_from_slice.ensures.items ∙ ap (λ l. l ++ c.outgoing.result.now) none ∙ c.outgoing.ensures in
    subst IsStrictlyIncreasing (sym all) (outgoing_rise c.args.graph.now c.args.node)

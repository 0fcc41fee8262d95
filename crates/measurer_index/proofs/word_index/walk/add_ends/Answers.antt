use Rattle.measurer_index.proofs.word_index.Steps.{ends, no_ends}
use Rattle.measurer_index.proofs.word_index.walk.add_ends.Goals as goal

pub returns-in_ok-add_ranks : goal.returns-in_ok-add_ranks
returns-in_ok-add_ranks c goals past =
    ends goals c.args.order.now c.args.path.now c.args.last c.args.group c.args.at c.args.rest _ _ past c.requires.at (c.may_end.ensures.yes c.if-may_end.true) c.in_ok-add_ranks.ensures

pub returns-else-may_end : goal.returns-else-may_end
returns-else-may_end c goals past =
    let h = c.may_end.ensures.no c.if-may_end.false in
    no_ends goals c.args.order.now c.args.path.now c.args.last c.args.group c.args.at c.args.numbers.now h.0 h.1

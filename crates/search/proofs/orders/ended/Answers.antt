use Rattle.search.proofs.RoundLaws.{end_more}
use Rattle.search.proofs.orders.ended.Goals as goal

pub returns-in-Ended : goal.returns-in-Ended
returns-in-Ended c =
    let is = rw c.in-Ended.is at c.in_ok-found.ensures in
    end_more c.args.formula.now c.args.moves c.args.budget c.requires.within c.in-Ended.found is

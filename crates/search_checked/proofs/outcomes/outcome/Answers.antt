use Rattle.search_checked.proofs.outcomes.outcome.Goals as goal

pub returns : goal.returns
returns c = c.confirmed.ensures c.args.budget c.in_ok-found.ensures.found

use Rattle.search.proofs.orders.found_whole.Goals as goal

pub found_of-requires : goal.found_of-requires
found_of-requires c = record { is = (c.args.formula.now, (c.args.budget, c.in_ok-lowest.ensures)) }

pub returns-then-not-matches : goal.returns-then-not-matches
returns-then-not-matches c = c.found_of.ensures c.args.formula.now c.args.budget c.in_ok-lowest.ensures

pub found_of-requires-in-None : goal.found_of-requires-in-None
found_of-requires-in-None c = record { is = (c.args.formula.now, (c.args.budget, c.in_ok-lowest.ensures)) }

pub returns-in-None : goal.returns-in-None
returns-in-None c = c.found_of-in-None.ensures c.args.formula.now c.args.budget c.in_ok-lowest.ensures

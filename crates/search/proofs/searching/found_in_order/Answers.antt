use Rattle.search.proofs.searching.found_in_order.Goals as goal

pub found_of-requires : goal.found_of-requires
found_of-requires c = record { is = (c.args.formula.now, (c.args.budget, c.in_ok-ending.ensures)) }

pub returns : goal.returns
returns c = c.found_of.ensures c.args.formula.now c.args.budget c.in_ok-ending.ensures

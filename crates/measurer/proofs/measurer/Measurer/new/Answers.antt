use Rattle.measurer.proofs.measurer.Measurer.new.Goals as goal

pub returns-clause-plan : goal.returns-clause-plan
returns-clause-plan c = record { tables = c.in_ok-tables_of.ensures; known = c.new.ensures c.args.plan.now }

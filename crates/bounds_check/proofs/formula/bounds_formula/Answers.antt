use Rattle.bounds_check.proofs.Short.{own_bits}
use Rattle.bounds_check.proofs.formula.bounds_formula.Goals as goal

pub returns-in-Ok-clause-exact : goal.returns-in-Ok-clause-exact
returns-in-Ok-clause-exact c =
    let b = c.args.bounded.now in
    own_bits b.entry.graph.now b.entry.function.now b.bounds c.in-Ok.formula c.in-Ok.ensures.exact

use Rattle.bounds_check.proofs.Short.{open_where_short}
use Rattle.bounds_check.proofs.sufficing.bounds_suffice.Goals as goal

pub returns-in-Ok-clause-enough : goal.returns-in-Ok-clause-enough
returns-in-Ok-clause-enough c =
    let b = c.args.bounded.now in
    open_where_short b.entry.graph.now b.entry.function.now b.bounds c.args.budget c.in-Ok.suffice c.in-Ok.ensures

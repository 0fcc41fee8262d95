use Rattle.unwinder_reach.proofs.reached.search.search_from.Goals as goal

pub returns-in-Err-clause-err : goal.returns-in-Err-clause-err
returns-in-Err-clause-err c = c.in-Err.ensures.err c.args.bounds.now

pub returns-in-Err-advance-clause-err : goal.returns-in-Err-advance-clause-err
returns-in-Err-advance-clause-err c = let kept = c.pairs.invariant in c.in-Err-advance.ensures.err kept.0 c.args.function.now kept.1

pub pairs-preserved : goal.pairs-preserved
pairs-preserved c = let kept = c.pairs.invariant in (kept.0, c.in-Ok-advance.ensures.ok kept.0 c.args.function.now kept.1)

pub pairs-smaller : goal.pairs-smaller
pairs-smaller c = let kept = c.pairs.invariant in c.in-Ok-advance.ensures.work kept.0 c.args.function.now kept.1

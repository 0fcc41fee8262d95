use Rattle.measurer.proofs.KnownHits.{one_more}
use Rattle.measurer.proofs.known.KnownPaths.keep.Goals as goal

pub returns-in_err-insert-2 : goal.returns-in_err-insert-2
returns-in_err-insert-2 c plan are has = one_more plan _ _ _ _ _ c.in_ok-push.ensures.items c.in_ok-known.ensures.path c.in_ok-known.ensures.hits are has

pub returns : goal.returns
returns c plan are has = one_more plan _ _ _ _ _ c.in_ok-push.ensures.items c.in_ok-known.ensures.path c.in_ok-known.ensures.hits are has

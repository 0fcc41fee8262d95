use Rattle.filters.proofs.NamesLaws.{seen_by}
use Rattle.filters.proofs.names.is_seen.Goals as goal

pub returns : goal.returns
returns c = seen_by c.args.graph.now c.args.name.now _ _ _ c.deref.ensures.value c.in_ok-marks.ensures c.is_some_scope_marked-seen.ensures

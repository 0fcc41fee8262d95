use Rattle.std.proofs.Common.{sym}
use Rattle.derivation_check.proofs.NumbersLaws.{places_of_numbered}
use Rattle.derivation_check.proofs.chain.mark_step.Goals as goal

pub resolve_marked-requires : goal.resolve_marked-requires
resolve_marked-requires c = places_of_numbered _ _ _ _ _ _ _ c.requires (sym c.in-Some.ensures)

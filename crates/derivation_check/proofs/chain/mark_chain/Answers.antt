use Rattle.std.proofs.Common.{sym}
use Rattle.derivation_check.proofs.NumbersLaws.{places_of_numbered}
use Rattle.derivation_check.proofs.chain.mark_chain.Goals as goal

pub mark_all-requires : goal.mark_all-requires
mark_all-requires c = rw c.literals.ensures.value (places_of_numbered _ _ _ _ _ _ _ c.requires.places (sym c.in-Some.ensures))

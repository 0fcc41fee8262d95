use Rattle.command_laws.proofs.refuted_laws.Files.{refuted_is_unreachable}
use Rattle.command_laws.proofs.refuted_laws.refuted_is_unreachable.Goals as goal

pub returns : goal.returns
returns c = refuted_is_unreachable c.one_outcome.ensures c.unhit_is_unreachable.ensures

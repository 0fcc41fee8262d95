use Rattle.std.proofs.Common.{refl}
use Rattle.command.proofs.fshell_core.Ended.{took}
use Rattle.command.proofs.fshell_core.answers.answer.Goals as goal

pub returns-clause-answers : goal.returns-clause-answers
returns-clause-answers g c = took _ _ (λ said due. (_, refl, due)) _ _ _ _ _ _ _ _ _ c.run.result c.run.ensures.ends

use Rattle.search.proofs.TurnLaws.{refuted_ends}
use Rattle.search.proofs.machine.Machine.refuted.Goals as goal

pub returns : goal.returns
returns c = refuted_ends c.args.formula.now c.args.self c.args.line c.in_ok-refutation.field-0 c.requires.at c.requires.right c.requires.empty c.in_ok-refutation.ensures

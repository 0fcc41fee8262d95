use Rattle.command_words.specs.Reading.{texts}
use Rattle.command.proofs.AcceptedLaws.{certifies, certifies_bounds}
use Rattle.command.proofs.command.run.Goals as goal

pub returns-clause-certificate : goal.returns-clause-certificate
returns-clause-certificate g c = certifies _ (texts c.args.words.now) _ _ _ _ c.run_words.ensures

pub returns-clause-bounds_certificate : goal.returns-clause-bounds_certificate
returns-clause-bounds_certificate g c = certifies_bounds _ (texts c.args.words.now) _ _ _ _ c.run_words.ensures

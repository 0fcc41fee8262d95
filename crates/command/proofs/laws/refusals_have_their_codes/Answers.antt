use Rattle.command.proofs.CodeLaws.{none_is_usage, their_codes}
use Rattle.command.proofs.laws.refusals_have_their_codes.Goals as goal

pub returns-clause-codes : goal.returns-clause-codes
returns-clause-codes c = their_codes c.refused_by_these_codes.ensures

pub returns-clause-none : goal.returns-clause-none
returns-clause-none c = none_is_usage

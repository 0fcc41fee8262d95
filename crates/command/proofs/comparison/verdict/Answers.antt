use Rattle.std.proofs.Common.{rules}
use Rattle.derivation_check.specs.declared.verdict.Verdict.TheVariants as verdict
use Rattle.command.proofs.DueLaws.{said_nowhere}
use Rattle.command.proofs.StageLaws.{said_line}
use Rattle.command.proofs.comparison.verdict.Goals as goal

pub returns-in-BadStep : goal.returns-in-BadStep
returns-in-BadStep c = λ names. (verdict.BadStep c.in-BadStep.line, search rules, said_line names c.in-BadStep.line)

pub returns-in-NoEmptyClause : goal.returns-in-NoEmptyClause
returns-in-NoEmptyClause c = λ names. (verdict.NoEmptyClause, search rules, rw c.nowhere.ensures (said_nowhere names 93))

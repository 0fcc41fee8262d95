use Rattle.std.proofs.Common.{sym, subst}
use Rattle.suite.specs.Seeking.{IsFormulaFor, Seeking}
use Rattle.suite.proofs.deciding.searched.Goals as goal

pub answered-requires-clause-exact : goal.answered-requires-clause-exact
answered-requires-clause-exact c = subst (λ (s : Seeking). IsFormulaFor s.goal c.in_ok-formula.formula) (sym c.in_ok-formula.ensures.same) c.in_ok-formula.ensures.exact

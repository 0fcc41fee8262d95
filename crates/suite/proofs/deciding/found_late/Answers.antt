use Rattle.std.proofs.Common.{Option, sym, subst}
use Rattle.std.specs.Prelude.{IfSome}
use Rattle.search.specs.Nexts.{IsEnd}
use Rattle.search.specs.declared.found.Found.{Found}
use Rattle.suite.specs.Seeking.{IsDecidedAt, IsFormulaFor, Seeking}
use Rattle.suite.proofs.Early.{end_found}
use Rattle.suite.proofs.deciding.found_late.Goals as goal

pub answered-requires-clause-exact : goal.answered-requires-clause-exact
answered-requires-clause-exact c = subst (λ (s : Seeking). IsFormulaFor s.goal c.in_ok-formula.formula) (sym c.in_ok-formula.ensures.same) c.in_ok-formula.ensures.exact

pub returns-in-Some-clause-decided : goal.returns-in-Some-clause-decided
returns-in-Some-clause-decided c =
    let formula = c.in_ok-formula.formula.formula in
    let ended = subst (λ (o : Option Found). IfSome o (IsEnd formula c.args.budget)) c.in-Some.is c.in_ok-found.ensures in
    let decided = c.in_ok-decided.ensures c.args.budget (end_found formula c.args.budget c.in-Some.found ended) in
    subst (λ (s : Seeking). IsDecidedAt s.goal c.args.budget c.in_ok-decided.decided) c.in_ok-formula.ensures.same decided

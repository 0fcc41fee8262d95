use Rattle.std.proofs.Common.{Option, sym, subst}
use Rattle.std.specs.Prelude.{IfSome}
use Rattle.search.specs.Nexts.{IsEnd}
use Rattle.search.specs.declared.found.Found.{Found}
use Rattle.suite.specs.Seeking.{IsDecidedAt, IsFormulaFor, Seeking}
use Rattle.suite.proofs.Early.{end_found}
use Rattle.suite.proofs.deciding.found_by_parts.Goals as goal

pub returns-in-Some-clause-decided : goal.returns-in-Some-clause-decided
returns-in-Some-clause-decided c =
    let formula = c.args.formula.formula in
    let ended = subst (λ (o : Option Found). IfSome o (IsEnd formula c.args.budget)) c.in-Some.is c.in_ok-found.ensures in
    c.in_ok-decided.ensures c.args.budget (end_found formula c.args.budget c.in-Some.found ended)

pub answered-requires-in-Some-3-clause-exact : goal.answered-requires-in-Some-3-clause-exact
answered-requires-in-Some-3-clause-exact c =
    subst (λ (s : Seeking). IsFormulaFor s.goal c.args.formula) (sym c.in_ok-input.ensures.same) c.requires

pub returns-in-Some-3-clause-decided : goal.returns-in-Some-3-clause-decided
returns-in-Some-3-clause-decided c =
    let formula = c.args.formula.formula in
    let ended = subst (λ (o : Option Found). IfSome o (IsEnd formula c.args.budget)) c.in-Some-3.is c.in_ok-found-2.ensures in
    let decided = c.in_ok-decided-2.ensures c.args.budget (end_found formula c.args.budget c.in-Some-3.found ended) in
    subst (λ (s : Seeking). IsDecidedAt s.goal c.args.budget c.in_ok-decided-2.decided) c.in_ok-input.ensures.same decided

use Rattle.std.proofs.Common.{Option, sym, subst}
use Rattle.std.specs.Prelude.{IfOk, IfSome}
use Rattle.suite.specs.Seeking.{IsDecidedAt, IsFormulaFor, Seeking}
use Rattle.suite.specs.declared.decided.Decided.{Decided}
use Rattle.suite.proofs.deciding.found_early.Goals as goal

pub found_by_parts-requires : goal.found_by_parts-requires
found_by_parts-requires c = subst (λ (s : Seeking). IsFormulaFor s.goal c.in_ok-formula.formula) (sym c.in_ok-formula.ensures.same) c.in_ok-formula.ensures.exact

pub returns-clause-decided : goal.returns-clause-decided
returns-clause-decided c =
    subst (λ (s : Seeking). IfOk c.found_by_parts.result (λ (o : Option Decided). IfSome o (IsDecidedAt s.goal c.args.budget))) c.in_ok-formula.ensures.same c.found_by_parts.ensures.decided

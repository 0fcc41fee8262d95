use Rattle.std.proofs.Common.{sym, subst}
use Rattle.suite.specs.Seeking.{IsMadeFrom, IsNoneFrom, Seeking}
use Rattle.suite.specs.Told.{IsTold}
use Rattle.suite.proofs.first_round.try_early.Goals as goal

pub keep-requires : goal.keep-requires
keep-requires c =
    let told = subst (IsTold c.args.sought.now.goal) c.in-Covered.is c.in_ok-formula.ensures.told in
    (c.args.budget, subst (λ (s : Seeking). IsMadeFrom s.goal c.in-Covered.input) (sym c.in_ok-formula.ensures.same) told)

pub refute-requires : goal.refute-requires
refute-requires c =
    let told = subst (IsTold c.args.sought.now.goal) c.in-Refuted.is c.in_ok-formula.ensures.told in
    subst (λ (s : Seeking). IsNoneFrom s.goal) (sym c.in_ok-formula.ensures.same) told

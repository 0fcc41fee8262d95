use Rattle.std.proofs.Common.{◌+◌, [], ◌∷◌, ◌++◌, take, get_or, sym, subst, arith}
use Rattle.std.proofs.lemmas.List.{take_more}
use Rattle.least_input.specs.Parts.{HasUnits, IsDescent, IsLowered}
use Rattle.least_input.proofs.Descents.{stuck}
use Rattle.least_input.proofs.lowest.lower_all.Goals as goal

pub returns-in-Some : goal.returns-in-Some
returns-in-Some c =
    let base = c.args.descent.now.formula in
    let vs = c.args.variables.now in
    let i = c.loop-variable.variable-index in
    let lt = c.loop-variable-test.true in
    let new = c.lower.new.descent in
    let low = subst (IsLowered base c.args.budget (take i vs ++ get_or vs i 0 ∷ []) new) c.in-Some.is (c.in_ok-history.ensures base (take i vs) c.loop-variable.invariant) in
    let units : HasUnits base (take (i + 1) vs) new = subst (λ xs. HasUnits base xs new) (sym (take_more vs i 0 lt)) low.0 in
    stuck base c.args.budget vs new c.in-Some.history (i + 1) (omega (arith, lt)) units low.1

pub loop-variable-preserved : goal.loop-variable-preserved
loop-variable-preserved c =
    let base = c.args.descent.now.formula in
    let vs = c.args.variables.now in
    let i = c.loop-variable.variable-index in
    let lt = c.loop-variable-test.true in
    let new = c.lower.new.descent in
    let low = subst (IsLowered base c.args.budget (take i vs ++ get_or vs i 0 ∷ []) new) c.in_default.is (c.in_ok-history.ensures base (take i vs) c.loop-variable.invariant) in
    subst (λ xs. IsDescent base c.args.budget xs new) (sym (take_more vs i 0 lt)) low

use Rattle.std.proofs.Common.{rules, SFits, w32}
use Rattle.std.proofs.lemmas.Int.{to_z-of_z}
use Rattle.clause_form.proofs.TruthLaws.{pushed_three}
use Rattle.clause_form.proofs.clauses.push_conjunction.Goals as goal

pub returns : goal.returns
returns c =
    let b : SFits w32 c.args.both = search rules in
    let l : SFits w32 c.args.left = search rules in
    let r : SFits w32 c.args.right = search rules in
    let nb : SFits w32 c.negation-not_both.result = search rules in
    let nl : SFits w32 c.negation.result = search rules in
    let nr : SFits w32 c.negation-2.result = search rules in
    let vb = simp to_z-of_z at c.negation-not_both.ensures.value in
    let vl = simp to_z-of_z at c.negation.ensures.value in
    let vr = simp to_z-of_z at c.negation-2.ensures.value in
    let p = rw vb at (simp to_z-of_z at c.in_ok-push.ensures) in
    let q = rw vb at (simp to_z-of_z at c.in_ok-push-2.ensures) in
    let s = rw (vl, vr) at (simp to_z-of_z at c.in_ok-push-3.ensures) in
    pushed_three _ _ _ _ _ _ _ p q s

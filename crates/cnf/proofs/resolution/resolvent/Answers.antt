use Rattle.std.proofs.Common.{◌∙◌, rules, SFits, w32}
use Rattle.std.proofs.lemmas.Int.{to_z-of_z}
use Rattle.std.proofs.lemmas.Result.{IfOk-weaker}
use Rattle.cnf.proofs.ResolutionLaws.{has_literal-joined, literals_of_joined}
use Rattle.cnf.proofs.resolution.resolvent.Goals as goal

pub new-requires : goal.new-requires
new-requires c =
    rw (c.deref.ensures.value, c.in_ok-literals.ensures)
    (literals_of_joined _ _ _ _ c.literals.ensures.clause c.literals-2.ensures.clause)

pub returns-clause-literals : goal.returns-clause-literals
returns-clause-literals c =
    let fits = c.ranges.pivot in
    let other : SFits w32 c.negation-negated.result = search rules in
    let negated = simp to_z-of_z at c.negation-negated.ensures.value in
    let all = simp to_z-of_z at c.in_ok-literals.ensures in
    IfOk-weaker c.new.result _ _
    (λ clause same x. same x ∙ rw (c.deref.ensures.value, all, c.literals.ensures.value, c.literals-2.ensures.value, negated) (has_literal-joined c.args.left.now c.args.pivot c.args.right.now x))
    c.new.ensures.literals

use Rattle.std.proofs.Common.{◌≡◌, take, get_or, pos, subst, arith, rules, SFits, w32}
use Rattle.std.proofs.lemmas.Int.{to_z-of_z}
use Rattle.std.proofs.lemmas.List.{take_all, take_more}
use Rattle.cnf.proofs.ClauseLaws.{rises, rises_more}
use Rattle.cnf.specs.Clauses.{IsClause, literal_key}
use Rattle.search_lemmas.proofs.naming.do_rise.Goals as goal

pub loop-literal-preserved : goal.loop-literal-preserved
loop-literal-preserved c =
    let i = c.loop-literal.literal-index in
    let literals = c.args.literals.now in
    let x = get_or literals i (pos 0) in
    let fits : SFits w32 (get_or literals i (pos 0)) = search rules in
    let key : c.literal_key-key.result ≡ literal_key x = rw (to_z-of_z _ _ fits) at c.literal_key-key.ensures.value in
    let rise = rises_more 0 (take i literals) c.loop-literal.low x c.loop-literal.invariant (omega (arith, key)) (omega (arith, key)) in
    rw (take_more literals i (pos 0) (omega arith)) (rw key rise)

pub returns : goal.returns
returns c = λ yes.
    let i = c.loop-literal.literal-index in
    let literals = c.args.literals.now in
    let risen = rises 0 (take i literals) c.loop-literal.low c.loop-literal.invariant in
    subst IsClause (take_all i literals (omega arith)) risen

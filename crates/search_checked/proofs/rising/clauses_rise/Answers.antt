use Rattle.std.proofs.Common.{length, subst, arith, All, ◌≤◌}
use Rattle.std.proofs.lemmas.List.{take_all}
use Rattle.std.proofs.lemmas.List.Elements.{All-more}
use Rattle.cnf.specs.Clauses.{IsClause}
use Rattle.search_checked.proofs.rising.clauses_rise.Goals as goal

pub loop-clause-preserved : goal.loop-clause-preserved
loop-clause-preserved c =
    let own : IsClause c.clause-item.result = subst IsClause c.literals.ensures.value c.literals.ensures.clause in
    All-more IsClause c.args.clauses.now c.loop-clause.clause-index c.clause-item.result c.loop-clause-test.true c.loop-clause.invariant (subst IsClause c.clause-item.is own)

pub returns : goal.returns
returns c =
    let past : length c.args.clauses.now ≤ c.loop-clause.clause-index = omega (arith, c.loop-clause-test.false) in
    subst (All IsClause) (take_all c.loop-clause.clause-index c.args.clauses.now past) c.loop-clause.invariant

use Rattle.std.proofs.Common.{length, subst, arith, All, ◌≤◌}
use Rattle.std.proofs.lemmas.List.{take_all}
use Rattle.std.proofs.lemmas.List.Elements.{All-more}
use Rattle.cnf.specs.Clauses.{IsClause}
use Rattle.search_checked.specs.Laws.{HasClause}
use Rattle.search_checked.proofs.rising.lines_rise.Goals as goal

pub loop-line-preserved : goal.loop-line-preserved
loop-line-preserved c =
    let own : HasClause c.line-item.result = subst IsClause c.literals.ensures.value c.literals.ensures.clause in
    All-more HasClause c.args.lines.now c.loop-line.line-index c.line-item.result c.loop-line-test.true c.loop-line.invariant (subst HasClause c.line-item.is own)

pub returns : goal.returns
returns c =
    let past : length c.args.lines.now ≤ c.loop-line.line-index = omega (arith, c.loop-line-test.false) in
    subst (All HasClause) (take_all c.loop-line.line-index c.args.lines.now past) c.loop-line.invariant

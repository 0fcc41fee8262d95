use Rattle.std.proofs.Common.{◌+◌, ◌<◌, ◌^◌, length, subst, arith, All}
use Rattle.cnf.specs.Clauses.{IsClause}
use Rattle.search_checked.specs.Laws.{HasClause}
use Rattle.search_checked.proofs.Pairs.{checks_are_pairs}
use Rattle.search_checked.proofs.confirming.confirm.Goals as goal

pub returns : goal.returns
returns c =
    let f = c.args.formula.now in
    let d = c.args.derivation.now in
    let rise : All IsClause f.clauses = subst (All IsClause) c.deref.ensures c.clauses_rise.ensures in
    let lines_rise : All HasClause d.lines = subst (All HasClause) c.deref-2.ensures c.lines_rise.ensures in
    let few : length f.clauses + length d.lines < 2 ^ 32 = omega (arith, c.len-clauses.ensures, c.len-lines.ensures, c.if-clauses-gt-MOST_CLAUSES.false, c.if-lines-clauses.false) in
    checks_are_pairs f d c.requires.variables c.requires.formula rise lines_rise few c.requires.checks

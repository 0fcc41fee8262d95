use Rattle.std.proofs.Common.{◌<◌, ◌≤◌, ◌-◌, length, arith, sym}
use Rattle.cnf.proofs.NumbersLaws.{numbered_line, numbered_past}
use Rattle.cnf.proofs.numbers.clause_before.Goals as goal

pub returns-then-place-own-2 : goal.returns-then-place-own-2
returns-then-place-own-2 c =
    let after : length c.args.formula.now.clauses < c.args.number = omega (arith, c.if-number-eq0.false) in
    let within : c.args.number - 1 - length c.args.formula.now.clauses < c.args.before = omega arith in
    rw c.line_clause.ensures (rw c.len-own.ensures (sym (numbered_line _ _ _ _ after within)))

pub returns-else-place-own-2 : goal.returns-else-place-own-2
returns-else-place-own-2 c =
    let after : length c.args.formula.now.clauses < c.args.number = omega (arith, c.if-number-eq0.false) in
    let past : c.args.before ≤ c.args.number - 1 - length c.args.formula.now.clauses = omega arith in
    numbered_past _ _ _ _ after past

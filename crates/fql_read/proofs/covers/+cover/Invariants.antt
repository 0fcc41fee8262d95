use Rattle.std.proofs.Common.{◌≡◌, ◌+◌, ◌-◌, ◌*◌}
use Rattle.fql_read.specs.Reading.{operators_at, level_by, expr_at}
use Rattle.fql_read.proofs.covers.+cover.Given as goal

abbrev pub decreases-expression : goal.decreases-expression
decreases-expression l = 10 * l.depth

abbrev pub decreases-closed : goal.decreases-closed
decreases-closed l = 10 * l.depth + 1

abbrev pub decreases-quoted : goal.decreases-quoted
decreases-quoted l = 10 * l.depth + 2

abbrev pub decreases-behind : goal.decreases-behind
decreases-behind l = 10 * l.depth + 2

abbrev pub decreases-operand : goal.decreases-operand
decreases-operand l = 10 * l.depth + 3

abbrev pub decreases-operation : goal.decreases-operation
decreases-operation l = 10 * l.depth + 4

abbrev pub invariant-operation-loop : goal.invariant-operation-loop
invariant-operation-loop l = operators_at (expr_at l.text l.predicates l.depth) l.part (l.end - l.counter) l.level l.tree l.rest ≡ level_by l.text l.predicates (expr_at l.text l.predicates l.depth) l.part l.level l.tokens

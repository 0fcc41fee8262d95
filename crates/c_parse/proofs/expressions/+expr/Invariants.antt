use Rattle.std.proofs.Common.{◌≡◌, ℕ, ◌+◌, ◌*◌, ◌≤◌, ◌<◌, length}
use Rattle.c_parse.specs.Reading.{arguments_at, operators_at, level_by, choice_by, expr_in}
use Rattle.c_parse.proofs.Choices.{within}
use Rattle.c_parse.proofs.Loops.{with_front}
use Rattle.c_parse.proofs.expressions.+expr.Given as goal

-- each call has fewer tokens than its caller, or as many and a lower place in this order
abbrev pub decreases-operand : goal.decreases-operand
decreases-operand l = 10 * length l.tokens.now

abbrev pub decreases-operation : goal.decreases-operation
decreases-operation l = 10 * length l.tokens.now + 1

abbrev pub decreases-conditional_expression : goal.decreases-conditional_expression
decreases-conditional_expression l = 10 * length l.tokens.now + 2

abbrev pub decreases-expression_at : goal.decreases-expression_at
decreases-expression_at l = 10 * length l.tokens.now + 3

abbrev pub decreases-arguments : goal.decreases-arguments
decreases-arguments l = 10 * length l.tokens.now + 4

abbrev pub decreases-operand_of_name : goal.decreases-operand_of_name
decreases-operand_of_name l = 10 * length l.tokens.now + 5

abbrev pub decreases-parenthesized : goal.decreases-parenthesized
decreases-parenthesized l = 10 * length l.tokens.now + 5

abbrev pub decreases-prefix : goal.decreases-prefix
decreases-prefix l = 10 * length l.tokens.now + 5

abbrev pub decreases-arguments-arguments : goal.decreases-arguments-arguments
decreases-arguments-arguments l = length l.rest

abbrev pub invariant-arguments-arguments : goal.invariant-arguments-arguments
invariant-arguments-arguments l = record {
  fewer : length l.rest ≤ length l.tokens;
  bound : ℕ;
  enough : length l.rest ≤ bound;
  so_far : with_front l.list (arguments_at expr_in bound l.rest) ≡ arguments_at expr_in (length l.tokens) l.tokens;
}

abbrev pub decreases-operation-operators : goal.decreases-operation-operators
decreases-operation-operators l = length l.rest

abbrev pub invariant-operation-operators : goal.invariant-operation-operators
invariant-operation-operators l = record {
  fewer : length l.rest < length l.tokens;
  bound : ℕ;
  enough : length l.rest ≤ bound;
  so_far : operators_at expr_in bound l.level l.span l.tree l.rest ≡ level_by expr_in l.level l.tokens;
}

abbrev pub decreases-conditional_expression-choices : goal.decreases-conditional_expression-choices
decreases-conditional_expression-choices l = length l.rest

abbrev pub invariant-conditional_expression-choices : goal.invariant-conditional_expression-choices
invariant-conditional_expression-choices l = record {
  fewer : length l.rest ≤ length l.tokens;
  so_far : within l.outer.items (choice_by expr_in l.rest) ≡ choice_by expr_in l.tokens;
}

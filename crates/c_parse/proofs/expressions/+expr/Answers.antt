use Rattle.std.proofs.Common.{◌+◌, ◌-◌, ◌<◌, length, sym, ◌∙◌, arith}
use Rattle.std.proofs.lemmas.Result.{err_from_is_err_and}
use Rattle.std.proofs.lemmas.Option.{same_Some}
use Rattle.c_parse.specs.declared.sign.Symbol.TheVariants as symbols
use Rattle.c_parse.specs.Trees.{level}
use Rattle.c_parse.specs.Reading.{tail, arguments_at, choice_by, expr_in}
use Rattle.c_parse.proofs.Agree.{tail_most, expect_fewer, type_most, choice_unbounded, level_unbounded}
use Rattle.c_parse.proofs.Shorter.{expression_fewer, operand_fewer, level_fewer}
use Rattle.c_parse.proofs.Loops.{with_no_front, operand_read, argument_fails, close_fails, arguments_end, arguments_go_on, operand_fails, operators_go_on, operators_stop}
use Rattle.c_parse.proofs.Choices.{within_none, test_fails, no_choice, second_fails, colon_fails, goes_on}
use Rattle.c_parse.proofs.expressions.+expr.Goals as goal
use Rattle.c_parse.proofs.expressions.+expr.Goals.{operation-in-Some+then-binds-level, operation-in_default}

pub arguments-returns-in_err-argument : goal.arguments-returns-in_err-argument
arguments-returns-in_err-argument t c =
    let p = err_from_is_err_and c.from_residual.result c.from_residual.ensures.1 in
    rw (p.1, p.2) (argument_fails expr_in c.arguments.list _ c.arguments.rest.now _ c.arguments.invariant.so_far _ c.in_err-argument.ensures)

pub arguments-returns-in_err-after : goal.arguments-returns-in_err-after
arguments-returns-in_err-after t c =
    let p = err_from_is_err_and c.from_residual-in_err-after.result c.from_residual-in_err-after.ensures.1 in
    rw (p.1, p.2) (close_fails expr_in c.arguments.list _ c.arguments.rest.now _ c.arguments.invariant.so_far _ c.in_ok-argument.argument _ c.in_ok-argument.ensures (sym c.if-not-starts_with.ensures) c.in_err-after.ensures)

pub arguments-returns-then-not-starts_with : goal.arguments-returns-then-not-starts_with
arguments-returns-then-not-starts_with t c =
    rw (c.in_ok-push.ensures.ok, c.into_inner.ensures) (arguments_end expr_in c.arguments.list _ c.arguments.rest.now _ c.arguments.invariant.so_far c.in_ok-argument.argument _ _ (omega (arith, c.arguments.invariant.enough, expression_fewer 0 c.arguments.rest.now c.in_ok-argument.after.now c.in_ok-argument.argument c.in_ok-argument.ensures)) c.in_ok-argument.ensures (sym c.if-not-starts_with.ensures) c.in_ok-after.ensures)

pub arguments-arguments-init : goal.arguments-arguments-init
arguments-arguments-init t c = record {
  fewer = omega arith;
  bound = length c.args.tokens.now;
  enough = omega arith;
  so_far = rw c.new-list.ensures (with_no_front (arguments_at expr_in (length c.args.tokens.now) c.args.tokens.now));
}

pub arguments-arguments-preserved : goal.arguments-arguments-preserved
arguments-arguments-preserved t c =
    let i = c.arguments.invariant in
    let few = expression_fewer 0 c.arguments.rest.now c.in_ok-argument.after.now c.in_ok-argument.argument c.in_ok-argument.ensures in
    let most = tail_most c.in_ok-argument.after.now in
    record {
      fewer = rw c.tail-rest.ensures (omega (arith, i.fewer, few, most));
      bound = i.bound - 1;
      enough = rw c.tail-rest.ensures (omega (arith, i.enough, few, most));
      so_far = rw (c.in_ok-push.ensures.ok, c.into_inner.ensures, c.tail-rest.ensures) (arguments_go_on expr_in c.arguments.list i.bound c.arguments.rest.now _ i.so_far c.in_ok-argument.argument _ (omega (arith, few, i.enough)) c.in_ok-argument.ensures (sym c.if-not-starts_with.ensures));
    }

pub arguments-arguments-smaller : goal.arguments-arguments-smaller
arguments-arguments-smaller t c =
    rw c.tail-rest.ensures (omega (arith, expression_fewer 0 c.arguments.rest.now c.in_ok-argument.after.now c.in_ok-argument.argument c.in_ok-argument.ensures, tail_most c.in_ok-argument.after.now))

pub operation-returns-in_err-right : goal.operation-returns-in_err-right
operation-returns-in_err-right t c =
    let p = err_from_is_err_and c.from_residual-in_err-right.result c.from_residual-in_err-right.ensures.1 in
    rw (p.1, p.2) (operand_fails expr_in _ c.args.level c.first_span-span.result c.operators.tree c.operators.rest.now _ c.operators.invariant.enough c.operators.invariant.so_far _ c.in-Some.op c.in-Some.ensures (omega (arith, c.level_of-binds.ensures, c.if-binds-level.false)) (rw (← c.level_of-binds.ensures, ← c.tail.ensures) c.in_err-right.ensures))

pub operation-operators-init : goal.operation-operators-init
operation-operators-init t c = record {
  fewer = operand_fewer c.args.tokens.now c.in_ok-tree.rest.now c.in_ok-tree.tree c.in_ok-tree.ensures;
  bound = length c.in_ok-tree.rest.now;
  enough = omega arith;
  so_far = rw c.first_span-span.ensures (operand_read c.args.level c.args.tokens.now c.in_ok-tree.tree c.in_ok-tree.rest.now c.in_ok-tree.ensures);
}

pub operation-operators-preserved : goal.operation-operators-preserved
operation-operators-preserved t c =
    let i = c.operators.invariant in
    let few = expression_fewer (level c.in-Some.op + 1) (tail c.operators.rest.now) c.in_ok-right.after.now c.in_ok-right.right (rw (← c.level_of-binds.ensures, ← c.tail.ensures) c.in_ok-right.ensures) in
    let most = tail_most c.operators.rest.now in
    record {
      fewer = omega (arith, i.fewer, few, most);
      bound = i.bound - 1;
      enough = omega (arith, i.enough, few, most);
      so_far = rw (c.in_ok-tree-2.ensures, c.joined.ensures) (operators_go_on expr_in _ c.args.level c.first_span-span.result c.operators.tree c.operators.rest.now _ i.enough i.so_far c.in-Some.op _ _ c.in-Some.ensures (omega (arith, c.level_of-binds.ensures, c.if-binds-level.false)) (rw (← c.level_of-binds.ensures, ← c.tail.ensures) c.in_ok-right.ensures));
    }

pub operation-operators-smaller : goal.operation-operators-smaller
operation-operators-smaller t c = omega (arith, expression_fewer (level c.in-Some.op + 1) (tail c.operators.rest.now) c.in_ok-right.after.now c.in_ok-right.right (rw (← c.level_of-binds.ensures, ← c.tail.ensures) c.in_ok-right.ensures), tail_most c.operators.rest.now)

pub conditional_expression-choices-init : goal.conditional_expression-choices-init
conditional_expression-choices-init t c = record {
  fewer = omega arith;
  so_far = rw c.new-outer.ensures.items (sym (within_none (choice_by expr_in c.args.tokens.now)));
}

pub conditional_expression-returns-in_err-test : goal.conditional_expression-returns-in_err-test
conditional_expression-returns-in_err-test t c =
    let p = err_from_is_err_and c.from_residual.result c.from_residual.ensures.1 in
    rw (p.1, p.2) (test_fails c.choices.outer.items c.choices.rest.now _ c.choices.invariant.so_far _ c.in_err-test.ensures)

pub conditional_expression-returns-then-not-starts_with : goal.conditional_expression-returns-then-not-starts_with
conditional_expression-returns-then-not-starts_with t c =
    rw c.in_ok-closed.ensures (no_choice c.choices.outer.items c.choices.rest.now _ c.choices.invariant.so_far c.in_ok-test.test _ c.in_ok-test.ensures (sym c.if-not-starts_with.ensures))

pub conditional_expression-returns-in_err-yes : goal.conditional_expression-returns-in_err-yes
conditional_expression-returns-in_err-yes t c =
    let p = err_from_is_err_and c.from_residual-in_err-yes.result c.from_residual-in_err-yes.ensures.1 in
    rw (p.1, p.2) (second_fails c.choices.outer.items c.choices.rest.now _ c.choices.invariant.so_far c.in_ok-test.test _ c.in_ok-test.ensures (sym c.if-not-starts_with.ensures) _ (rw (← c.tail.ensures) c.in_err-yes.ensures))

pub conditional_expression-returns-in_err-rest : goal.conditional_expression-returns-in_err-rest
conditional_expression-returns-in_err-rest t c =
    let p = err_from_is_err_and c.from_residual-in_err-rest.result c.from_residual-in_err-rest.ensures.1 in
    rw (p.1, p.2) (colon_fails c.choices.outer.items c.choices.rest.now _ c.choices.invariant.so_far c.in_ok-test.test _ c.in_ok-test.ensures (sym c.if-not-starts_with.ensures) c.in_ok-yes.yes c.in_ok-yes.after.now (rw (← c.tail.ensures) c.in_ok-yes.ensures) _ c.in_err-rest.ensures)

pub conditional_expression-choices-preserved : goal.conditional_expression-choices-preserved
conditional_expression-choices-preserved t c =
    let tested = level_fewer 1 c.choices.rest.now c.in_ok-test.after.now c.in_ok-test.test c.in_ok-test.ensures in
    let second = expression_fewer 0 (tail c.in_ok-test.after.now) c.in_ok-yes.after.now c.in_ok-yes.yes (rw (← c.tail.ensures) c.in_ok-yes.ensures) in
    let colon = expect_fewer symbols.Colon c.in_ok-yes.after.now c.in_ok-rest.rest.now c.in_ok-rest.ensures in
    let most = tail_most c.in_ok-test.after.now in
    record {
      fewer = omega (arith, c.choices.invariant.fewer, tested, second, colon, most);
      so_far = rw (c.in_ok-push.ensures.items, c.first_span-span.ensures) (goes_on c.choices.outer.items c.choices.rest.now _ c.choices.invariant.so_far c.in_ok-test.test _ c.in_ok-test.ensures (sym c.if-not-starts_with.ensures) c.in_ok-yes.yes c.in_ok-yes.after.now (rw (← c.tail.ensures) c.in_ok-yes.ensures) _ c.in_ok-rest.ensures);
    }

pub conditional_expression-choices-smaller : goal.conditional_expression-choices-smaller
conditional_expression-choices-smaller t c =
    let tested = level_fewer 1 c.choices.rest.now c.in_ok-test.after.now c.in_ok-test.test c.in_ok-test.ensures in
    let second = expression_fewer 0 (tail c.in_ok-test.after.now) c.in_ok-yes.after.now c.in_ok-yes.yes (rw (← c.tail.ensures) c.in_ok-yes.ensures) in
    let colon = expect_fewer symbols.Colon c.in_ok-yes.after.now c.in_ok-rest.rest.now c.in_ok-rest.ensures in
    let most = tail_most c.in_ok-test.after.now in
    omega (arith, tested, second, colon, most)

pub operation-returns : goal.operation-returns
operation-returns t c =
    elim c.match-first_infix.branch [
      | operation-in-Some+then-binds-level w ↦ operators_stop expr_in _ c.args.level c.first_span-span.result c.operators.tree c.operators.rest.now _ c.operators.invariant.enough c.operators.invariant.so_far (λ o e. let is = same_Some _ _ (w.in-Some.ensures ∙ e) in rw (← is) (omega (arith, w.level_of-binds.ensures, w.if-binds-level.true)))
      | operation-in_default w ↦ operators_stop expr_in _ c.args.level c.first_span-span.result c.operators.tree c.operators.rest.now _ c.operators.invariant.enough c.operators.invariant.so_far (λ op e. let h = w.in_default.ensures in absurd cc)
    ]

pub conditional_expression-expression_at-requires : goal.conditional_expression-expression_at-requires
conditional_expression-expression_at-requires t c =
    let tested = level_fewer 1 c.choices.rest.now c.in_ok-test.after.now c.in_ok-test.test c.in_ok-test.ensures in
    let most = tail_most c.in_ok-test.after.now in
    let fewer : length c.tail.result.now < length c.args.tokens.now = rw c.tail.ensures (omega (arith, tested, most, c.choices.invariant.fewer)) in
    (omega (arith, fewer), omega arith)

pub parenthesized-expression_at-requires : goal.parenthesized-expression_at-requires
parenthesized-expression_at-requires t c =
    let most = type_most c.args.tokens.now (c.in_ok-kind.kind, c.in_ok-kind.rest.now) c.in_ok-kind.ensures in
    let fewer = expect_fewer symbols.Close c.in_ok-kind.rest.now c.in_ok-rest.rest.now c.in_ok-rest.ensures in
    (omega (arith, most, fewer), omega arith)

pub expression_at-returns-then-level-eq0 : goal.expression_at-returns-then-level-eq0
expression_at-returns-then-level-eq0 t c = rw (c.if-level-eq0.true, choice_unbounded c.args.tokens.now) c.conditional_expression.ensures

pub expression_at-returns-else-level-eq0 : goal.expression_at-returns-else-level-eq0
expression_at-returns-else-level-eq0 t c = rw (level_unbounded c.args.level c.args.tokens.now (omega (arith, c.if-level-eq0.false))) c.operation.ensures

use Rattle.std.proofs.Common.{◌∙◌, arith}
use Rattle.std.proofs.lemmas.Result.{err_from_is_err_and}
use Rattle.std.proofs.lemmas.Option.{same_Some}
use Rattle.fql_read.specs.Reading.{expr_at}
use Rattle.fql_read.proofs.Loops.{operand_fails, operators_go_on, operators_run_out, operators_stop}
use Rattle.fql_read.proofs.covers.+cover.Goals as goal
use Rattle.fql_read.proofs.covers.+cover.Goals.{operation-else-loop-test, operation-then-loop-test+in_default, operation-then-loop-test+in-Some+then-level_of-level}

pub operation-returns-in_err-next : goal.operation-returns-in_err-next
operation-returns-in_err-next t c =
    let p = err_from_is_err_and c.from_residual-in_err-next.result c.from_residual-in_err-next.ensures.1 in
    rw (p.1, p.2) (operand_fails (expr_at c.args.text.now c.args.predicates.now c.args.depth) c.args.part _ c.loop.counter c.args.level c.loop.tree c.loop.rest.now _ c.loop.invariant _ c.in-Some.operator c.loop-test.true c.in-Some.ensures (omega (arith, c.level_of.ensures, c.if-level_of-level.false)) (rw (← c.first_column.ensures, ← c.others.ensures) c.in_err-next.ensures))

pub operation-loop-preserved : goal.operation-loop-preserved
operation-loop-preserved t c =
    operators_go_on (expr_at c.args.text.now c.args.predicates.now c.args.depth) c.args.part _ c.loop.counter c.args.level c.loop.tree c.loop.rest.now _ c.loop.invariant c.in-Some.operator _ _ c.loop-test.true c.in-Some.ensures (omega (arith, c.level_of.ensures, c.if-level_of-level.false)) (rw (← c.first_column.ensures, ← c.others.ensures) c.in_ok-next.ensures)

pub operation-returns : goal.operation-returns
operation-returns t c =
    elim c.loop-test.branch [
      | operation-else-loop-test w ↦ operators_run_out (expr_at c.args.text.now c.args.predicates.now c.args.depth) c.args.part _ c.loop.counter c.args.level c.loop.tree c.loop.rest.now _ c.loop.invariant w.loop-test.false
      | operation-then-loop-test+in_default w ↦ operators_stop (expr_at c.args.text.now c.args.predicates.now c.args.depth) c.args.part _ c.loop.counter c.args.level c.loop.tree c.loop.rest.now _ c.loop.invariant (λ op e. let h = w.in_default.ensures in absurd cc)
      | operation-then-loop-test+in-Some+then-level_of-level w ↦ operators_stop (expr_at c.args.text.now c.args.predicates.now c.args.depth) c.args.part _ c.loop.counter c.args.level c.loop.tree c.loop.rest.now _ c.loop.invariant (λ o e. let is = same_Some _ _ (w.in-Some.ensures ∙ e) in rw (← is) (omega (arith, w.level_of.ensures, w.if-level_of-level.true)))
    ]

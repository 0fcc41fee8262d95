use Rattle.std.proofs.Common.{◌≡◌, map}
use Rattle.std.proofs.lemmas.Result.{err_from_is_err_and}
use Rattle.c_typed_trees.specs.declared.expression.TypedExprForm.TheVariants as forms
use Rattle.c_lower_rules.specs.graph_of.Expressions.{value_of}
use Rattle.c_lower.proofs.ExpressionLaws.{left_turn, left_stop, left_made, left_end, left_gives, binary_result, binary_stop}
use Rattle.c_lower.proofs.values.+value.Goals as goal

pub words-loop-word-preserved : goal.words-loop-word-preserved
words-loop-word-preserved t c =
    left_turn c.args.around.now (map value_of c.args.list.now) c.args.a c.args.parts.now c.args.list.now c.loop-word.word-index c.word-item.result c.loop-word.here c.in_ok-end.end c.loop-word.parts c.value.new.parts c.in_ok-end.operand c.loop-word.operands c.push.new.self
    c.loop-word-test.true c.word-item.is c.in_ok-end.ensures.made c.in_ok-end.ensures.end c.in_ok-end.ensures.gives c.in_ok-push.ensures.ok c.loop-word.invariant

pub words-returns-clause-made : goal.words-returns-clause-made
words-returns-clause-made t c = left_made c.args.around.now (map value_of c.args.list.now) c.args.a c.args.parts.now c.args.list.now c.loop-word.word-index c.loop-word.here c.loop-word.parts c.loop-word.operands c.loop-word-test.false c.loop-word.invariant

pub words-returns-clause-end : goal.words-returns-clause-end
words-returns-clause-end t c = left_end c.args.around.now (map value_of c.args.list.now) c.args.a c.args.parts.now c.args.list.now c.loop-word.word-index c.loop-word.here c.loop-word.parts c.loop-word.operands c.loop-word-test.false c.loop-word.invariant

pub words-returns-clause-gives : goal.words-returns-clause-gives
words-returns-clause-gives t c = left_gives c.args.around.now (map value_of c.args.list.now) c.args.a c.args.parts.now c.args.list.now c.loop-word.word-index c.loop-word.here c.loop-word.parts c.loop-word.operands c.loop-word-test.false c.loop-word.invariant

pub words-returns-in_err-end-clause-err : goal.words-returns-in_err-end-clause-err
words-returns-in_err-end-clause-err t c =
    let p = err_from_is_err_and c.from_residual.result c.from_residual.ensures.1 in
    rw (p.1, p.2) (left_stop c.args.around.now (map value_of c.args.list.now) c.args.a c.args.parts.now c.args.list.now c.loop-word.word-index c.word-item.result c.loop-word.here c.loop-word.parts c.loop-word.operands c.in_err-end.field-0.0
    c.loop-word-test.true c.word-item.is c.loop-word.invariant c.in_err-end.ensures.err)

pub value-returns-in_err-middle-in-Binary-clause-err : goal.value-returns-in_err-middle-in-Binary-clause-err
value-returns-in_err-middle-in-Binary-clause-err t c =
    let p = err_from_is_err_and c.from_residual-in_err-middle-in-Binary.result c.from_residual-in_err-middle-in-Binary.ensures.1 in
    let e : c.args.tree.now.form ≡ forms.Binary c.in-Binary.op c.deref-in-Binary.result.now c.in-Binary.right = cc in
    rw (p.1, p.2) (binary_stop c.args.around.now c.args.a c.args.parts.now c.args.tree.now c.in-Binary.op c.deref-in-Binary.result.now c.in-Binary.right c.in_err-middle-in-Binary.field-0.0 e c.in_err-middle-in-Binary.ensures.err)

pub value-returns-in_ok-binary-in-Binary-clause-gives : goal.value-returns-in_ok-binary-in-Binary-clause-gives
value-returns-in_ok-binary-in-Binary-clause-gives t c =
    let e : c.args.tree.now.form ≡ forms.Binary c.in-Binary.op c.deref-in-Binary.result.now c.deref-in-Binary-2.result.now = cc in
    let k : c.deref-in-Binary-3.result.now.kind ≡ c.deref-in-Binary.result.now.kind = cc in
    binary_result c.args.around.now c.args.a c.args.parts.now c.args.tree.now c.in-Binary.op c.deref-in-Binary.result.now c.deref-in-Binary-2.result.now _ c.value-in-Binary.new.parts c.in_ok-middle-in-Binary.middle c.in_ok-middle-in-Binary.v c.in_ok-end-in-Binary.w c.in_ok-binary-in-Binary.field-0
    e c.in_ok-middle-in-Binary.ensures.made c.in_ok-middle-in-Binary.ensures.end c.in_ok-middle-in-Binary.ensures.gives c.in_ok-end-in-Binary.ensures.gives k c.in_ok-binary-in-Binary.ensures

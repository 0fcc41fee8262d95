use Rattle.std.proofs.Common.{◌+◌, ◌*◌, ◌∙◌, map, subst}
use Rattle.std.proofs.lemmas.Result.{err_from_is_err_and}
use Rattle.c_lower_rules.specs.graph_of.Builder.{after}
use Rattle.c_lower_rules.specs.graph_of.Statements.{block_row}
use Rattle.c_lower_rules.specs.graph_of.Table.{piece}
use Rattle.c_lower.specs.Stopping.{IsStop}
use Rattle.c_lower.proofs.UnitLaws.{bodies_go_on, bodies_stop, bodies_end}
use Rattle.c_lower.proofs.units.bodies.Goals as goal

pub returns-clause-made : goal.returns-clause-made
returns-clause-made c = bodies_end c.args.globals.now c.args.functions.now c.loop-i.i c.loop-i.parts _ c.loop-i-test.false c.loop-i.invariant

pub loop-i-preserved : goal.loop-i-preserved
loop-i-preserved c =
    bodies_go_on c.args.globals.now c.args.functions.now c.loop-i.i c.index-functions-i.result c.loop-i.parts c.loop-i-test.true c.index-functions-i.is _ c.block.new.parts
    (c.in_ok-block.ensures.made ∙ (λ j. after (block_row (map piece (c.deref.ensures j)) (c.in_ok-around.ensures j) (2 * c.loop-i.i) (2 * c.loop-i.i + 1)) c.loop-i.parts)) c.loop-i.invariant

pub returns-in_err-block-clause-err : goal.returns-in_err-block-clause-err
returns-in_err-block-clause-err c =
    let p = err_from_is_err_and c.from_residual-in_err-block.result c.from_residual-in_err-block.ensures.1 in
    rw (p.1, p.2)
    (bodies_stop c.args.globals.now c.args.functions.now c.loop-i.i c.index-functions-i.result c.loop-i.parts c.loop-i-test.true c.index-functions-i.is _ c.in_err-block.field-0.0 c.loop-i.invariant
    (subst (λ m. IsStop c.in_err-block.field-0.0 m) (λ j. after (block_row (map piece (c.deref.ensures j)) (c.in_ok-around.ensures j) (2 * c.loop-i.i) (2 * c.loop-i.i + 1)) c.loop-i.parts) c.in_err-block.ensures.err))

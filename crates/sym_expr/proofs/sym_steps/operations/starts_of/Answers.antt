use Rattle.std.proofs.Common.{◌∷◌, ◌++◌, [], map, ap, ◌∙◌, arith}
use Rattle.std.specs.Prelude.{slice_index_or}
use Rattle.std.proofs.lemmas.List.{take_all}
use Rattle.std.proofs.lemmas.Option.{slice_get-get_or}
use Rattle.cfa.specs.declared.expr.ArrayPlace.TheVariants as array
use Rattle.cfa.specs.Values.{array_start}
use Rattle.sym_expr.proofs.sym_steps.StepLemmas.{starts_more}
use Rattle.sym_expr.proofs.sym_steps.operations.starts_of.Goals as goal

pub overflow_cast-array_start : goal.overflow_cast-array_start
overflow_cast-array_start c =
    let at = c.loop-array.array-index in
    let small = c.requires at (slice_index_or c.args.arrays.now at (array.Global 0)) (slice_get-get_or c.args.arrays.now at (array.Global 0) c.loop-array-test.true) in
    let place = c.array_start.ensures.place [] in
    omega arith

pub loop-array-init : goal.loop-array-init
loop-array-init c = λ cells. c.new-starts.ensures

pub loop-array-preserved : goal.loop-array-preserved
loop-array-preserved c = λ cells.
    let at = c.loop-array.array-index in
    let arrays = c.args.arrays.now in
    c.in_ok-push.ensures.ok
    ∙ ap (λ xs. xs ++ c.array_start.result ∷ []) (c.loop-array.invariant cells)
    ∙ starts_more cells c.args.frame.now arrays at (slice_index_or arrays at (array.Global 0)) c.array_start.result (slice_get-get_or arrays at (array.Global 0) c.loop-array-test.true) (c.array_start.ensures.place cells)

pub returns : goal.returns
returns c = λ cells. c.loop-array.invariant cells ∙ ap (map (array_start cells c.args.frame.now)) (take_all c.loop-array.array-index c.args.arrays.now (omega arith))

use Rattle.std.proofs.Common.{◌∙◌, ap, sym, ◌||◌, ◌==◌, arith}
use Rattle.filters_paths.specs.Borders.{function_node}
use Rattle.filters_paths.proofs.BorderLaws.{any_more}
use Rattle.filters_paths.proofs.borders.function_nodes.Goals as goal

pub loop-number-preserved : goal.loop-number-preserved
loop-number-preserved c = record {
  size = omega arith;
  each = λ n. c.mark.ensures.each n ∙ ap (λ b. b || (c.function_node.result == n)) (c.loop-number.invariant.each n)
      ∙ sym (any_more (function_node c.args.border) c.args.graph.now.functions c.loop-number.number c.function_node.result n c.function_node.ensures.node);
}

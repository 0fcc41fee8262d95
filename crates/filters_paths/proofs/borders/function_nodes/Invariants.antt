use Rattle.std.proofs.Common.{◌≡◌, ◌==◌, ℕ, length, take, get_or, false}
use Rattle.std.specs.List.{list_any}
use Rattle.cfa.specs.declared.parts.Function.{Function}
use Rattle.filters_paths.specs.Borders.{function_node}
use Rattle.filters_paths.proofs.borders.function_nodes.Given as goal

abbrev pub invariant-loop-number : goal.invariant-loop-number
invariant-loop-number l = record {
  size : length l.marks.items ≡ length l.graph.nodes;
  each : (n : ℕ) → get_or l.marks.items n false ≡ list_any (λ (f : Function). function_node l.border f == n) (take l.number l.graph.functions);
}

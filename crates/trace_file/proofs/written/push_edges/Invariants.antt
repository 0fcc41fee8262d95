use Rattle.std.proofs.Common.{◌≡◌, ◌++◌, drop}
use Rattle.trace_file.specs.Written.{edges_text}
use Rattle.trace_file.proofs.written.push_edges.Given as goal

abbrev pub invariant-loop-edge : goal.invariant-loop-edge
invariant-loop-edge l = l.text.items ++ edges_text (drop l.edge-index l.edges) ≡ l.initial.text.items ++ edges_text l.edges

use Rattle.std.proofs.Common.{◌≡◌, ◌++◌, drop}
use Rattle.report.specs.GraphText.{edge_line, numbered}
use Rattle.report.proofs.automaton.push_edges.Given as goal

abbrev pub invariant-loop-number : goal.invariant-loop-number
invariant-loop-number l =
    l.text.items ++ numbered (edge_line l.graph) l.number (drop l.number l.edges)
    ≡ l.initial.text.items ++ numbered (edge_line l.graph) 0 l.edges

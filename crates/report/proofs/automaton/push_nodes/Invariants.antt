use Rattle.std.proofs.Common.{◌≡◌, ◌++◌, drop}
use Rattle.report.specs.GraphText.{node_line, numbered}
use Rattle.report.proofs.automaton.push_nodes.Given as goal

abbrev pub invariant-loop-number : goal.invariant-loop-number
invariant-loop-number l =
    l.text.items ++ numbered (node_line l.graph) l.number (drop l.number l.nodes)
    ≡ l.initial.text.items ++ numbered (node_line l.graph) 0 l.nodes

use Rattle.std.proofs.Common.{◌≡◌, ◌++◌, drop}
use Rattle.report.specs.GraphText.{spaced_names}
use Rattle.report.proofs.edges.push_spaced_names.Given as goal

abbrev pub invariant-loop-name : goal.invariant-loop-name
invariant-loop-name l =
    l.text.items ++ spaced_names (drop l.name-index l.names) ≡ l.initial.text.items ++ spaced_names l.names

use Rattle.std.proofs.Common.{◌≡◌, ◌++◌, drop}
use Rattle.report.specs.EventsText.{event_lines, told_along}
use Rattle.report.proofs.events.push_along.Given as goal

abbrev pub invariant-loop-edge : goal.invariant-loop-edge
invariant-loop-edge l =
    l.text.items ++ event_lines l.graph l.entered.items (told_along l.graph (drop l.edge-index l.edges))
    ≡ l.initial.text.items ++ event_lines l.graph l.initial.entered.items (told_along l.graph l.edges)

use Rattle.std.proofs.Common.{◌≡◌, ◌++◌, drop}
use Rattle.report.specs.EventsText.{all_after, event_lines}
use Rattle.report.proofs.events.push_events.Given as goal

abbrev pub invariant-loop-event : goal.invariant-loop-event
invariant-loop-event l = record {
  text : l.text.items ++ event_lines l.graph l.entered.items (drop l.event-index l.events) ≡ l.initial.text.items ++ event_lines l.graph l.initial.entered.items l.events;
  entered : all_after l.entered.items (drop l.event-index l.events) ≡ all_after l.initial.entered.items l.events;
}

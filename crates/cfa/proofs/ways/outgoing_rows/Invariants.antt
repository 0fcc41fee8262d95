use Rattle.std.proofs.Common.{◌≡◌, [], length, take}
use Rattle.std.specs.Prelude.{◌==◌}
use Rattle.cfa.specs.declared.parts.Edge.{Edge}
use Rattle.cfa.specs.Each.{Each}
use Rattle.cfa.specs.Table.{places_from}
use Rattle.cfa.proofs.ways.outgoing_rows.Given as goal

abbrev pub invariant-loop-node : goal.invariant-loop-node
invariant-loop-node l = record { long : length l.rows.items ≡ l._node-index; empty : Each l.rows.items (λ k row. row ≡ []) }

abbrev pub invariant-loop-i : goal.invariant-loop-i
invariant-loop-i l = record {
  long : length l.rows.items ≡ length l.parts.nodes;
  each : Each l.rows.items (λ k row. row ≡ places_from (λ (e : Edge). e.source == k) 0 (take l.i l.parts.edges));
}

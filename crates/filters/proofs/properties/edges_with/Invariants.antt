use Rattle.std.proofs.Common.{◌≡◌, ◌<◌, ◌&&◌, length, get_or, ℕ, false}
use Rattle.fql_read.specs.declared.filter.FilterForm.{out-FilterForm}
use Rattle.filters.specs.Parts.{edge_has}
use Rattle.filters.specs.Properties.{has_property}
use Rattle.filters.proofs.properties.edges_with.Given as goal

abbrev pub invariant-loop-k : goal.invariant-loop-k
invariant-loop-k l = record {
  size : length l.marks.items ≡ l.k;
  each : (k : ℕ) → k < l.k → get_or l.marks.items k false ≡ (get_or l.edges k false && edge_has l.graph (has_property l.graph (out-FilterForm l.form)) k);
}

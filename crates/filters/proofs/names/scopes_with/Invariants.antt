use Rattle.std.proofs.Common.{◌≡◌, ◌<◌, length, get_or, ℕ, false}
use Rattle.std.specs.List.{slice_get}
use Rattle.std.specs.Option.{option_map_or}
use Rattle.filters.specs.Names.{scope_has}
use Rattle.filters.proofs.names.scopes_with.Given as goal

abbrev pub invariant-loop-scope : goal.invariant-loop-scope
invariant-loop-scope l = record {
  size : length l.marks.items ≡ l.scope;
  each : (k : ℕ) → k < l.scope → get_or l.marks.items k false ≡ option_map_or (scope_has l.name) (slice_get l.graph.scopes k) false;
}

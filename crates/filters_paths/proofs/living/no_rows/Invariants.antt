use Rattle.std.proofs.Common.{◌≡◌, All, [], length}
use Rattle.filters_paths.proofs.living.no_rows.Given as goal

abbrev pub invariant-loop : goal.invariant-loop
invariant-loop l = record { size : length l.rows.items ≡ l.counter; each : All (λ row. row ≡ []) l.rows.items }

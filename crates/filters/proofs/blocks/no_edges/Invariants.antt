use Rattle.std.proofs.Common.{◌≡◌, length, get_or, ℕ}
use Rattle.filters.specs.declared.blocks.Incoming.TheVariants.{Nothing}
use Rattle.filters.proofs.blocks.no_edges.Given as goal

abbrev pub invariant-loop : goal.invariant-loop
invariant-loop l = record { size : length l.table.items ≡ l.counter; each : (n : ℕ) → get_or l.table.items n Nothing ≡ Nothing }

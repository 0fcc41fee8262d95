use Rattle.std.proofs.Common.{◌≡◌, ℕ, ◌≤◌, length}
use Rattle.c_parse.specs.ReadingItems.{items_at}
use Rattle.c_parse.proofs.LoopsItems.{with_items}
use Rattle.c_parse.proofs.items.items.Given as goal

abbrev pub decreases-items : goal.decreases-items
decreases-items l = length l.rest

abbrev pub invariant-items : goal.invariant-items
invariant-items l = record {
  bound : ℕ;
  enough : length l.rest ≤ bound;
  so_far : with_items l.list (items_at bound l.rest) ≡ items_at (length l.tokens) l.tokens;
}
